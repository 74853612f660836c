-- The act of the first pass keeps to the order of a text, and a fault that is found stays.
--     calm, going    what a byte does before a fault
--     stays          and after it
--     orderly        the theorem
-- Assumes nothing.
use mathlib.Core.Bool.{Bool, true, false, cond}
use mathlib.Core.List.{List}
use mathlib.Core.Logic.{◌≢◌, inl, inr}
use mathlib.Core.Path.{◌≡◌, refl, sym}
use Prim.Native.Nat.{ℕ, suc, ◌<◌}
use native.Mathlib.Omega.{arith}
use borrow.Author.Tests.{eq-eqb, ne_eqb, le-ltb, lt-ltb}
use lib.Dec.{eqb}
use lib.ListN.{length}
use Rattle.jsontext.specs.Text.{blank}
use Rattle.jsontext.specs.Automaton.{Bracket, Place}
use Rattle.jsontext.proofs.Spaces.{blank_low}
use Rattle.jsontext.proofs.Numbers.{Ending, Stops, at_nought, at_whole, at_part, at_power}
use Rattle.jsontext.proofs.Doing.{Waits, waits_ahead, waits_first, waits_after, waits_name, waits_first_name, waits_colon, Orderly}
use Rattle.figure.specs.declared.Figure.{Figure}
use Rattle.figure.specs.Figure.{whole_more, part_more, power_more}
use Rattle.survey.specs.declared.Watch.{Watch}
use Rattle.survey.specs.Watching.{ended, digit_or, moved, watching}

-- a number ends, if no fault was found
unfoldable pub stopping : List Bracket → Watch → Watch
stopping ks s = cond (eqb s.fault 0) (ended (length ks) s) s

either_way : {A : Type 0} (b : Bool) (x : A) → cond b x x ≡ x
either_way true x = refl
either_way false x = refl

pub going : (p : Place) (ks : List Bracket) (b : ℕ) (bs : List ℕ) (s : Watch) → s.fault ≡ 0 → watching p ks b bs s ≡ moved p (length ks) b (suc (length bs)) s
unfolding watching
going p ks b bs s e = rw (eq-eqb s.fault 0 e)

pub stopped : (ks : List Bracket) (s : Watch) → s.fault ≡ 0 → stopping ks s ≡ ended (length ks) s
unfolding stopping
stopped ks s e = rw (eq-eqb s.fault 0 e)

pub stays : (s : Watch) → s.fault ≢ 0 → (p : Place) (ks : List Bracket) (b : ℕ) (bs : List ℕ) → watching p ks b bs s ≡ s
unfolding watching
stays s e p ks b bs = rw (ne_eqb s.fault 0 e)

pub stays_stopped : (s : Watch) → s.fault ≢ 0 → (ks : List Bracket) → stopping ks s ≡ s
unfolding stopping
stays_stopped s e ks = rw (ne_eqb s.fault 0 e)

-- a byte that moves nothing
pub calm : (p : Place) (ks : List Bracket) (b : ℕ) (bs : List ℕ) (s : Watch) → moved p (length ks) b (suc (length bs)) s ≡ s → watching p ks b bs s ≡ s
unfolding watching
calm p ks b bs s e = rw e (either_way (eqb s.fault 0) s)

blank_calm : {p : Place} → Waits p → (k b left : ℕ) (s : Watch) → b < 0x21 → moved p k b left s ≡ s
blank_calm waits_ahead k b left s h = rw (le-ltb 0x20 b (omega arith))
blank_calm waits_first k b left s h = rw (ne_eqb b 0x5D (λ e. omega arith), le-ltb 0x20 b (omega arith))
blank_calm waits_after k b left s h = refl
blank_calm waits_name k b left s h = rw (le-ltb 0x20 b (omega arith))
blank_calm waits_first_name k b left s h = rw (le-ltb 0x20 b (omega arith))
blank_calm waits_colon k b left s h = refl

-- a byte that may stand after a value ends a number
digit_ends : (more : Figure → ℕ → Figure) (k b : ℕ) (s : Watch) → Ending b → digit_or more k b s ≡ ended k s
digit_ends more k b s (inl h) = rw (lt-ltb b 0x2E h)
digit_ends more k b s (inr (inl e)) = rw (le-ltb b 0x2E (omega arith), eq-eqb b 0x5D e)
digit_ends more k b s (inr (inr e)) = rw (le-ltb b 0x2E (omega arith), ne_eqb b 0x5D (λ f. omega arith), eq-eqb b 0x7D e)

moved_ends : {p : Place} → Stops p → (k b left : ℕ) (s : Watch) → Ending b → moved p k b left s ≡ ended k s
moved_ends at_nought k b left s h = digit_ends whole_more k b s h
moved_ends at_whole k b left s h = digit_ends whole_more k b s h
moved_ends at_part k b left s h = digit_ends part_more k b s h
moved_ends at_power k b left s h = digit_ends power_more k b s h

pub orderly : Orderly watching stopping
unfolding watching stopping
orderly =
    record {
      blanks = λ {p} h ks c bs s. calm p ks (blank c) bs s (blank_calm h (length ks) (blank c) (suc (length bs)) s (omega (arith, blank_low c)));
      commas = λ ks bs s. either_way (eqb s.fault 0) s;
      colons = λ ks bs s. either_way (eqb s.fault 0) s;
      words = λ w ks b bs s. either_way (eqb s.fault 0) s;
      firsts = λ ks b bs s h. rw (ne_eqb b 0x5D h);
      first_names = λ ks bs s. refl;
      empty_arrays = λ ks bs s. refl;
      empty_objects = λ ks bs s. refl;
      chars = λ c r ks b bs s. refl;
      ends = λ {p} h ks b bs s e. rw (moved_ends h (length ks) b (suc (length bs)) s e) (sym (either_way (eqb (stopping ks s).fault 0) (stopping ks s)));
    }
