-- How far characters go on: spans of a text put together, a character read from its first byte, and what a walk and a table tell.
-- Assumes nothing.
use mathlib.Core.Bool.{true, false}
use mathlib.Core.List.{List, [], ◌∷◌, ◌++◌}
use mathlib.Core.Logic.{⊎_elim}
use mathlib.Core.Path.{◌≡◌, refl, sym, ap, subst, ◌∙◌}
use Prim.Native.Nat.{ℕ, zero, suc, ◌+◌, ◌-◌, ◌≤◌, ◌<◌}
use native.Mathlib.Nat.{eq-or-lt_of_le}
use native.Mathlib.Numerals.{add-one}
use native.Mathlib.Omega.{arith}
use lib.Dec.{eqb, ltb}
use lib.ListN.{length, take, drop, get_or, replicate, length-replicate}
use lib.Seq.{drop-cons, drop-drop, take-add, take-take, take_all}
use borrow.Author.Tests.{eq-eqb, ne_eqb, ltb-true}
use Rattle.laws.proofs.Tests.{le_or_lt, left}
use Rattle.text.specs.declared.Range.{Range}
use Rattle.text.specs.Part.{fits, part}
use Rattle.text.proofs.Ranges.{fits_le, le_fits, part_length, part_end}
use Rattle.utf8.specs.declared.State.{State}
use Rattle.utf8.specs.Automaton.{waiting, dead, begin, step, after, ends, is_utf8}
use Rattle.utf8range.specs.Places.{continues, inside}
use Rattle.ascii.specs.Runs.{Ascii}
use Rattle.reach.specs.Reach.{span, NoneFrom, CharacterAt, Walked, Reach, places, blocks, Told, AllUtf8}
use Rattle.utf8.proofs.Steps.{step_first, step_under, step_over, ends_dead, ends_cons, after_whole}
use Rattle.utf8range.proofs.Skips.{run_accepted}

-- ---- spans

module _ (text : List ℕ) where
  pub join : (from at to : ℕ) → from ≤ at → at ≤ to → span text from to ≡ span text from at ++ span text at to
  unfolding part
  join from at to h g =
      let e : to - from ≡ (at - from) + (to - at) = omega arith in
      let f : from + (at - from) ≡ at = omega arith in
      ap (λ (k : ℕ). take k (drop from text)) e
      ∙ take-add (at - from) (to - at) (drop from text)
      ∙ ap (λ (l : List ℕ). take (at - from) (drop from text) ++ take (to - at) l) (drop-drop (at - from) from text ∙ ap (λ (k : ℕ). drop k text) f)

  pub span_none : (at : ℕ) → span text at at ≡ []
  unfolding part
  span_none at = let e : at - at ≡ 0 = omega arith in ap (λ (k : ℕ). take k (drop at text)) e

  pub span_cons : (from to : ℕ) → from < to → to ≤ length text → span text from to ≡ get_or text from 0 ∷ span text (from + 1) to
  unfolding part
  span_cons from to h room =
      let e : to - from ≡ suc (to - (from + 1)) = omega arith in
      ap (λ (k : ℕ). take k (drop from text)) e ∙ rw (drop-cons text from 0 (omega arith), add-one)

  -- what is UTF-8 may be left out in front
  pub onward : (from at to : ℕ) → from ≤ at → at ≤ to → is_utf8 (span text from at) ≡ true → is_utf8 (span text from to) ≡ is_utf8 (span text at to)
  onward from at to h g good = ap is_utf8 (join from at to h g) ∙ after_whole (span text from at) (span text at to) good

ends_none : (s : State) → ends s [] ≡ eqb s.need 0
unfolding ends after
ends_none s = refl

empty : is_utf8 [] ≡ true
unfolding is_utf8 ends after
empty = refl

-- ---- a character, byte by byte: what holds where the bytes before `to` were passed
pub record Begun (text : List ℕ) (at : ℕ) (s : State) (to : ℕ) : Type 0 where
  pub on : at < to
  pub room : to ≤ length text
  pub carried : (e : ℕ) → to ≤ e → e ≤ length text → is_utf8 (span text at e) ≡ ends s (span text to e)
  pub before : (e : ℕ) → at < e → e < to → is_utf8 (span text at e) ≡ false

pub first : (text : List ℕ) (at : ℕ) → at < length text → Begun text at (begin (get_or text at 0)) (at + 1)
unfolding is_utf8
first text at h =
    record {
      on = omega arith;
      room = omega arith;
      carried = λ (e : ℕ) (l : at + 1 ≤ e) (r : e ≤ length text).
          ap is_utf8 (span_cons text at e (omega arith) r)
          ∙ ends_cons (waiting 0) (begin (get_or text at 0)) (get_or text at 0) (span text (at + 1) e) (step_first (waiting 0) (get_or text at 0) refl);
      before = λ (e : ℕ) (l : at < e) (r : e < at + 1). absurd (nothing e l r);
    }
  where
    nothing : (e : ℕ) → at < e → e < at + 1 → ⊥
    nothing e l r = omega arith

module _ {text : List ℕ} {at : ℕ} {s : State} {to : ℕ} (g : Begun text at s to) where
  here : is_utf8 (span text at to) ≡ eqb s.need 0
  here = g.carried to (omega arith) g.room ∙ ap (λ (l : List ℕ). ends s l) (span_none text to) ∙ ends_none s

  not_here : (s.need ≡ 0 → ⊥) → is_utf8 (span text at to) ≡ false
  not_here n = here ∙ ne_eqb s.need 0 n

  pub next : (s.need ≡ 0 → ⊥) → to < length text → Begun text at (step s (get_or text to 0)) (to + 1)
  next n h =
      record {
        on = omega (arith, g.on);
        room = omega arith;
        carried = λ (e : ℕ) (l : to + 1 ≤ e) (r : e ≤ length text).
            g.carried e (omega arith) r
            ∙ ap (λ (b : List ℕ). ends s b) (span_cons text to e (omega arith) r)
            ∙ ends_cons s (step s (get_or text to 0)) (get_or text to 0) (span text (to + 1) e) refl;
        before = λ (e : ℕ) (l : at < e) (r : e < to + 1).
            ⊎_elim (λ (q : e ≡ to). subst (λ (k : ℕ). is_utf8 (span text at k) ≡ false) (sym q) (not_here n)) (λ (q : e < to). g.before e l q)
            (eq-or-lt_of_le (let p : e ≤ to = omega arith in p));
      }

  -- the character ends here
  pub ended : s.need ≡ 0 → CharacterAt text at (to - at)
  ended e =
      let p : at + (to - at) ≡ to = omega (arith, g.on) in
      record {
        some = omega (arith, g.on);
        room = omega (arith, g.room, g.on);
        whole = rw p (here ∙ eq-eqb s.need 0 e);
      }

  none_yet : (s.need ≡ 0 → ⊥) → ((e : ℕ) → to < e → e ≤ length text → is_utf8 (span text at e) ≡ false) → NoneFrom text at
  none_yet n later =
      record {
        none = λ (e : ℕ) (l : at < e) (r : e ≤ length text).
            ⊎_elim
            (λ (p : to ≤ e).
            ⊎_elim (λ (q : to ≡ e). subst (λ (k : ℕ). is_utf8 (span text at k) ≡ false) q (not_here n)) (λ (q : to < e). later e q r) (eq-or-lt_of_le p))
            (λ (p : e < to). g.before e l p)
            (le_or_lt to e);
      }

  -- no byte lies between the bounds
  pub stuck : (s.need ≡ 0 → ⊥) → s.high < s.low → NoneFrom text at
  stuck n h =
      none_yet n
      (λ (e : ℕ) (l : to < e) (r : e ≤ length text).
      g.carried e (omega arith) r
      ∙ ap (λ (b : List ℕ). ends s b) (span_cons text to e l r)
      ∙ ends_cons s dead (get_or text to 0) (span text (to + 1) e) (no_byte (get_or text to 0))
      ∙ ends_dead (span text (to + 1) e))
    where
      no_byte : (b : ℕ) → step s b ≡ dead
      no_byte b = ⊎_elim (λ (l : s.low ≤ b). step_over s b n (omega arith)) (λ (l : b < s.low). step_under s b n l) (le_or_lt s.low b)

  -- the text ends within the character
  pub cut_short : (s.need ≡ 0 → ⊥) → length text ≤ to → NoneFrom text at
  cut_short n h = none_yet n (λ (e : ℕ) (l : to < e) (r : e ≤ length text). absurd (nothing e l r))
    where
      nothing : (e : ℕ) → to < e → e ≤ length text → ⊥
      nothing e l r = omega arith

-- ---- a walk from character to character
pub record Walking (text : List ℕ) (from at : ℕ) : Type 0 where
  pub on : from ≤ at
  pub room : at ≤ length text
  pub good : is_utf8 (span text from at) ≡ true

pub start : (text : List ℕ) (from : ℕ) → from ≤ length text → Walking text from from
start text from h = record { on = omega arith; room = h; good = ap is_utf8 (span_none text from) ∙ empty }

module _ {text : List ℕ} {from at : ℕ} (g : Walking text from at) where
  -- characters go on from here to r
  pub further : (r : ℕ) → at ≤ r → r ≤ length text → is_utf8 (span text at r) ≡ true → Walking text from r
  further r l h good = record { on = omega (arith, g.on); room = h; good = onward text from at r g.on l g.good ∙ good }

  pub stride : (size : ℕ) → CharacterAt text at size → Walking text from (at + size)
  stride size c = further (at + size) (omega arith) c.room c.whole

  pub walked : (end r : ℕ) → Walked text at end r → Walking text from r
  walked end r w = further r w.on w.room w.good

  -- and no further
  pub onto : (r : ℕ) → Reach text at r → Reach text from r
  onto r q =
      record {
        on = omega (arith, g.on, q.on);
        room = q.room;
        good = onward text from at r g.on q.on g.good ∙ q.good;
        no_further = λ (to : ℕ) (l : r < to) (h : to ≤ length text).
            onward text from at to g.on (omega (arith, q.on)) g.good ∙ q.no_further to l h;
      }

  pub stays : NoneFrom text at → Reach text from at
  stays n = record { on = g.on; room = g.room; good = g.good; no_further = λ (to : ℕ) (l : at < to) (h : to ≤ length text). onward text from at to g.on (omega arith) g.good ∙ n.none to l h }

-- ---- the table

pub within : (text : List ℕ) (at : ℕ) → inside text at ≡ true → at + 1 ≤ length text
unfolding inside
within text at e = omega (arith, ltb-true at (length text) (left (ltb at (length text)) (continues (get_or text at 0)) e))

pub blank : (text : List ℕ) → length text < places → Told text (replicate blocks 0)
blank text h = record { short = h; room = length-replicate {A = ℕ} blocks 0; right = λ b n. absurd (n (clear blocks b)) }
  where
    clear : (n p : ℕ) → ◌≡◌ {A = ℕ} (get_or (replicate n 0) p 0) 0
    clear zero p = refl
    clear (suc n) zero = refl
    clear (suc n) (suc p) = clear n p

-- ---- a range by what is known

-- the whole text is the range from its start to its end
pub all_of : (text : List ℕ) (r : Range) → r.start ≡ 0 → r.length ≡ length text → part text r ≡ text
unfolding part
all_of text r s l = rw (s, l) (take_all (length text) text (omega arith))

module _ (text : List ℕ) (r : Range) (f : fits (length text) r ≡ true) (to : ℕ) (q : Reach text r.start to) where
  pub too_far : to < r.start + r.length → is_utf8 (part text r) ≡ false
  too_far h =
      let e : (r.start + r.length) - r.start ≡ r.length = omega arith in
      rw e at (q.no_further (r.start + r.length) h (fits_le _ _ f))

  -- the range is the front of what goes on from its start
  pub front : r.start + r.length ≤ to → part (span text r.start to) (record { start = 0; length = r.length }) ≡ part text r
  unfolding part
  front h = take-take r.length (to - r.start) (drop r.start text) (omega arith)

  pub front_fits : r.start + r.length ≤ to → fits (length (span text r.start to)) (record { start = 0; length = r.length }) ≡ true
  front_fits h =
      let n = part_length text (record { start = r.start; length = to - r.start }) (le_fits _ _ (omega (arith, q.on, q.room))) in
      le_fits _ _ (omega arith)

accepted : (bytes : List ℕ) → ends (waiting 0) bytes ≡ ends (waiting 0) [] → is_utf8 bytes ≡ true
unfolding is_utf8 ends after
accepted bytes e = e

pub all_ascii : (text : List ℕ) → Ascii text 0 (length text) → AllUtf8 text
all_ascii text a = record { each = one }
  where
    one : (r : Range) → fits (length text) r ≡ true → is_utf8 (part text r) ≡ true
    one r f =
        let room = fits_le (length text) r f in
        let z : r.start - r.start ≡ 0 = omega arith in
        let n : (r.start + r.length) - r.start ≡ r.length = omega arith in
        let run = run_accepted text r room r.start (r.start + r.length) (omega arith) (omega arith) (omega arith) (λ (i : ℕ) (l : r.start ≤ i) (h : i < r.start + r.length). a i (omega arith) (omega arith)) (waiting 0) refl in
        accepted (part text r) (rw (z, n, part_end text r f r.length (omega arith)) at run)
