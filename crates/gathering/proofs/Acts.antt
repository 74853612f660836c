-- What is done to the slices and the numbers comes to what is done to what they stand for, act by act.
-- Assumes nothing.
use mathlib.Core.Bool.{true, false, cond}
use mathlib.Core.List.{List, [], ◌∷◌, ◌++◌, append-nil}
use mathlib.Core.Logic.{◌≢◌}
use mathlib.Core.Path.{◌≡◌, sym, ap, ◌∙◌}
use Prim.Native.Nat.{ℕ, suc, ◌+◌, ◌-◌, ◌/◌, ◌%◌}
use native.Mathlib.Numerals.{add-one}
use native.Mathlib.Omega.{arith}
use borrow.Author.Tests.{eq-eqb, ne_eqb}
use lib.ListN.{length, set, length-append}
use lib.Seq.{sets}
use Rattle.strings.proofs.Steps.{sets_append}
use Rattle.jsontext.specs.Automaton.{Bracket}
use Rattle.naming.specs.Gathering.{says, unit_is, waits_for, opens_name, shuts_name, starts}
use Rattle.gathering.specs.declared.Gathered.{Gathered}
use Rattle.gathering.specs.Held.{numbers, Does, sized, rested, one_more}

-- a list behind another
sets_end : (l a b : List ℕ) → sets (sets l 0 a) (length a) b ≡ sets l 0 (a ++ b)
sets_end l a b =
    let e : length a ≡ 0 + length a = omega arith in
    ap (λ (k : ℕ). sets (sets l 0 a) k b) e ∙ sym (sets_append l a b 0)

module _ (text words objects : List ℕ) (n : Gathered) where
  pub unit_does : (c : ℕ)
      → Does (unit_is c) text words objects n text words objects
      (record { size = n.size; filled = n.filled; values = n.values; on = n.on; begun = n.begun; left = n.left; unit = c; waits = n.waits })
  unfolding unit_is
  unit_does c t w g h =
      record { text_is = h.text_is; words_are = h.words_are; objects_are = h.objects_are; numbers_are = rw h.numbers_are }

  pub waits_does : (c : ℕ)
      → Does (waits_for c) text words objects n text words objects
      (record { size = n.size; filled = n.filled; values = n.values; on = n.on; begun = n.begun; left = n.left; unit = n.unit; waits = c })
  unfolding waits_for
  waits_does c t w g h =
      record { text_is = h.text_is; words_are = h.words_are; objects_are = h.objects_are; numbers_are = rw h.numbers_are }

  -- bytes of a name
  module _ (bs : List ℕ) where
    pub says_on : n.on ≡ true → Does (says bs) text words objects n (sets text n.size bs) words objects (sized (n.size + length bs) n)
    unfolding says
    says_on on t w g h =
        let e : g.on ≡ true = sym (ap (λ (m : Gathered). m.on) h.numbers_are) ∙ on in
        let s : n.size ≡ length g.text = ap (λ (m : Gathered). m.size) h.numbers_are in
        let more : length g.text + length bs ≡ length (g.text ++ cond g.on bs []) = rw e (sym (length-append g.text bs)) in
        record {
          text_is = rw (e, h.text_is, s) (sets_end t g.text bs);
          words_are = h.words_are;
          objects_are = h.objects_are;
          numbers_are = ap (λ (m : Gathered). sized (m.size + length bs) m) h.numbers_are ∙ ap (λ (k : ℕ). sized k (numbers g)) more;
        }

    pub says_off : n.on ≡ false → Does (says bs) text words objects n text words objects (sized n.size n)
    unfolding says
    says_off off t w g h =
        let e : g.on ≡ false = sym (ap (λ (m : Gathered). m.on) h.numbers_are) ∙ off in
        let same : g.text ≡ g.text ++ cond g.on bs [] = rw e (sym (append-nil g.text)) in
        record {
          text_is = h.text_is ∙ ap (sets t 0) same;
          words_are = h.words_are;
          objects_are = h.objects_are;
          numbers_are = ap (λ (m : Gathered). sized m.size m) h.numbers_are ∙ ap (λ (l : List ℕ). sized (length l) (numbers g)) same;
        }

  pub opens_does : (o left : ℕ)
      → Does (opens_name true o left) text words objects n (set (set text n.size (o / 256)) (n.size + 1) (o % 256)) words objects
      (record { size = n.size + 2; filled = n.filled; values = n.values; on = true; begun = n.size; left = left; unit = 0; waits = 0 })
  unfolding opens_name
  opens_does o left t w g h =
      let s : n.size ≡ length g.text = ap (λ (m : Gathered). m.size) h.numbers_are in
      let tag : List ℕ = o / 256 ∷ o % 256 ∷ [] in
      record {
        text_is = rw (h.text_is, s, add-one) (sets_end t g.text tag);
        words_are = h.words_are;
        objects_are = h.objects_are;
        numbers_are =
            ap (λ (m : Gathered). record { size = m.size + 2; filled = m.filled; values = m.values; on = true; begun = m.size; left = left; unit = 0; waits = 0 }) h.numbers_are
            ∙ ap (λ (k : ℕ). record { size = k; filled = length g.words; values = g.values; on = true; begun = length g.text; left = left; unit = 0; waits = 0 }) (sym (length-append g.text tag));
      }

  pub shuts_on : n.on ≡ true
      → Does shuts_name text words objects n text (set (set (set words n.filled n.begun) (n.filled + 1) (n.size - n.begun)) (n.filled + 2) n.left) objects (rested (n.filled + 3) n)
  unfolding shuts_name
  shuts_on on t w g h =
      let e : g.on ≡ true = sym (ap (λ (m : Gathered). m.on) h.numbers_are) ∙ on in
      let name : List ℕ = g.begun ∷ (length g.text - g.begun) ∷ g.left ∷ [] in
      let two : length g.words + 2 ≡ suc (suc (length g.words)) = omega arith in
      record {
        text_is = h.text_is;
        words_are = rw (e, h.words_are, h.numbers_are, two, add-one (length g.words)) (sets_end w g.words name);
        objects_are = h.objects_are;
        numbers_are =
            ap (λ (m : Gathered). rested (m.filled + 3) m) h.numbers_are
            ∙ ap (λ (k : ℕ). rested k (numbers g)) (rw e (sym (length-append g.words name)));
      }

  pub shuts_off : n.on ≡ false → Does shuts_name text words objects n text words objects (rested n.filled n)
  unfolding shuts_name
  shuts_off off t w g h =
      let e : g.on ≡ false = sym (ap (λ (m : Gathered). m.on) h.numbers_are) ∙ off in
      let name : List ℕ = g.begun ∷ (length g.text - g.begun) ∷ g.left ∷ [] in
      let same : g.words ≡ g.words ++ cond g.on name [] = rw e (sym (append-nil g.words)) in
      record {
        text_is = h.text_is;
        words_are = h.words_are ∙ ap (sets w 0) same;
        objects_are = h.objects_are;
        numbers_are = ap (λ (m : Gathered). rested m.filled m) h.numbers_are ∙ ap (λ (l : List ℕ). rested (length l) (numbers g)) same;
      }

  module _ (ks : List Bracket) (b : ℕ) where
    pub starts_object : b ≡ 0x7B → Does (starts ks b) text words objects n text words (set objects (length ks) n.values) (one_more n)
    unfolding starts
    starts_object e t w g h =
        let v : n.values ≡ g.values = ap (λ (m : Gathered). m.values) h.numbers_are in
        record {
          text_is = h.text_is;
          words_are = h.words_are;
          objects_are = rw (eq-eqb b 0x7B e, h.objects_are, v);
          numbers_are = ap one_more h.numbers_are;
        }

    pub starts_other : b ≢ 0x7B → Does (starts ks b) text words objects n text words objects (one_more n)
    unfolding starts
    starts_other e t w g h =
        record {
          text_is = h.text_is;
          words_are = h.words_are;
          objects_are = rw (ne_eqb b 0x7B e) h.objects_are;
          numbers_are = ap one_more h.numbers_are;
        }
