-- A part of a text that is UTF-8: it is UTF-8 itself where neither of its ends stands inside a character.
-- Assumes nothing.
use mathlib.Core.Bool.{true, false}
use mathlib.Core.List.{List, [], ◌∷◌, ◌++◌}
use mathlib.Core.Logic.{◌↔◌, ⊎_elim}
use mathlib.Core.Path.{◌≡◌, refl, sym, ap, ◌∙◌}
use Prim.Native.Nat.{ℕ, zero, suc, ◌+◌, ◌-◌, ◌≤◌, ◌<◌}
use native.Mathlib.Omega.{arith}
use lib.Dec.{leb, ltb, eqb, lit≤}
use lib.ListN.{length, take, drop, get_or, take-append-drop, length-drop}
use lib.Seq.{split_at, drop-cons, take_all, drop-length, drop-drop, get_or-drop}
use borrow.Author.Tests.{lt-ltb, le-leb, ltb-true, leb-true, eqb-true, eqb-false}
use Rattle.utf8.specs.declared.State.{State}
use Rattle.text.specs.declared.Range.{Range}
use Rattle.utf8.specs.Encoding.{Utf8}
use Rattle.utf8.specs.Automaton.{waiting, dead, begin, step, after, ends, is_utf8}
use Rattle.text.specs.Part.{fits, part}
use Rattle.utf8range.specs.Places.{continues, inside}
use Rattle.laws.proofs.Tests.{le_or_lt, decide, left, right}
use Rattle.utf8.proofs.Tests.{clash, never_true}
use Rattle.utf8.proofs.Steps.{begin_ascii, begin_below, begin_lead, begin_above, step_first, step_next, step_under, step_over, ends_dead, ends_cons, after_append, ends_ready, after_whole}
use Rattle.utf8.proofs.Bounds.{lowest_any, highest_any}
use Rattle.utf8.proofs.Meaning.{utf8_is}

-- ---- the bounds lie within the continuation bytes
record Bounded (s : State) : Type 0 where
  low_enough : 0x80 ≤ s.low
  high_enough : s.high ≤ 0xBF

waiting_bounded : (n : ℕ) → Bounded (waiting n)
waiting_bounded n = record { low_enough = lit≤ tt; high_enough = lit≤ tt }

dead_bounded : Bounded dead
dead_bounded = record { low_enough = lit≤ tt; high_enough = lit≤ tt }

begin_bounded : (b : ℕ) → Bounded (begin b)
begin_bounded b =
    ⊎_elim
    (λ (l : 0x80 ≤ b).
    ⊎_elim
    (λ (m : 0xC2 ≤ b).
    ⊎_elim
    (λ (n : 0xF5 ≤ b). rw (begin_above b n) dead_bounded)
    (λ (n : b < 0xF5). rw (begin_lead b m n) (record { low_enough = lowest_any b; high_enough = highest_any b }))
    (le_or_lt 0xF5 b))
    (λ (m : b < 0xC2). rw (begin_below b l m) dead_bounded)
    (le_or_lt 0xC2 b))
    (λ (l : b < 0x80). rw (begin_ascii b l) (waiting_bounded 0))
    (le_or_lt 0x80 b)

step_bounded : (s : State) (b : ℕ) → Bounded (step s b)
step_bounded s b =
    ⊎_elim
    (λ (t : eqb s.need 0 ≡ true). rw (step_first s b (eqb-true _ _ t)) (begin_bounded b))
    (λ (t : eqb s.need 0 ≡ false).
    let n = eqb-false s.need 0 t in
    ⊎_elim
    (λ (l : s.low ≤ b).
    ⊎_elim
    (λ (h : b ≤ s.high). rw (step_next s b n l h) (waiting_bounded (s.need - 1)))
    (λ (h : s.high < b). rw (step_over s b n h) dead_bounded)
    (le_or_lt b s.high))
    (λ (l : b < s.low). rw (step_under s b n l) dead_bounded)
    (le_or_lt s.low b))
    (decide (eqb s.need 0))

after_bounded : (s : State) (bs : List ℕ) → Bounded s → Bounded (after s bs)
unfolding after
after_bounded s [] q = q
after_bounded s (b ∷ bs) q = after_bounded (step s b) bs (step_bounded s b)

-- ---- a byte that does not continue a character begins one
begins : (s : State) (x : ℕ) → Bounded s → (s.need ≡ 0 → ⊥) → continues x ≡ false → step s x ≡ dead
unfolding continues
begins s x q n e =
    ⊎_elim
    (λ (l : 0x80 ≤ x).
    ⊎_elim
    (λ (m : 0xC0 ≤ x). step_over s x n (omega (arith, q.high_enough)))
    (λ (m : x < 0xC0). absurd (clash (rw (le-leb 0x80 x l, lt-ltb x 0xC0 m) refl) e))
    (le_or_lt 0xC0 x))
    (λ (l : x < 0x80). step_under s x n (omega (arith, q.low_enough)))
    (le_or_lt 0x80 x)

pub cut : (a : List ℕ) (x : ℕ) (b : List ℕ) → continues x ≡ false → is_utf8 (a ++ x ∷ b) ≡ true → (is_utf8 a ≡ true) × (is_utf8 (x ∷ b) ≡ true)
unfolding is_utf8 ends after
cut a x b f e =
    let s = after (waiting 0) a in
    let g : ends s (x ∷ b) ≡ true = rw (after_append (waiting 0) a (x ∷ b)) at e in
    ⊎_elim
    (λ (t : eqb s.need 0 ≡ true). (t, sym (ends_ready s (x ∷ b) (eqb-true _ _ t)) ∙ g))
    (λ (t : eqb s.need 0 ≡ false).
    absurd (clash (sym (ends_cons s dead x b (begins s x (after_bounded (waiting 0) a (waiting_bounded 0)) (eqb-false _ _ t) f)) ∙ g) (ends_dead b)))
    (decide (eqb s.need 0))

-- UTF-8 does not begin with a continuation byte
pub first_byte : (x : ℕ) (b : List ℕ) → is_utf8 (x ∷ b) ≡ true → continues x ≡ false
unfolding is_utf8 continues
first_byte x b e =
    never_true (continues x)
    (λ (t : continues x ≡ true).
    let l = leb-true 0x80 x (left (leb 0x80 x) (ltb x 0xC0) t) in
    let h = ltb-true x 0xC0 (right (leb 0x80 x) (ltb x 0xC0) t) in
    clash
    (sym (ends_cons (waiting 0) dead x b (step_first (waiting 0) x refl ∙ begin_below x l (omega arith))) ∙ e)
    (ends_dead b))

-- ---- a place that is not inside a character cuts the text
at_place : (text : List ℕ) (at : ℕ) → inside text at ≡ false → at < length text → continues (get_or text at 0) ≡ false
unfolding inside
at_place text at e h = rw (lt-ltb at (length text) h) at e

empty : is_utf8 [] ≡ true
unfolding is_utf8 ends after
empty = refl

pub cut_at : (text : List ℕ) (at : ℕ) → at ≤ length text → (at < length text → continues (get_or text at 0) ≡ false) → is_utf8 text ≡ true
    → (is_utf8 (take at text) ≡ true) × (is_utf8 (drop at text) ≡ true)
cut_at text at room here e =
    ⊎_elim
    (λ (l : length text ≤ at).
    let p : at ≡ length text = omega arith in
    (rw (take_all at text l) e, rw (p, drop-length text) empty))
    (λ (l : at < length text).
    let f : is_utf8 (take at text ++ get_or text at 0 ∷ drop (suc at) text) ≡ true = rw (← split_at text at 0 l) e in
    let c = cut (take at text) (get_or text at 0) (drop (suc at) text) (here l) f in
    (c.0, rw (drop-cons text at 0 l) c.1))
    (le_or_lt (length text) at)

first_byte_of : (n x : ℕ) (xs : List ℕ) → (n ≡ 0 → ⊥) → is_utf8 (take n (x ∷ xs)) ≡ true → continues x ≡ false
first_byte_of zero x xs n e = absurd (n refl)
first_byte_of (suc m) x xs n e = first_byte x (take m xs) e

none_taken : (n : ℕ) (xs : List ℕ) → n ≡ 0 → is_utf8 (take n xs) ≡ true
none_taken n xs e = rw e empty

-- ---- the law
module _ (text : List ℕ) (r : Range) (whole : is_utf8 text ≡ true) (f : fits (length text) r ≡ true) where
  room : r.start + r.length ≤ length text
  unfolding fits
  room = leb-true _ _ f

  from_start : inside text r.start ≡ false → is_utf8 (drop r.start text) ≡ true
  from_start a = let h = room in (cut_at text r.start (omega arith) (at_place text r.start a) whole).1

  pub outside : inside text r.start ≡ false → inside text (r.start + r.length) ≡ false → is_utf8 (part text r) ≡ true
  unfolding part
  outside a b =
      let h = room in
      let n = length-drop r.start text in
      (cut_at (drop r.start text) r.length (omega arith)
      (λ (l : r.length < length (drop r.start text)). rw (get_or-drop r.start text r.length 0) (at_place text (r.start + r.length) b (omega arith)))
      (from_start a)
      ).0

  stands : (at : ℕ) → inside text at ≡ true → (at < length text) × (continues (get_or text at 0) ≡ true)
  unfolding inside
  stands at a = (
    ltb-true at (length text) (left (ltb at (length text)) (continues (get_or text at 0)) a),
    right (ltb at (length text)) (continues (get_or text at 0)) a,
  )

  pub empty_part : r.length ≡ 0 → is_utf8 (part text r) ≡ true
  unfolding part
  empty_part e = none_taken r.length (drop r.start text) e

  pub start_inside : (r.length ≡ 0 → ⊥) → inside text r.start ≡ true → is_utf8 (part text r) ≡ false
  unfolding part
  start_inside n a =
      let p = stands r.start a in
      never_true (is_utf8 (take r.length (drop r.start text)))
      (λ (t : is_utf8 (take r.length (drop r.start text)) ≡ true).
      clash p.1 (first_byte_of r.length (get_or text r.start 0) (drop (suc r.start) text) n (rw (drop-cons text r.start 0 p.0) at t)))

  pub end_inside : inside text r.start ≡ false → inside text (r.start + r.length) ≡ true → is_utf8 (part text r) ≡ false
  unfolding part
  end_inside a b =
      let end = r.start + r.length in
      let p = stands end b in
      let d = drop r.start text in
      never_true (is_utf8 (take r.length d))
      (λ (t : is_utf8 (take r.length d) ≡ true).
      let rest : is_utf8 (drop r.length d) ≡ true =
      sym (after_whole (take r.length d) (drop r.length d) t) ∙ ap is_utf8 (take-append-drop r.length d) ∙ from_start a in
      let there : is_utf8 (get_or text end 0 ∷ drop (suc end) text) ≡ true =
      ap is_utf8 (sym (drop-cons text end 0 p.0) ∙ sym (drop-drop r.length r.start text)) ∙ rest in
      clash p.1 (first_byte (get_or text end 0) (drop (suc end) text) there))

  -- An empty part is UTF-8 wherever it stands. Any other is exactly if neither end stands inside a character.
  pub range_law : (r.length ≡ 0 → ⊥) → Utf8 (part text r) ↔ ((inside text r.start ≡ false) × (inside text (r.start + r.length) ≡ false))
  range_law n = (
    (λ (u : Utf8 (part text r)).
        let t = (utf8_is (part text r)).1 u in
        let a = never_true (inside text r.start) (λ (i : inside text r.start ≡ true). clash t (start_inside n i)) in
        (a, never_true (inside text (r.start + r.length)) (λ (i : inside text (r.start + r.length) ≡ true). clash t (end_inside a i)))),
    (λ (o : (inside text r.start ≡ false) × (inside text (r.start + r.length) ≡ false)). (utf8_is (part text r)).0 (outside o.0 o.1)),
  )
