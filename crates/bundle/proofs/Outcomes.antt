-- Any two outcomes that the promise of `reply_to` allows are equal.
--     printed_one     two replies that print the same are the same reply
--     reply_one       the reply, the cells and the list are determined by the bundle and the areas at entry
-- Assumes nothing.
use mathlib.Core.List.{List, map}
use mathlib.Core.Path.{◌≡◌, refl, sym, ap, ◌∙◌}
use Prim.Native.Nat.{ℕ}
use lib.ListN.{length, length-map}
use Rattle.std.specs.Prelude.{Ok, Err}
use Rattle.sheet.specs.Refusals.{refusal_number}
use Rattle.sheet.proofs.Tables.{number_one, same_refused}
use Rattle.meaning.specs.Lists.{range}
use Rattle.meaning.proofs.Members.{range_length}
use Rattle.bundle.specs.declared.Judgement.{Judgement}
use Rattle.bundle.specs.declared.Line.{Line}
use Rattle.bundle.specs.declared.Unjudged.TheVariants.{BadBundle, Refused, TooLarge}
use Rattle.bundle.specs.Printed.{line_at, Reply, Told, printed_by, Replies}

lines_long : (g : ℕ → Line) (k : ℕ) → length (map g (range 0 k)) ≡ k
lines_long g k = length-map (range 0 k) g ∙ range_length 0 k

module _ (c c' l l' : List ℕ) where
  judgement_one : (j k : Judgement) → printed_by (Ok j) c l ≡ printed_by (Ok k) c' l' → j ≡ k
  judgement_one j k e =
      let g = line_at c l j.schemas in
      let h = line_at c' l' k.schemas in
      let v : j.valid ≡ k.valid = cc in
      let s : j.schemas ≡ k.schemas = cc in
      let m : j.marked ≡ k.marked = cc in
      let lines : map g (range 0 j.pairs) ≡ map h (range 0 k.pairs) = cc in
      let p : j.pairs ≡ k.pairs = sym (lines_long g j.pairs) ∙ ap length lines ∙ lines_long h k.pairs in
      λ i. (record { valid = v i; schemas = s i; pairs = p i; marked = m i })

  pub printed_one : (r r' : Reply) → printed_by r c l ≡ printed_by r' c' l' → r ≡ r'
  printed_one (Err BadBundle) (Err BadBundle) e = refl
  printed_one (Err BadBundle) (Err (Refused g)) e = cc
  printed_one (Err BadBundle) (Err TooLarge) e = cc
  printed_one (Err BadBundle) (Ok k) e = cc
  printed_one (Err (Refused f)) (Err BadBundle) e = cc
  printed_one (Err (Refused f)) (Err (Refused g)) e =
      let numbers : refusal_number f.refusal ≡ refusal_number g.refusal = cc in
      let places : f.place ≡ g.place = cc in
      ap (λ x. Err (Refused x)) (same_refused f g (number_one f.refusal g.refusal numbers) places)
  printed_one (Err (Refused f)) (Err TooLarge) e = cc
  printed_one (Err (Refused f)) (Ok k) e = cc
  printed_one (Err TooLarge) (Err BadBundle) e = cc
  printed_one (Err TooLarge) (Err (Refused g)) e = cc
  printed_one (Err TooLarge) (Err TooLarge) e = refl
  printed_one (Err TooLarge) (Ok k) e = cc
  printed_one (Ok j) (Err BadBundle) e = cc
  printed_one (Ok j) (Err (Refused g)) e = cc
  printed_one (Ok j) (Err TooLarge) e = cc
  printed_one (Ok j) (Ok k) e = ap Ok (judgement_one j k e)

  pub reply_one : {told : Told} (r r' : Reply) → Replies told r c l → Replies told r' c' l' → (r ≡ r') × (c ≡ c') × (l ≡ l')
  reply_one r r' a b =
      let same = a.tells ∙ sym b.tells in
      (printed_one r r' (ap (λ (x : Told). x.printed) same), ap (λ (x : Told). x.cells) same, ap (λ (x : Told). x.list) same)
