-- The marks of a pair, as they are written.
--     kept_all, kept_none            of one that holds, and of one that fails
--     merged_handed, marked_child    what is handed on: a pair's marks, or the child that it is of
--     gives_all, gives_none          it is kept, or it is not
-- Assumes nothing.
use mathlib.Core.Bool.{Bool, true, false, or-true, or-false}
use mathlib.Core.List.{List}
use mathlib.Core.Path.{◌≡◌, refl, sym, ap, ◌∙◌, subst}
use Prim.Native.Nat.{ℕ, ◌+◌, ◌≤◌, ◌<◌}
use native.Mathlib.Decide.{ℕ_discrete}
use native.Mathlib.Omega.{arith}
use borrow.Author.Tests.{eq-eqb, ne_eqb}
use Rattle.areas.specs.Cells.{bit, column}
use Rattle.areas.specs.Writers.{Marked, merged}
use Rattle.areas.proofs.Writers.{marked_same}
use Rattle.lent.specs.Lent.{kept, handed_on, given_on}

-- a pair that holds keeps its marks, and one that fails has none
module _ (m : ℕ) (cells : List ℕ) (s : ℕ) (ok : Bool) (k : ℕ) where
  pub kept_all : ok ≡ true → column m cells s k ≡ kept m cells s ok k
  unfolding kept
  kept_all e = rw e

  pub kept_none : ok ≡ false → false ≡ kept m cells s ok k
  unfolding kept
  kept_none e = rw e

-- ---- what is handed on

module _ (m row rule aimed from : ℕ) where
  pub merged_handed : (cells : List ℕ) (k : ℕ) → aimed ≡ row → merged m cells rule from k ≡ handed_on m cells row rule aimed from k
  unfolding merged handed_on
  merged_handed cells k e = rw (eq-eqb aimed row e)

  pub marked_child : (first many : ℕ) {c₀ c₁ : List ℕ} → rule < m → (aimed ≡ row → ⊥) → (first ≤ aimed) × (aimed < first + many) → Marked m aimed 1 rule (λ x. true) c₀ c₁ → Marked m first many rule (handed_on m c₀ row rule aimed from) c₀ c₁
  unfolding handed_on
  marked_child first many {c₀} l n w p =
      let a = w.0 in
      let b = w.1 in
      record {
        len = p.len;
        verdicts = p.verdicts;
        small = p.small;
        here = λ x u v. elim (ℕ_discrete x aimed) [
          | yes e ↦ p.here x (omega arith) (omega arith) ∙ sym (rw (ne_eqb aimed row n, eq-eqb x aimed e) (or-true (column m c₀ rule x)))
          | no e ↦ ap bit (p.there x rule l (λ r g h. e (omega arith))) ∙ sym (rw (ne_eqb aimed row n, ne_eqb x aimed e) (or-false (column m c₀ rule x)))
        ];
        there = λ x t q r. p.there x t q (λ d u v. r d (omega arith) (omega arith));
      }

-- ---- what is handed on is kept, or it is not

module _ (m first many s row aimed from : ℕ) (keeps : Bool) (c : List ℕ) where
  pub gives_all : {c' : List ℕ} → keeps ≡ true → Marked m first many s (handed_on m c row s aimed from) c c' → Marked m first many s (given_on keeps m c row s aimed from) c c'
  unfolding given_on
  gives_all {c'} e M = subst (λ (b : Bool). Marked m first many s (given_on b m c row s aimed from) c c') (sym e) M

  pub gives_none : keeps ≡ false → Marked m first many s (given_on keeps m c row s aimed from) c c
  unfolding given_on
  gives_none e = subst (λ (b : Bool). Marked m first many s (given_on b m c row s aimed from) c c) (sym e) (marked_same c (λ k a b. refl))
