-- The signs of names: names whose signs differ are not the same.
-- Assumes nothing.
use mathlib.Core.Bool.{Bool, true, false}
use mathlib.Core.List.{List}
use mathlib.Core.Logic.{⊎_elim}
use mathlib.Core.Path.{◌≡◌, ◌∙◌}
use Prim.Native.Nat.{ℕ, ◌+◌, ◌<◌}
use native.Mathlib.Omega.{arith}
use lib.Dec.{eqb}
use lib.ListN.{length, get_or, set, length-set}
use lib.Seq.{get_or-set_same, get_or-set_other}
use borrow.Author.Count.{below_more}
use borrow.Author.Tests.{eqb-true, eqb-false}
use Rattle.laws.proofs.Tests.{decide}
use Rattle.text.specs.Fingerprint.{signs, sign_of}

-- the signs of the first i names are marked
pub record Marked (name : ℕ → List ℕ) (seen : List Bool) (i : ℕ) : Type 0 where
  pub long : length seen ≡ signs
  pub marked : (k : ℕ) → k < i → get_or seen (sign_of (name k)) false ≡ true

pub marked_none : (name : ℕ → List ℕ) (seen : List Bool) → length seen ≡ signs → Marked name seen 0
marked_none name seen long = record { long = long; marked = λ k h. absurd (nothing k h) }
  where
    nothing : (k : ℕ) → k < 0 → ⊥
    nothing k h = omega arith

module _ {name : ℕ → List ℕ} {seen : List Bool} {i s : ℕ} (m : Marked name seen i) (e : s ≡ sign_of (name i)) where
  pub marked_more : s < signs → Marked name (set seen s true) (i + 1)
  marked_more h =
      record {
        long = length-set seen s true ∙ m.long;
        marked =
            below_more (λ (k : ℕ). get_or (set seen s true) (sign_of (name k)) false ≡ true) i
            (λ k l. kept (sign_of (name k)) (m.marked k l))
            (rw (← e) here);
      }
    where
      here : get_or (set seen s true) s false ≡ true
      here = get_or-set_same seen s true false (rw m.long h)

      kept : (t : ℕ) → get_or seen t false ≡ true → get_or (set seen s true) t false ≡ true
      kept t old =
          ⊎_elim
          (λ (q : eqb t s ≡ true). rw (eqb-true t s q) here)
          (λ (q : eqb t s ≡ false). get_or-set_other seen s t true false (eqb-false t s q) ∙ old)
          (decide (eqb t s))

  pub unseen : get_or seen s false ≡ false → (k : ℕ) → k < i → name k ≡ name i → ⊥
  unseen f k h q =
      let t : get_or seen s false ≡ true = rw e (rw q at (m.marked k h)) in
      let z : ◌≡◌ {A = ℕ} 0 1 = cc in
      omega arith
