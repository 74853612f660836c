-- The keywords that apply schemas to the row itself, in words.
--     joinings     what `Joinings` says
-- Assumes nothing.
use mathlib.Core.Bool.{Bool, true, false, true≢false}
use mathlib.Core.List.{List, [], ◌∷◌}
use mathlib.Core.Logic.{◌↔◌}
use mathlib.Core.Path.{◌≡◌, refl, sym, ap, ◌∙◌}
use Prim.Native.Nat.{ℕ, zero, suc}
use native.Mathlib.Omega.{arith}
use lib.Dec.{eqb, leb}
use lib.ListN.{get_or}
use borrow.Author.Tests.{eqb-true, eq-eqb, leb-true, le-leb}
use Rattle.laws.proofs.Tests.{both, left, right}
use Rattle.rulesheet.specs.Ruleset.{all_of, any_of, one_of, not_of, ref}
use Rattle.meaning.specs.Lists.{all, any, count}
use Rattle.meaning.specs.Rules.{one?, none?, within, joined}
use Rattle.meaning.specs.Keywords.{Joinings}
use Rattle.meaning.proofs.Members.{all_is, any_is}

-- no place holds
abbrev Nowhere : List Bool → Type 0
Nowhere bs = (k : ℕ) → get_or bs k false ≡ true → ⊥

none_counted : (bs : List Bool) → count bs ≡ 0 → Nowhere bs
unfolding count
none_counted [] e k h = true≢false (sym h)
none_counted (true ∷ bs) e k h = omega (arith, e)
none_counted (false ∷ bs) e zero h = true≢false (sym h)
none_counted (false ∷ bs) e (suc k) h = none_counted bs e k h

counted_none : (bs : List Bool) → Nowhere bs → count bs ≡ 0
unfolding count
counted_none [] h = refl
counted_none (true ∷ bs) h = absurd (h zero refl)
counted_none (false ∷ bs) h = counted_none bs (λ k e. h (suc k) e)

-- one place holds, and no other
abbrev Alone : List Bool → Type 0
Alone bs = (i : ℕ) × (get_or bs i false ≡ true) × ((k : ℕ) → get_or bs k false ≡ true → k ≡ i)

one_counted : (bs : List Bool) → count bs ≡ 1 → Alone bs
unfolding count
one_counted [] e = absurd (none_there e)
  where
    none_there : zero ≡ suc zero → ⊥
    none_there e = omega arith
one_counted (true ∷ bs) e = (zero, refl, only)
  where
    only : (k : ℕ) → get_or (true ∷ bs) k false ≡ true → k ≡ zero
    only zero h = refl
    only (suc k) h = absurd (none_counted bs (omega (arith, e)) k h)
one_counted (false ∷ bs) e = let w = one_counted bs e in (suc w.0, w.1, later w.0 w.2)
  where
    later : (i : ℕ) → ((k : ℕ) → get_or bs k false ≡ true → k ≡ i) → (k : ℕ) → get_or (false ∷ bs) k false ≡ true → k ≡ suc i
    later i f zero h = absurd (true≢false (sym h))
    later i f (suc k) h = ap suc (f k h)

counted_one : (bs : List Bool) → Alone bs → count bs ≡ 1
unfolding count
counted_one [] w = absurd (true≢false (sym w.1))
counted_one (true ∷ bs) w = ap suc (counted_none bs (λ k h. apart w.0 (w.2 zero refl) (w.2 (suc k) h)))
  where
    apart : {k : ℕ} (i : ℕ) → zero ≡ i → suc k ≡ i → ⊥
    apart i a b = omega (arith, a, b)
counted_one (false ∷ bs) w = below w.0 w.1 w.2 (counted_one bs)
  where
    below : (i : ℕ) → get_or (false ∷ bs) i false ≡ true → ((k : ℕ) → get_or (false ∷ bs) k false ≡ true → k ≡ i) → (Alone bs → count bs ≡ 1) → count bs ≡ 1
    below zero h f g = absurd (true≢false (sym h))
    below (suc i) h f g = g (i, h, λ k e. less (f (suc k) e))
      where
        less : {k : ℕ} → suc k ≡ suc i → k ≡ i
        less e = omega (arith, e)

pub joinings : Joinings
unfolding joined one? none? within any all
joinings =
    record {
      all_of_is = all_is;
      any_of_is = any_is;
      one_of_is = λ bs. ((λ e. one_counted bs (eqb-true (count bs) 1 e)), λ w. eq-eqb (count bs) 1 (counted_one bs w));
      not_is = not_one;
      ref_is = same_one;
      contains_count = λ least most n. (
        λ e. (leb-true least n (left (leb least n) (leb n most) e), leb-true n most (right (leb least n) (leb n most) e)),
        λ h. both (leb least n) (leb n most) (le-leb least n h.0) (le-leb n most h.1),
      );
    }
  where
    not_one : (b : Bool) → (joined not_of (b ∷ []) ≡ true) ↔ (b ≡ false)
    not_one true = (λ e. sym e, λ e. sym e)
    not_one false = (λ e. refl, λ e. refl)

    same_one : (b : Bool) → (joined ref (b ∷ []) ≡ true) ↔ (b ≡ true)
    same_one true = (λ e. refl, λ e. refl)
    same_one false = (λ e. e, λ e. e)
