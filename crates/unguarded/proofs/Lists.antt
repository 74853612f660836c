-- Tests, and membership in lists.
--     is_false, not_both         a test that does not hold fails, and none does both
--     at_in                      the number at a place of a list is in it
--     take_more                  the first i + 1 numbers
--     empty_none                 nothing is in a list without length
--     any_in, any_out            some number in the list passes a test
-- Assumes nothing.
use mathlib.Core.Bool.{Bool, true, false, or-true, true≢false, false≢true}
use mathlib.Core.List.Memᴰ.{head as at_head}
use mathlib.Core.List.Memᴰ.{not-nil as in_none}
use mathlib.Core.List.Memᴰ.{tail as in_Tail}
use mathlib.Core.List.{List, [], ◌∷◌, ◌++◌, Memᴰ as In}
use mathlib.Core.Logic.{⊎_elim}
use mathlib.Core.Path.{◌≡◌, refl, sym, ◌∙◌}
use Prim.Native.Nat.{ℕ, zero, suc, ◌+◌, ◌<◌}
use native.Mathlib.Numerals.{add-one}
use native.Mathlib.Omega.{arith}
use lib.ListN.{length, get_or, take}
use lib.Seq.{take-suc}
use Rattle.laws.proofs.Tests.{either}
use Rattle.unguarded.specs.Graph.{some_of}

-- ---- tests

pub is_false : (b : Bool) → (b ≡ true → ⊥) → b ≡ false
is_false true h = absurd (h refl)
is_false false h = refl

pub not_both : (b : Bool) → b ≡ true → b ≡ false → ⊥
not_both b p q = true≢false (sym p ∙ q)

-- ---- places in a list

pub at_in : (xs : List ℕ) (i : ℕ) → i < length xs → In (get_or xs i 0) xs
at_in [] i h = absurd (nothing h)
  where
    nothing : i < 0 → ⊥
    nothing l = omega arith
at_in (x ∷ xs) zero h = at_head refl
at_in (x ∷ xs) (suc i) h = in_Tail (at_in xs i (omega arith))

pub take_more : (xs : List ℕ) (i : ℕ) → i < length xs → take (i + 1) xs ≡ take i xs ++ (get_or xs i 0 ∷ [])
take_more xs i h = rw (add-one, take-suc xs i 0 h)

pub empty_none : (xs : List ℕ) → length xs ≡ 0 → {x : ℕ} → In x xs → ⊥
empty_none [] e i = in_none i
empty_none (y ∷ xs) e i = omega arith

-- ---- some number passes

module _ (test : ℕ → Bool) where
  pub any_in : {x : ℕ} {xs : List ℕ} → In x xs → test x ≡ true → some_of test xs ≡ true
  unfolding some_of
  any_in (at_head e) t = rw (← e, t)
  any_in (in_Tail m) t = rw (any_in m t, or-true)

  pub any_out : (xs : List ℕ) → some_of test xs ≡ true → (x : ℕ) × (In x xs × (test x ≡ true))
  unfolding some_of
  any_out [] t = absurd (false≢true t)
  any_out (x ∷ xs) t =
      ⊎_elim (λ h. (x, (at_head refl, h))) (λ h. let r = any_out xs h in (r.0, (in_Tail r.1.0, r.1.1))) (either (test x) (some_of test xs) t)
