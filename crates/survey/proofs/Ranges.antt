-- What a byte does at each of a range of places, by their numbers.
--     ranged     what is so of each place of a range of the table is so of the place with a number in the range
-- Assumes nothing.
use mathlib.Core.Bool.{false, cond}
use mathlib.Core.List.{List, [], ◌∷◌}
use mathlib.Core.Path.{◌≡◌, refl, ◌∙◌, ap, subst}
use Prim.Native.Nat.{ℕ, zero, suc, ◌+◌, ◌-◌, ◌≤◌, ◌<◌}
use native.Mathlib.Omega.{arith}
use borrow.Author.Tests.{le-ltb, ne_eqb}
use lib.Dec.{eqb, ltb}
use lib.ListN.{length, get_or, take, drop}
use lib.Seq.{get_or-drop, get_or-take}
use Rattle.jsontext.specs.Automaton.{Place, after}
use Rattle.grammar.specs.Codes.{places, place_at}
use Rattle.figure.specs.Figure.{whole_more}
use Rattle.survey.specs.declared.Watch.{Watch}
use Rattle.survey.specs.Watching.{digit_or, slashed, parted, code_more, hexed, coded, moved}

abbrev pub All : (Place → Type 0) → List Place → Type 0
All P [] = Unit {0}
All P (x ∷ xs) = P x × All P xs

all_at : (P : Place → Type 0) (xs : List Place) → All P xs → (i : ℕ) → i < length xs → P (get_or xs i after)
all_at P [] a i h = absurd (omega arith)
all_at P (x ∷ xs) a zero h = a.0
all_at P (x ∷ xs) a (suc i) h = all_at P xs a.1 i (omega arith)

pub ranged : (P : Place → Type 0) (k m : ℕ) → length (take m (drop k places)) ≡ m → All P (take m (drop k places)) → (n : ℕ) → k ≤ n → n < k + m → P (place_at n)
ranged P k m l a n low high =
    let i : ℕ = n - k in
    let at_end : k + i ≡ n = omega arith in
    let here : get_or (take m (drop k places)) i after ≡ place_at n = get_or-take m (drop k places) i after (omega arith) ∙ get_or-drop k places i after ∙ ap (λ (x : ℕ). get_or places x after) at_end in
    subst P here (all_at P (take m (drop k places)) a i (omega arith))

module _ (k b lft : ℕ) (s : Watch) where
  abbrev Idle : Place → Type 0
  Idle p = moved p k b lft s ≡ s

  pub idle_low : (n : ℕ) → 5 ≤ n → n < 16 → Idle (place_at n)
  idle_low n l h = ranged Idle 5 11 refl (refl, (refl, (refl, (refl, (refl, (refl, (refl, (refl, (refl, (refl, (refl, tt))))))))))) n l h

  pub idle_high : (n : ℕ) → 36 ≤ n → n < 50 → Idle (place_at n)
  idle_high n l h = ranged Idle 36 14 refl (refl, (refl, (refl, (refl, (refl, (refl, (refl, (refl, (refl, (refl, (refl, (refl, (refl, (refl, tt)))))))))))))) n l h

  pub in_whole : (n : ℕ) → 17 ≤ n → n < 19 → moved (place_at n) k b lft s ≡ digit_or whole_more k b s
  in_whole n l h = ranged (λ p. moved p k b lft s ≡ digit_or whole_more k b s) 17 2 refl (refl, (refl, tt)) n l h

  pub in_text : (n : ℕ) → 24 ≤ n → n < 26 → moved (place_at n) k b lft s ≡ cond (eqb b 0x5C) (slashed lft s) (parted s)
  in_text n l h = ranged (λ p. moved p k b lft s ≡ cond (eqb b 0x5C) (slashed lft s) (parted s)) 24 2 refl (refl, (refl, tt)) n l h

  pub in_escape : (n : ℕ) → 26 ≤ n → n < 28 → moved (place_at n) k b lft s ≡ cond (eqb b 0x75) s (parted s)
  in_escape n l h = ranged (λ p. moved p k b lft s ≡ cond (eqb b 0x75) s (parted s)) 26 2 refl (refl, (refl, tt)) n l h

  pub last_hex : (n : ℕ) → 28 ≤ n → n < 30 → moved (place_at n) k b lft s ≡ coded (code_more b s) s
  last_hex n l h = ranged (λ p. moved p k b lft s ≡ coded (code_more b s) s) 28 2 refl (refl, (refl, tt)) n l h

  pub in_hex : (n : ℕ) → 30 ≤ n → n < 36 → moved (place_at n) k b lft s ≡ hexed b s
  in_hex n l h = ranged (λ p. moved p k b lft s ≡ hexed b s) 30 6 refl (refl, (refl, (refl, (refl, (refl, (refl, tt)))))) n l h

  pub outer_blank : (n : ℕ) → n < 5 → b ≤ 0x20 → Idle (place_at n)
  outer_blank n h l =
      let low : ltb 0x20 b ≡ false = le-ltb 0x20 b l in
      let other : eqb b 0x5D ≡ false = ne_eqb b 0x5D (λ e. omega arith) in
      ranged Idle 0 5 refl (rw low, (rw (other, low), (refl, (rw low, (rw low, tt))))) n (omega arith) (omega arith)

  -- by the place's number
  pub at_place : (n m : ℕ) → n ≡ m → moved (place_at n) k b lft s ≡ moved (place_at m) k b lft s
  at_place n m e = ap (λ (x : ℕ). moved (place_at x) k b lft s) e
