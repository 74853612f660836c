-- `number_ok` meets its contract: a word is within the bounds if it is small, or so large that it stands for a small number below zero.
-- Assumes nothing.
use mathlib.Core.Bool.{true, false, ◌||◌, or-false}
use mathlib.Core.Logic.{⊎_elim}
use mathlib.Core.Path.{◌≡◌, sym, ◌∙◌}
use Prim.Native.Nat.{ℕ, ◌-◌, ◌^◌, ◌≤◌, ◌<◌}
use native.Mathlib.Omega.{arith}
use lib.Dec.{leb}
use lib.IntN.{nat_abs}
use borrow.Author.Tests.{le-leb, lt-leb}
use Rattle.laws.proofs.Tests.{le_or_lt}
use Rattle.decimal.specs.Value.{signed}
use Rattle.decimal.proofs.Words.{signed_low, signed_high, of_parts}
use Rattle.sheet.specs.Kinds.{number_max}
use Rattle.sheet.proofs.kind.RowKind.number_ok.Goals as goal

abbrev number_min : ℕ
number_min = 3_294_967_297

below : (w : ℕ) → w < 2 ^ 31 → (leb w number_max || leb number_min w) ≡ leb (nat_abs (signed w)) number_max
below w l = rw (← (of_parts w 0 false w (signed_low w l)).size, lt-leb number_min w (omega arith)) (or-false (leb w number_max))

above : (w : ℕ) → 2 ^ 31 ≤ w → w < 2 ^ 32 → (leb w number_max || leb number_min w) ≡ leb (nat_abs (signed w)) number_max
above w l h =
    rw (← (of_parts w 0 true (2 ^ 32 - w) (signed_high w l h)).size, lt-leb w number_max (omega arith))
    (⊎_elim
    (λ (g : number_min ≤ w). le-leb number_min w g ∙ sym (le-leb (2 ^ 32 - w) number_max (omega arith)))
    (λ (g : w < number_min). lt-leb number_min w g ∙ sym (lt-leb (2 ^ 32 - w) number_max (omega arith)))
    (le_or_lt number_min w))

within : (w : ℕ) → w < 2 ^ 32 → (leb w number_max || leb number_min w) ≡ leb (nat_abs (signed w)) number_max
within w h = ⊎_elim (λ (l : 2 ^ 31 ≤ w). above w l h) (below w) (le_or_lt (2 ^ 31) w)

pub returns : goal.returns
returns c = rw (← within c.args.first c.ranges.first.fits)
