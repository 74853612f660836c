-- A run of ASCII of a text, as it stands in a part of the text.
-- Assumes nothing.
use mathlib.Core.List.{List}
use mathlib.Core.Path.{◌≡◌}
use Prim.Native.Nat.{ℕ, ◌+◌, ◌-◌, ◌≤◌, ◌<◌}
use native.Mathlib.Omega.{arith}
use lib.ListN.{length}
use Rattle.text.specs.declared.Range.{Range}
use Rattle.text.specs.Part.{part}
use Rattle.text.proofs.Ranges.{le_fits, part_length, part_at}
use Rattle.ascii.specs.Runs.{Ascii}

-- the run from a to b, of as many bytes, from the place in the part on that a has there
pub record Within (text : List ℕ) (r : Range) (a b : ℕ) : Type 0 where
  pub room : (a - r.start) + (b - a) ≤ length (part text r)
  pub ascii : Ascii (part text r) (a - r.start) ((a - r.start) + (b - a))
  pub there : (a - r.start) + (b - a) ≡ b - r.start

pub in_part : (text : List ℕ) (r : Range) → r.start + r.length ≤ length text → (a b : ℕ) → r.start ≤ a → a ≤ b → b ≤ r.start + r.length → Ascii text a b → Within text r a b
in_part text r room a b low on short q =
    record {
      room = omega (arith, part_length text r (le_fits _ _ room));
      ascii = λ (i : ℕ) (l : a - r.start ≤ i) (m : i < (a - r.start) + (b - a)). rw (part_at text r i (omega arith)) (q (r.start + i) (omega arith) (omega arith));
      there = omega arith;
    }
