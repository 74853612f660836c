-- `longer` meets its contract. Assumes nothing.
use native.Mathlib.Omega.{arith}
use mathlib.Core.Logic.{inl, inr}
use mathlib.Core.Path.{refl}
use Rattle.links.proofs.longer.Goals as goal

pub returns-then-length-most : goal.returns-then-length-most
returns-then-length-most c =
    record { more = omega arith; full = omega arith; above = λ h. omega arith; by = inl refl }

pub returns-then-length-lt-CHAIN_STEPS : goal.returns-then-length-lt-CHAIN_STEPS
returns-then-length-lt-CHAIN_STEPS c =
    record { more = omega arith; full = omega arith; above = λ h. omega arith; by = inr (omega arith) }

pub returns : goal.returns
returns c =
    record { more = omega arith; full = omega arith; above = λ h. absurd (omega arith); by = inr (omega arith) }
