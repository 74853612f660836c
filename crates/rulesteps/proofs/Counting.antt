-- What is told of a clause's steps, by the flag that was read.
--     counted, uncounted     it has steps, or none
-- Assumes nothing.
use mathlib.Core.Bool.{Bool, true, false, false≢true}
use mathlib.Core.Path.{◌≡◌, refl, sym, ◌∙◌}
use Prim.Native.Nat.{ℕ}
use native.Mathlib.Omega.{arith}
use Rattle.rulesteps.specs.Later.{Counted}

pub counted : (u : Bool) {A B : Type 0} {steps r : ℕ} → u ≡ true → (A → B) → Counted true A steps r → Counted u B steps r
counted u {A} {B} {steps} {r} some f c = record { count = λ l. rw some (c.count l); leads = λ l t. f (c.leads l refl) }

pub uncounted : (u : Bool) {A : Type 0} {steps : ℕ} → u ≡ false → Counted u A steps steps
uncounted u {A} {steps} none =
    record { count = λ l. rw none (omega arith); leads = λ l (t : u ≡ true). absurd (false≢true (sym none ∙ t)) }
