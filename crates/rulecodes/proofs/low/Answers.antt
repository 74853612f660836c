-- `low` meets its contract. Assumes nothing.
use mathlib.Core.Path.{◌≡◌, refl, sym, ap, ◌∙◌}
use Prim.Native.Nat.{ℕ}
use native.Mathlib.Omega.{arith}
use Rattle.rulesheet.specs.declared.code.Shape.{Shape}
use Rattle.rulesheet.specs.declared.code.Fields.TheVariants.{Number, Limit}
use Rattle.rulesheet.specs.Codes.{CodeLine, line_in, shape_of, guarded_shape}
use Rattle.rulesheet.proofs.Lines.{Each, each_at, past_fourteen}
use Rattle.rulecodes.proofs.low.Goals as goal

-- the codes of a span have one shape
abbrev Shaped : Shape → ℕ → Type 0
Shaped shape code = shape_of code ≡ shape

pub returns-then-code-lt-MULTIPLE_OF : goal.returns-then-code-lt-MULTIPLE_OF
unfolding line_in Each
returns-then-code-lt-MULTIPLE_OF c = c.guarded.ensures ∙ sym (each_at (Shaped (guarded_shape Number 0)) 4 10 c.args.code (refl, (refl, (refl, (refl, tt)))) (omega arith) (omega arith))

pub returns-then-code-ge-MIN_LENGTH : goal.returns-then-code-ge-MIN_LENGTH
unfolding line_in Each
returns-then-code-ge-MIN_LENGTH c = c.guarded-then-code-ge-MIN_LENGTH.ensures ∙ sym (each_at (Shaped (guarded_shape Limit 0)) 6 20 c.args.code (refl, (refl, (refl, (refl, (refl, (refl, tt)))))) (omega arith) (omega (arith, c.requires)))

pub returns-then-code-eq-MULTIPLE_OF : goal.returns-then-code-eq-MULTIPLE_OF
unfolding line_in
returns-then-code-eq-MULTIPLE_OF c = rw c.if-code-eq-MULTIPLE_OF.true c.guarded-then-code-eq-MULTIPLE_OF.ensures

pub seldom-requires : goal.seldom-requires
seldom-requires c =
    λ f36 f37 f45.
    ap (λ (l : CodeLine). l.shape) (past_fourteen c.args.code (omega arith) (omega arith) c.if-code-eq-MULTIPLE_OF.false)
