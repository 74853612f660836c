-- `middle` meets its contract. Assumes nothing.
use mathlib.Core.Path.{◌≡◌, refl, sym, ap, ◌∙◌}
use Prim.Native.Nat.{ℕ}
use native.Mathlib.Omega.{arith}
use Rattle.rulesheet.specs.declared.code.Shape.{Shape}
use Rattle.rulesheet.specs.declared.code.Fields.TheVariants.{Schema, Schemas}
use Rattle.rulesheet.specs.Codes.{CodeLine, line_in, shape_of, in_place_shape}
use Rattle.rulesheet.proofs.Lines.{Each, each_at, past_twenty_six, past_thirty_four}
use Rattle.rulecodes.proofs.middle.Goals as goal

-- the codes of a span have one shape
abbrev Shaped : Shape → ℕ → Type 0
Shaped shape code = shape_of code ≡ shape

pub seldom-requires : goal.seldom-requires
seldom-requires c =
    λ f36 f37 f45.
    let code = c.args.code in
    let h = c.requires.0 in
    ap (λ (l : CodeLine). l.shape) (past_twenty_six code (omega arith) (omega arith) (λ (e : code ≡ 26). omega arith))

pub returns-then-code-lt-NOT : goal.returns-then-code-lt-NOT
unfolding line_in Each
returns-then-code-lt-NOT c = c.in_place.ensures ∙ sym (each_at (Shaped (in_place_shape Schemas 1)) 3 30 c.args.code (refl, (refl, (refl, tt))) (omega arith) (omega arith))

pub returns-then-code-le-REF : goal.returns-then-code-le-REF
unfolding line_in Each
returns-then-code-le-REF c = c.in_place-then-code-le-REF.ensures ∙ sym (each_at (Shaped (in_place_shape Schema 0)) 2 33 c.args.code (refl, (refl, tt)) (omega arith) (omega arith))

pub seldom-requires-2 : goal.seldom-requires-2
seldom-requires-2 c =
    λ f36 f37 f45.
    let code = c.args.code in
    let h = c.requires.1 in
    ap (λ (l : CodeLine). l.shape)
    (past_thirty_four code (omega arith) (omega arith) f36 f37 (λ (e : code ≡ 40). omega arith) (λ (e : code ≡ 42). omega arith) (λ (e : code ≡ 43). omega arith) (λ (e : code ≡ 44). omega arith) f45)
