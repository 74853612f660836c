-- `watching::values::one_more` meets its contract. Assumes nothing.
use mathlib.Core.Path.{ap, ◌∙◌}
use native.Mathlib.Omega.{arith}
use Prim.Native.Nat.{ℕ, ◌+◌}
use Rattle.figure.specs.declared.Figure.{Figure}
use Rattle.survey.specs.declared.Escapes.{Escapes}
use Rattle.survey.specs.Watching.{no_escapes, first_figure}
use Rattle.survey.proofs.Branches.{blank}
use Rattle.watching.proofs.values.one_more.Goals as goal

pub returns : goal.returns
returns c =
    let a = c.args in
    let f : Figure = first_figure a.byte in
    ap (λ (x : Figure). record { fault = 0; left = 0; values = a.s.values + 1; start = a.left; figure = x; escapes = c.default.result }) c.first_figure.ensures
    ∙ ap (λ (x : Escapes). record { fault = 0; left = 0; values = a.s.values + 1; start = a.left; figure = f; escapes = x }) (blank c.default.result c.default.ensures)
    ∙ ap (λ (n : ℕ). record { fault = 0; left = 0; values = n; start = a.left; figure = f; escapes = no_escapes }) (omega arith)
