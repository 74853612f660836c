-- `watching::escaping::hex_last` meets its contract. Assumes nothing.
use mathlib.Core.Path.{ap, ◌∙◌}
use Prim.Native.Nat.{ℕ}
use Rattle.survey.specs.Watching.{coded}
use Rattle.watching.proofs.escaping.hex_last.Goals as goal

pub returns : goal.returns
returns c =
    let a = c.args in
    c.escape_whole.ensures ∙ ap (λ (n : ℕ). coded n a.s) c.hex_more.ensures.0
