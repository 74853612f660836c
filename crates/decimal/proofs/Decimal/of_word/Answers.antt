-- `decimal::Decimal::of_word` meets its contract: the sign and the size are those of the word as a signed number.
-- Assumes nothing.
use mathlib.Core.Path.{◌∙◌}
use mir.Syntax.{w32}
use native.Mathlib.Omega.{arith}
use Rattle.std.proofs.Common.{rules}
use Rattle.std.proofs.lemmas.Int.{to_z-of_z}
use Rattle.decimal.proofs.Words.{of_signed}
use Rattle.decimal.proofs.Decimal.of_word.Goals as goal

pub returns : goal.returns
returns c =
    let z = c.cast_signed-number in
    rw (to_z-of_z w32 z.result (search rules))
    (of_signed c.args.word c.args.scale z.result c.from.result (omega arith) z.ensures
    (c.from.ensures ∙ rw (to_z-of_z w32 z.result (search rules)) at c.unsigned_abs.ensures.value))
