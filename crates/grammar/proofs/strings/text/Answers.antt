-- `grammar::strings::text` meets its contract.
-- Assumes nothing.
use native.Mathlib.Omega.{arith}
use Rattle.grammar.proofs.Leading.{tables}
use Rattle.grammar.proofs.strings.text.Goals as goal
use Rattle.grammar.proofs.strings.text.Goals.{in_default-via-then-byte-lt32, in_default-via-else-byte-lt32+else-byte-lt128}

pub returns-in_default : goal.returns-in_default
returns-in_default c =
    elim c.in_default.branch [
      | in_default-via-then-byte-lt32 w ↦ grind (arith, tables)
      | in_default-via-else-byte-lt32+else-byte-lt128 w ↦ grind (arith, tables)
    ]
