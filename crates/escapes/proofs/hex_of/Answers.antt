-- `escapes::hex_of` meets its contract, by the three ranges.
-- Assumes nothing.
use mathlib.Core.Path.{sym}
use native.Mathlib.Omega.{arith}
use Rattle.escapes.proofs.Escaped.{at_digit, at_capital, at_small}
use Rattle.escapes.proofs.hex_of.Goals as goal

pub returns-then-byte-le57 : goal.returns-then-byte-le57
returns-then-byte-le57 c = record { worth = omega (arith, at_digit c.args.byte (omega arith)); small = omega arith }

pub returns-then-byte-le70 : goal.returns-then-byte-le70
returns-then-byte-le70 c = record { worth = omega (arith, at_capital c.args.byte (omega arith) (omega arith)); small = omega arith }

pub returns : goal.returns
returns c = record { worth = omega (arith, at_small c.args.byte (omega arith)); small = omega arith }
