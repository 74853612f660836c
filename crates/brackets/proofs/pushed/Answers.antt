-- `brackets::pushed` meets its contract. Assumes nothing.
use native.Mathlib.Omega.{arith}
use Rattle.brackets.proofs.Bits.{bit_low, room, push_is, push_fits}
use Rattle.brackets.proofs.pushed.Goals as goal

pub overflow_mul-result : goal.overflow_mul-result
overflow_mul-result c = omega (arith, room c.args.o c.requires.0 c.requires.1)

pub overflow_add-result : goal.overflow_add-result
overflow_add-result c = omega (arith, room c.args.o c.requires.0 c.requires.1, bit_low c.args.bracket)

pub returns : goal.returns
returns c =
    rw c.bit_of.ensures
    (record { brackets_are = push_is c.args.o c.args.bracket; fits = push_fits c.args.o c.requires.0 (bit_low c.args.bracket); deep = omega arith })
