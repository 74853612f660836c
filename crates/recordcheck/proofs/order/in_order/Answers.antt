-- `in_order` meets its contract: each table has room for the rows. Assumes nothing.
use native.Mathlib.Omega.{arith}
use Rattle.sheet.proofs.Trailers.{form_few}
use Rattle.recordcheck.proofs.order.in_order.Goals as goal

pub in_table-requires-else-wide-le-SMALL : goal.in_table-requires-else-wide-le-SMALL
in_table-requires-else-wide-le-SMALL c = (rw c.new-sheet.ensures.form (form_few c.args.words.now c.args.form c.requires.0), omega arith)
