-- `enlist` meets its contract: past the end of the list there is nothing to write. Assumes nothing.
use mathlib.Core.Path.{sym}
use lib.Seq.{set_out}
use Rattle.areas.proofs.enlist.Goals as goal

pub returns-else-count-list : goal.returns-else-count-list
returns-else-count-list c = sym (set_out c.args.list.now c.args.count c.args.k c.if-count-list.false)
