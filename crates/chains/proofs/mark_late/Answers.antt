-- `mark_late` meets its contract. Assumes nothing.
use Rattle.unguarded.proofs.Lengths.{note_yes, note_no}
use Rattle.chains.proofs.mark_late.Goals as goal

pub returns-then-t-s : goal.returns-then-t-s
returns-then-t-s c =
    rw c.wide-at.ensures (note_yes c.args.s.0 c.args.t.0 c.args.late.now c.requires)

pub returns-else-t-s : goal.returns-else-t-s
returns-else-t-s c =
    note_no c.args.s.0 c.args.t.0 c.args.late.now c.if-t-s.false
