-- `scan::begin` meets its contract. Assumes nothing.
use Rattle.scan.proofs.begin.Goals as goal

pub returns : goal.returns
returns c = rw c.no_names.ensures
