-- `verdict_of` meets its contract. Assumes nothing.
use Rattle.marking.proofs.verdict_of.Goals as goal

pub verdict_of-requires : goal.verdict_of-requires
verdict_of-requires c = rw c.schemas.ensures c.requires

pub returns : goal.returns
returns c = rw c.schemas.ensures at c.verdict_of.ensures
