-- `gathering::holding::open_name` meets its contract. Assumes nothing.
use Rattle.gathering.proofs.Acts.{opens_does}
use Rattle.gathering.proofs.holding.open_name.Goals as goal

pub returns : goal.returns
returns c =
    let a = c.args in
    λ words objects. rw (c.put-2.ensures, c.put.ensures) (opens_does a.text.now words objects a.n a.object a.left)
