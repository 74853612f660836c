-- `gathering::holding::shut_name` meets its contract. Assumes nothing.
use Rattle.gathering.proofs.Acts.{shuts_on, shuts_off}
use Rattle.gathering.proofs.holding.shut_name.Goals as goal

pub returns-then-n : goal.returns-then-n
returns-then-n c =
    let a = c.args in
    λ text objects. rw (c.put-then-n-2.ensures, c.put-then-n.ensures, c.put.ensures) (shuts_on text a.words.now objects a.n c.if-n.true)

pub returns : goal.returns
returns c =
    let a = c.args in
    λ text objects. shuts_off text a.words.now objects a.n c.if-n.false
