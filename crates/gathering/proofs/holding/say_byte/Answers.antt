-- `gathering::holding::say_byte` meets its contract. Assumes nothing.
use mathlib.Core.List.{[], ◌∷◌}
use Rattle.gathering.proofs.Acts.{says_on, says_off}
use Rattle.gathering.proofs.holding.say_byte.Goals as goal

pub returns-then-n : goal.returns-then-n
returns-then-n c =
    let a = c.args in
    λ words objects. rw c.put.ensures (says_on a.text.now words objects a.n (a.byte ∷ []) c.if-n.true)

pub returns : goal.returns
returns c =
    let a = c.args in
    λ words objects. says_off a.text.now words objects a.n (a.byte ∷ []) c.if-n.false
