-- `gathering::holding::say_code` meets its contract. Assumes nothing.
use mathlib.Core.List.{[]}
use Rattle.jsontext.specs.Utf8.{encode}
use Rattle.gathering.proofs.Acts.{says_on, says_off}
use Rattle.gathering.proofs.holding.say_code.Goals as goal

pub returns-then-n : goal.returns-then-n
returns-then-n c =
    let a = c.args in
    λ words objects. rw (c.append-size.ensures.1, c.append-size.ensures.0) (says_on a.text.now words objects a.n (encode a.code []) c.if-n.true)

pub returns : goal.returns
returns c =
    let a = c.args in
    λ words objects. says_off a.text.now words objects a.n (encode a.code []) c.if-n.false
