-- `ways::leads` meets its contract. Assumes nothing.
use mathlib.Core.Path.{sym, ◌∙◌}
use native.Mathlib.Omega.{arith}
use Rattle.ways.proofs.Ways.{told_not, told_by}
use Rattle.ways.proofs.Stood.leads.Goals as goal

pub returns-then-from-node : goal.returns-then-from-node
returns-then-from-node c = told_not (λ l. c.if-from-node.true (c.from.ensures ∙ l.under))

pub returns-then-self-k : goal.returns-then-self-k
returns-then-self-k c = told_not (λ l. c.if-self-k.true l.marked)

pub letter_of-requires : goal.letter_of-requires
letter_of-requires c l =
    rw (c.name.ensures.bytes, ← c.if-self-k.false) (c.requires.mark_in_bounds (omega arith))

pub returns : goal.returns
returns c =
    told_by
    (sym c.from.ensures ∙ c.if-from-node.false)
    c.if-self-k.false
    (rw c.name.ensures.bytes at c.letter_of.ensures)
