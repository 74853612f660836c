-- `few_differ` meets its contract. Assumes nothing.
use native.Mathlib.Omega.{arith}
use Rattle.rulelists.proofs.Entries.{few_differ}
use Rattle.rulelists.proofs.few_differ.Goals as goal

pub returns-then-list-le1 : goal.returns-then-list-le1
returns-then-list-le1 c t =
    few_differ c.args.words.now c.args.text.now c.args.list.first c.args.list.count (omega arith)

pub returns-then-keys_differ : goal.returns-then-keys_differ
returns-then-keys_differ c t = c.keys_differ.ensures c.if-keys_differ.true
