-- `amphorust_verdict` meets its contract. Assumes nothing.
use mathlib.Core.List.{[]}
use Rattle.number.proofs.Calls.{count_fits, call_told}
use Rattle.hub.proofs.amphorust_verdict.Goals as goal

pub number_of-requires : goal.number_of-requires
number_of-requires c = count_fits _ _ _ _ _ _ [] c.verdict-answer.result c.verdict-answer.ensures

pub returns : goal.returns
returns c = call_told _ _ _ _ _ _ [] c.verdict-answer.result c.verdict-answer.ensures c.number_of.ensures
