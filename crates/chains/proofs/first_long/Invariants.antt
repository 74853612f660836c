-- `first_long` meets its contract: a search, in which the table says what is asked. Assumes nothing.
use Rattle.laws.proofs.Passing.{Passing}
use Rattle.rulesheet.specs.Sheet.{schemas_word, next_of}
use Rattle.unguarded.specs.Graph.{chain_steps, chain}
use Rattle.chains.proofs.first_long.Given as goal

abbrev pub invariant-loop-s : goal.invariant-loop-s
invariant-loop-s l =
    Passing (chain (next_of l.words) chain_steps) (schemas_word l.words) l.s
