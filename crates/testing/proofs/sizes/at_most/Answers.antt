-- `at_most` meets its contract, for a size and for none. Assumes nothing.
use borrow.Author.Rules.{rules}
use lib.Dec.{leb}
use Rattle.meaning.specs.Tests.{at_most}
use Rattle.testing.proofs.Limits.{size_holds}
use Rattle.testing.proofs.sizes.at_most.Goals as goal

pub returns : goal.returns
unfolding at_most
returns c = λ size xs e. size_holds size _ (λ n. leb n c.args.k) _ c.is_none_or.ensures xs e (λ n made. search rules)
