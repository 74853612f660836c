-- `enough` meets its contract. Assumes nothing.
use borrow.Author.Rules.{rules}
use Rattle.sheet.specs.Record.{doc_of}
use Rattle.meaning.specs.Rules.{contained}
use Rattle.finish.proofs.Ending.{enough_held}
use Rattle.finish.proofs.enough.Goals as goal

pub returns : goal.returns
unfolding contained
returns c =
    λ ts. enough_held ((doc_of c.args.«record».now ts).value c.args.row.0) c.args.least c.args.most c.args.tally _ _ c.is_none_or.ensures (c.elements_of.ensures ts) (λ n made. search rules)
