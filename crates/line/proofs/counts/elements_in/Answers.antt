-- `elements_in` meets its contract. Assumes nothing.
use mathlib.Core.Path.{ap, ◌∙◌}
use Rattle.sheet.specs.Record.{doc_of}
use Rattle.looking.specs.Read.{or_none}
use Rattle.line.proofs.Counted.{or_nought, elements_counted}
use Rattle.line.proofs.counts.elements_in.Goals as goal

pub returns : goal.returns
returns c =
    λ ts. c.unwrap_or.ensures ∙ or_nought c.elements_of.result ∙ ap or_none (c.elements_of.ensures ts) ∙ elements_counted ((doc_of c.args.«record».now ts).value c.args.row.0)
