-- `clause_of` meets its contract: the clause was decoded from its row. Assumes nothing.
use Rattle.rulesheet.proofs.Meanings.{means_by, tested_by}
use Rattle.rulereader.proofs.clause_of.Goals as goal

pub returns : goal.returns
returns c =
    let row = c.clause_at-row in record {
      means_clause = means_by c.args.words.now c.args.k row.result row.ensures c.decoded.result c.decoded.ensures;
      tested = tested_by c.args.words.now c.args.form c.args.k c.requires.1 row.result row.ensures c.decoded.result c.decoded.ensures;
    }
