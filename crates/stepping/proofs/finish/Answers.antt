-- `finish` meets its contract. Assumes nothing.
use mathlib.Core.Path.{◌∙◌}
use Rattle.areas.specs.Cells.{pair_is}
use Rattle.finish.proofs.Ending.{ends_finish}
use Rattle.lent.specs.Lent.{clause_at}
use Rattle.lent.specs.Reads.{lent_case}
use Rattle.lent.proofs.Reading.{row_low, rule_low}
use Rattle.stepping.proofs.finish.Goals as goal

pub finish_of-requires : goal.finish_of-requires
finish_of-requires c =
    let S = c.args.lent.now.sheets in record {
      laid = (S.record_read.laid, row_low S c.requires.0.inside);
      rules_read = (S.rules_read, rule_low S c.requires.0.inside, c.requires.0.clause_inside);
      row_is_clause_words = c.requires.1;
    }

pub returns : goal.returns
returns c =
    let T = lent_case c.args.lent.now in let p = pair_is c.args.p in c.finish_of.ensures c.args.lent.now.text.now ∙ ends_finish T.doc p (clause_at T p c.args.i) c.args.tally c.requires.2
