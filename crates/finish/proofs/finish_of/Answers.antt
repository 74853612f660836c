-- `finish_of` meets its contract. Assumes nothing.
use mathlib.Core.Path.{refl, ap, ◌∙◌}
use Rattle.sheet.specs.Record.{doc_of}
use Rattle.areas.specs.Cells.{pair_is}
use Rattle.clause.specs.Read.{clause_in}
use Rattle.clause.proofs.Reading.{words_read}
use Rattle.plan.specs.Plan.{ends_by}
use Rattle.finish.proofs.Ending.{spared_ends}
use Rattle.finish.proofs.finish_of.Goals as goal

pub finish_in-requires : goal.finish_in-requires
finish_in-requires c =
    let asked = c.requires in record {
      laid = asked.laid;
      rules_laid = (asked.rules_read.0.laid, (words_read asked.rules_read.0 asked.rules_read.1 asked.rules_read.2 asked.row_is_clause_words c.sparing_by-clause.ensures).tested);
    }

pub returns : goal.returns
returns c =
    let asked = c.requires in
    let read = words_read asked.rules_read.0 asked.rules_read.1 asked.rules_read.2 asked.row_is_clause_words c.sparing_by-clause.ensures in
    let p = pair_is c.args.p in
    λ ts.
    let doc = doc_of c.args.«record».now ts in
    c.finish_in.ensures ts c.args.rule_text.now p refl
    ∙ ap (λ x. ends_by doc p x c.args.tally) read.means
    ∙ spared_ends doc p (clause_in c.args.rules.now c.args.rule_text.now c.args.p.rule.0 c.args.i) c.args.tally
