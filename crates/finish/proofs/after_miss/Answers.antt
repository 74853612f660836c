-- `after_miss` meets its contract. Assumes nothing.
use mathlib.Core.Path.{ap, ◌∙◌}
use Rattle.clause.specs.Read.{clause_in}
use Rattle.clause.proofs.Reading.{words_read}
use Rattle.plan.specs.Plan.{after_miss}
use Rattle.finish.proofs.Ending.{applied_after}
use Rattle.finish.proofs.after_miss.Goals as goal

pub returns : goal.returns
returns c =
    let asked = c.requires in
    let read = words_read asked.rules_read.0 asked.rules_read.1 asked.rules_read.2 asked.row_is_clause_words c.applied_by-clause.ensures in
    c.after_in.ensures c.args.rules.now c.args.rule_text.now
    ∙ ap (λ x. after_miss x c.args.step) read.means
    ∙ applied_after (clause_in c.args.rules.now c.args.rule_text.now c.args.s.0 c.args.i) c.args.step
