-- `next_step` meets its contract. Assumes nothing.
use mathlib.Core.Bool.{not, cond}
use mathlib.Core.Path.{sym, ap, ◌∙◌}
use Prim.Native.Nat.{◌+◌}
use Rattle.areas.specs.Cells.{pair_is}
use Rattle.plan.specs.Plan.{after_miss}
use Rattle.lent.specs.Lent.{way_by, clause_at}
use Rattle.lent.specs.Reads.{lent_case}
use Rattle.lent.proofs.Ways.{goes_stops}
use Rattle.lent.proofs.Reading.{rule_low}
use Rattle.stepping.proofs.next_step.Goals as goal

pub returns-then-goes_on : goal.returns-then-goes_on
returns-then-goes_on c =
    sym (ap (λ b. cond b (after_miss (clause_at (lent_case c.args.lent.now) (pair_is c.args.p) c.args.i) c.args.step) (c.args.step + 1)) (goes_stops (way_by c.args.lent.now.cut) c.args.tally c.goes_on.ensures ∙ ap not c.if-goes_on.true))

pub after_miss-requires : goal.after_miss-requires
after_miss-requires c =
    let A = c.requires.0 in
    let S = c.args.lent.now.sheets in record {
      rules_read = (S.rules_read, rule_low S A.inside, A.clause_inside, c.requires.2);
      row_is_clause_words = c.requires.1;
    }

pub returns : goal.returns
returns c =
    c.after_miss.ensures
    ∙ sym (ap (λ b. cond b (after_miss (clause_at (lent_case c.args.lent.now) (pair_is c.args.p) c.args.i) c.args.step) (c.args.step + 1)) (goes_stops (way_by c.args.lent.now.cut) c.args.tally c.goes_on.ensures ∙ ap not c.if-goes_on.false))
