-- `steps_of` meets its contract, by the number of the code. Assumes nothing.
use native.Mathlib.Omega.{arith}
use mathlib.Core.Logic.{⊎_elim}
use mathlib.Core.Path.{sym}
use Rattle.rulereader.proofs.Stepping.{listed_steps, one_step, three_steps, member_steps, no_step}
use Rattle.rulereader.proofs.steps.steps_of.Goals as goal

pub returns-in-36 : goal.returns-in-36
returns-in-36 c =
    sym (three_steps c.args.words.now c.args.k c.clause_at-clause.result c.clause_at-clause.ensures c.in-36.is)

pub returns-in-37 : goal.returns-in-37
returns-in-37 c =
    sym (member_steps c.args.words.now c.args.k c.clause_at-clause.result c.clause_at-clause.ensures c.in-37.is)

pub returns-in-30-to-32 : goal.returns-in-30-to-32
returns-in-30-to-32 c =
    sym (listed_steps c.args.words.now c.args.k c.clause_at-clause.result c.clause_at-clause.ensures (omega arith) (omega arith))

pub returns-in-33 : goal.returns-in-33
returns-in-33 c =
    sym (one_step c.args.words.now c.args.k c.clause_at-clause.result c.clause_at-clause.ensures (omega arith) (omega arith))

pub returns-in_default : goal.returns-in_default
returns-in_default c =
    sym (no_step c.args.words.now c.args.k c.clause_at-clause.result c.clause_at-clause.ensures (⊎_elim (λ r. omega (arith, r.0)) (λ r. omega (arith, r.0))))

pub returns-in_default-2 : goal.returns-in_default-2
returns-in_default-2 c =
    sym (no_step c.args.words.now c.args.k c.clause_at-clause.result c.clause_at-clause.ensures (⊎_elim (λ r. omega (arith, r.1)) (λ r. omega (arith, r.0, r.1))))
