-- `names_differ` meets its contract. Assumes nothing.
use native.Mathlib.Omega.{arith}
use borrow.Author.Tests.{eqb-true}
use Rattle.rulesheet.proofs.Trailers.{form_e}
use Rattle.ruleentries.proofs.Naming.{lie_end, lie_lying}
use Rattle.rulelists.proofs.Entries.{found_differ}
use Rattle.rulelists.proofs.names_differ.Goals as goal

pub overflow_add-lying : goal.overflow_add-lying
overflow_add-lying c =
    omega (arith, lie_end c.args.words.now c.args.text.now c.args.form c.requires.0 c.args.list.first c.args.list.count (omega (arith, c.requires.1, form_e c.args.words.now c.args.form c.requires.0)))

pub first_repeated-requires : goal.first_repeated-requires
first_repeated-requires c =
    rw (c.wide.ensures, c.wide-2.ensures) (lie_lying c.args.words.now c.args.text.now c.args.form c.requires.0 c.args.list.first c.args.list.count (omega (arith, c.requires.1, form_e c.args.words.now c.args.form c.requires.0)) c.requires.2.fitting)

pub returns : goal.returns
returns c t =
    found_differ c.args.words.now c.args.text.now c.args.form c.requires.0 c.args.list.first c.args.list.count (omega (arith, c.requires.1, form_e c.args.words.now c.args.form c.requires.0)) c.first_repeated.result (rw (c.wide.ensures, c.wide-2.ensures) at c.first_repeated.ensures) (omega (arith, eqb-true c.first_repeated.result c.wide-3.result t))
