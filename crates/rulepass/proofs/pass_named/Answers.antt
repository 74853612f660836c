-- `pass_named` meets its contract. Assumes nothing.
use native.Mathlib.Omega.{arith}
use mathlib.Core.Path.{refl, sym, ◌∙◌}
use borrow.Author.Tests.{not-false}
use Rattle.rulesheet.proofs.Trailers.{facts, form_e}
use Rattle.rulesteps.proofs.Counting.{uncounted}
use Rattle.rulepass.proofs.Clauses.{listed_within, passed_list}
use Rattle.rulepass.proofs.pass_named.Goals as goal

pub named_fine-requires : goal.named_fine-requires
named_fine-requires c =
    (c.requires.0, c.requires.1, listed_within c.args.form.e c.args.shape c.args.from.start c.args.clause (sym c.listed.ensures ∙ not-false _ c.if-not-listed.false-raw), c.requires.4)

pub overflow_add-result : goal.overflow_add-result
overflow_add-result c =
    omega (arith, listed_within c.args.form.e c.args.shape c.args.from.start c.args.clause (sym c.listed.ensures ∙ not-false _ c.if-not-listed.false-raw), (facts c.args.words.now c.args.form c.requires.0).few_entries, form_e c.args.words.now c.args.form c.requires.0)

pub returns : goal.returns
returns c =
    passed_list c.args.words.now c.args.text.now c.args.form c.requires.0 c.args.s.0 c.args.clause c.args.shape c.requires.2 c.args.from.start c.args.from.steps _ c.requires.3 (sym c.listed.ensures ∙ not-false _ c.if-not-listed.false-raw) (c.named_fine.ensures (not-false _ c.if-not-named_fine.false-raw)) refl (uncounted c.args.shape.unguarded c.requires.5)
