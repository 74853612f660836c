-- `pass_list` meets its contract. Assumes nothing.
use native.Mathlib.Omega.{arith}
use mathlib.Core.Path.{refl, sym, ◌∙◌}
use borrow.Author.Tests.{not-false}
use Rattle.rulesheet.proofs.Trailers.{facts, form_e}
use Rattle.rulepass.proofs.Clauses.{listed_within, passed_list}
use Rattle.rulepass.proofs.pass_list.Goals as goal

pub overflow_add-result : goal.overflow_add-result
overflow_add-result c =
    omega (arith, listed_within c.args.form.e c.args.shape c.args.from.start c.args.clause (sym c.listed.ensures ∙ not-false _ c.if-not-listed.false-raw), (facts c.args.words.now c.args.form c.requires.0).few_entries, form_e c.args.words.now c.args.form c.requires.0)

pub entries_fine-requires : goal.entries_fine-requires
entries_fine-requires c =
    (c.requires.0, c.requires.1, listed_within c.args.form.e c.args.shape c.args.from.start c.args.clause (sym c.listed.ensures ∙ not-false _ c.if-not-listed.false-raw))

pub after_list-requires : goal.after_list-requires
after_list-requires c =
    (c.requires.0, λ _. listed_within c.args.form.e c.args.shape c.args.from.start c.args.clause (sym c.listed.ensures ∙ not-false _ c.if-not-listed.false-raw))

pub returns : goal.returns
returns c =
    passed_list c.args.words.now c.args.text.now c.args.form c.requires.0 c.args.s.0 c.args.clause c.args.shape c.requires.2 c.args.from.start c.args.from.steps _ c.requires.3 (sym c.listed.ensures ∙ not-false _ c.if-not-listed.false-raw) (c.entries_fine.ensures (not-false _ c.if-not-entries_fine.false-raw)) refl c.after_list.ensures
