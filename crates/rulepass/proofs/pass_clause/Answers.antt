-- `pass_clause` meets its contract, for a list clause and for another. Assumes nothing.
use mathlib.Core.Bool.{not}
use mathlib.Core.Path.{refl, sym, ◌∙◌}
use borrow.Author.Tests.{not-true, not-false}
use Rattle.laws.proofs.Tests.{left, right}
use Rattle.rulepass.proofs.Clauses.{passed_other}
use Rattle.rulepass.proofs.pass_clause.Goals as goal

pub returns-then-not-is_list : goal.returns-then-not-is_list
returns-then-not-is_list c =
    passed_other c.args.words.now c.args.text.now c.args.form c.requires.0 c.args.s.0 c.args.clause c.shape_of-shape.result c.shape_of-shape.ensures c.args.from.start c.args.from.steps _ (sym c.is_list.ensures ∙ not-true _ c.if-not-is_list.true-raw) (sym c.fields_ok.ensures ∙ not-false _ c.if-not-fields_ok.false-raw) refl c.after_one.ensures

pub pass_named-requires : goal.pass_named-requires
pass_named-requires c =
    let of = c.shape_of-shape in
    let named = c.is_named in
    (c.requires.0, c.requires.1, of.ensures, sym c.is_list.ensures ∙ not-false _ c.if-not-is_list.false-raw, sym named.ensures ∙ left named.result (not of.result.unguarded) c.if-is_named-shape.true, not-true _ (right named.result (not of.result.unguarded) c.if-is_named-shape.true))

pub pass_list-requires : goal.pass_list-requires
pass_list-requires c =
    (c.requires.0, c.requires.1, c.shape_of-shape.ensures, sym c.is_list.ensures ∙ not-false _ c.if-not-is_list.false-raw)
