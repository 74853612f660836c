-- `pass_clause` meets its contract, for a list clause and for another. Assumes nothing.
use mathlib.Core.Path.{sym, ◌∙◌}
use Rattle.ruleclauses.proofs.Passes.{list_passed, other_passed}
use Rattle.ruleclauses.proofs.pass_clause.Goals as goal

pub returns-then-first-start : goal.returns-then-first-start
returns-then-first-start c =
    rw (c.wide-first.ensures, c.wide.ensures) (list_passed c.args.words.now c.args.form c.requires c.args.start c.args.clause c.shape_of-shape.result c.shape_of-shape.ensures (sym c.is_list.ensures ∙ c.if-is_list.true) (rw (c.wide-first.ensures, c.wide.ensures, c.wide-then-is_list.ensures) at c.if-first-start.true))

pub returns-then-is_list : goal.returns-then-is_list
returns-then-is_list c =
    list_passed c.args.words.now c.args.form c.requires c.args.start c.args.clause c.shape_of-shape.result c.shape_of-shape.ensures (sym c.is_list.ensures ∙ c.if-is_list.true) (rw (c.wide-first.ensures, c.wide.ensures, c.wide-then-is_list.ensures) at c.if-first-start.false)

pub returns-then-fields_ok : goal.returns-then-fields_ok
returns-then-fields_ok c =
    other_passed c.args.words.now c.args.form c.requires c.args.start c.args.clause c.shape_of-shape.result c.shape_of-shape.ensures (sym c.is_list.ensures ∙ c.if-is_list.false) c.fields_ok.ensures c.if-fields_ok.true

pub returns : goal.returns
returns c =
    other_passed c.args.words.now c.args.form c.requires c.args.start c.args.clause c.shape_of-shape.result c.shape_of-shape.ensures (sym c.is_list.ensures ∙ c.if-is_list.false) c.fields_ok.ensures c.if-fields_ok.false
