-- `others_fine` meets its contract. Assumes nothing.
use mathlib.Core.Bool.{not}
use mathlib.Core.Path.{sym, ap, ◌∙◌}
use borrow.Author.Tests.{not-true, not-false}
use Rattle.rulelists.proofs.Entries.{found_ok, names_fit}
use Rattle.rulelists.proofs.others_fine.Goals as goal

pub unnamed_fine-requires : goal.unnamed_fine-requires
unnamed_fine-requires c =
    (c.requires.0, c.requires.1, c.requires.2, sym c.is_named.ensures ∙ not-true _ c.if-not-is_named.true-raw)

pub names_differ-requires : goal.names_differ-requires
names_differ-requires c =
    let ok = found_ok c.args.words.now c.args.fields c.args.list.first c.args.list.count c.first_bad_in.result c.first_bad_in.ensures (c.is_none.ensures ∙ ap not c.if-is_none.true) in
    (c.requires.0, c.requires.2, names_fit c.args.words.now c.args.fields c.args.list.first c.args.list.count ok _ c.requires.1 (sym c.is_named.ensures ∙ not-false _ c.if-not-is_named.false-raw))

pub returns-then-is_none : goal.returns-then-is_none
returns-then-is_none c t =
    let ok = found_ok c.args.words.now c.args.fields c.args.list.first c.args.list.count c.first_bad_in.result c.first_bad_in.ensures (c.is_none.ensures ∙ ap not c.if-is_none.true) in
    record { entries = ok; names = λ n. c.names_differ.ensures t }
