-- `equals_entry` meets its contract: by the two kinds, and then by numbers or bytes. Assumes nothing.
use mathlib.Core.Path.{sym, ap, ◌∙◌}
use borrow.Author.Tests.{eq-eqb}
use Rattle.sheet.specs.Kinds.{kind_number}
use Rattle.looking.proofs.Having.{number_found, bytes_found}
use Rattle.clause.proofs.Equality.{kinds_differ, numbers_same, strings_same, kinds_same, entry_kind, entry_number, entry_plain, entry_bytes, entry_fits}
use Rattle.clause.proofs.values.equals_entry.Goals as goal

pub returns-then-kind-entry : goal.returns-then-kind-entry
returns-then-kind-entry c =
    kinds_differ _ _ _ _ (c.number-kind.ensures ∙ ap kind_number (c.kind_of.ensures c.args.text.now)) (entry_kind c.args.rule_text.now c.args.entry c.requires.value) c.if-kind-entry.true

pub equal-requires : goal.equal-requires
equal-requires c =
    ((number_found _ _ (eq-eqb _ _ (sym (c.number-kind.ensures ∙ ap kind_number (c.kind_of.ensures c.args.text.now)) ∙ c.if-kind-eq-NUMBER.true)) (c.number_of.ensures.number_is c.args.text.now) (c.number_of.ensures.number_plain c.args.text.now)).plain, entry_plain c.args.rule_text.now c.args.entry c.requires.value _ (sym c.if-kind-entry.false ∙ c.if-kind-eq-NUMBER.true) c.of_word-number.ensures)

pub returns-then-kind-eq-NUMBER : goal.returns-then-kind-eq-NUMBER
returns-then-kind-eq-NUMBER c =
    numbers_same _ _ _ _ (c.number-kind.ensures ∙ ap kind_number (c.kind_of.ensures c.args.text.now)) (entry_kind c.args.rule_text.now c.args.entry c.requires.value) c.if-kind-entry.false _ _ _ c.equal.ensures c.if-kind-eq-NUMBER.true (number_found _ _ (eq-eqb _ _ (sym (c.number-kind.ensures ∙ ap kind_number (c.kind_of.ensures c.args.text.now)) ∙ c.if-kind-eq-NUMBER.true)) (c.number_of.ensures.number_is c.args.text.now) (c.number_of.ensures.number_plain c.args.text.now)).number_is (entry_number c.args.rule_text.now c.args.entry c.requires.value _ (sym c.if-kind-entry.false ∙ c.if-kind-eq-NUMBER.true) c.of_word-number.ensures)

pub same_part-requires-clause-q_fits : goal.same_part-requires-clause-q_fits
same_part-requires-clause-q_fits c = entry_fits c.args.rule_text.now c.args.entry c.requires.value (sym c.if-kind-entry.false ∙ c.if-kind-eq-STRING.true)

pub returns-then-kind-eq-STRING : goal.returns-then-kind-eq-STRING
returns-then-kind-eq-STRING c =
    strings_same _ _ _ _ (c.number-kind.ensures ∙ ap kind_number (c.kind_of.ensures c.args.text.now)) (entry_kind c.args.rule_text.now c.args.entry c.requires.value) c.if-kind-entry.false _ _ _ c.same_part.ensures c.if-kind-eq-STRING.true (bytes_found _ _ (eq-eqb _ _ (sym (c.number-kind.ensures ∙ ap kind_number (c.kind_of.ensures c.args.text.now)) ∙ c.if-kind-eq-STRING.true)) (c.string_of.ensures.string_is c.args.text.now)) (entry_bytes c.args.rule_text.now c.args.entry c.requires.value (sym c.if-kind-entry.false ∙ c.if-kind-eq-STRING.true))

pub returns : goal.returns
returns c =
    kinds_same _ _ _ _ (c.number-kind.ensures ∙ ap kind_number (c.kind_of.ensures c.args.text.now)) (entry_kind c.args.rule_text.now c.args.entry c.requires.value) c.if-kind-entry.false c.if-kind-eq-NUMBER.false c.if-kind-eq-STRING.false
