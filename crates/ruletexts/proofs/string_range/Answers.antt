-- `string_range` meets its contract, by the kind of the entry. Assumes nothing.
use mathlib.Core.Path.{sym, ap, ◌∙◌}
use Rattle.sheet.specs.Kinds.{kind_number}
use Rattle.ruletexts.proofs.Readable.{no_string, a_string}
use Rattle.ruletexts.proofs.string_range.Goals as goal

pub returns-then-number-ne-STRING : goal.returns-then-number-ne-STRING
returns-then-number-ne-STRING c = no_string c.args.entry (λ e. c.if-number-ne-STRING.true (c.number.ensures ∙ ap kind_number c.of.ensures ∙ e))

pub returns : goal.returns
returns c = a_string c.args.entry (sym (ap kind_number c.of.ensures) ∙ sym c.number.ensures ∙ c.if-number-ne-STRING.false)
