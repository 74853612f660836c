-- `strings::code_at` meets its contract.
-- Assumes nothing.
use mathlib.Core.Path.{◌∙◌}
use Rattle.strings.proofs.code_at.Goals as goal

pub unit_of-requires : goal.unit_of-requires
unit_of-requires c =
    (rw (c.hex_of-a.ensures.worth, c.from.ensures) c.requires.0.small, rw (c.hex_of-b.ensures.worth, c.from-2.ensures) c.requires.1.small, rw (c.hex_of-c.ensures.worth, c.from-3.ensures) c.requires.2.small, rw (c.hex_of-d.ensures.worth, c.from-4.ensures) c.requires.3.small)

pub returns : goal.returns
returns c =
    c.unit_of.ensures ∙ rw (c.hex_of-a.ensures.worth, c.from.ensures, c.hex_of-b.ensures.worth, c.from-2.ensures, c.hex_of-c.ensures.worth, c.from-3.ensures, c.hex_of-d.ensures.worth, c.from-4.ensures)
