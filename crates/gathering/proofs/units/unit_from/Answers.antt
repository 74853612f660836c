-- `gathering::units::unit_from` meets its contract. Assumes nothing.
use mathlib.Core.Path.{◌∙◌}
use Rattle.naming.specs.Gathering.{digit_of}
use Rattle.gathering.proofs.units.unit_from.Goals as goal

pub returns : goal.returns
unfolding digit_of
returns c =
    c.hex_more.ensures.0
    ∙ rw (c.hex_more-c.ensures.0, c.hex_more-b.ensures.0, c.hex_more-a.ensures.0, c.byte_at-4.ensures, c.byte_at-3.ensures, c.byte_at-2.ensures, c.byte_at.ensures)
