-- `reach::settles` meets its contract. By the range's two ends, or by how far characters go on from its start.
-- Assumes nothing.
use mathlib.Core.Path.{sym, ap, ◌∙◌}
use native.Mathlib.Omega.{arith}
use Rattle.text.specs.Part.{part}
use Rattle.text.proofs.Ranges.{fits_le}
use Rattle.utf8.specs.Automaton.{is_utf8}
use Rattle.reach.proofs.Reaching.{too_far, front, front_fits}
use Rattle.reach.proofs.settles.Goals as goal

pub reach_of-to-requires : goal.reach_of-to-requires
reach_of-to-requires c = (c.requires.0.told, omega (arith, fits_le _ _ c.requires.1))

pub returns-then-to-end : goal.returns-then-to-end
returns-then-to-end c = sym (too_far _ _ c.requires.1 _ c.reach_of-to.ensures (omega arith))

pub range_is_utf8-requires-2 : goal.range_is_utf8-requires-2
unfolding part
range_is_utf8-requires-2 c = record {
  text_is_utf8 = c.reach_of-to.ensures.good;
  range_fits = front_fits _ _ c.requires.1 _ c.reach_of-to.ensures (omega arith);
}

pub returns : goal.returns
unfolding part
returns c = c.range_is_utf8-2.ensures ∙ ap is_utf8 (front _ _ c.requires.1 _ c.reach_of-to.ensures (omega arith))
