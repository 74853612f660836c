-- `tally::unit_size` meets its contract. Assumes nothing.
use mathlib.Core.Bool.{true, false, ◌&&◌}
use mathlib.Core.Path.{◌≡◌, ◌∙◌}
use native.Mathlib.Omega.{arith}
use Rattle.jsontext.specs.Value.{is_low}
use Rattle.tally.proofs.Bounded.{size_low}
use Rattle.tally.proofs.unit_size.Goals as goal

pub returns-then-behind-low : goal.returns-then-behind-low
returns-then-behind-low c =
    let a = c.args in let e : (a.behind && is_low a.code) ≡ true = rw c.low.ensures at c.if-behind-low.true in (rw e, omega arith)

pub returns : goal.returns
returns c =
    let a = c.args in let e : (a.behind && is_low a.code) ≡ false = rw c.low.ensures at c.if-behind-low.false in (c.size_of.ensures ∙ rw e, rw c.size_of.ensures (size_low a.code))
