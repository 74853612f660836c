-- `text::bytes_of` meets its contract: a range that fits ends within the text. Assumes nothing.
use mathlib.Core.Path.{◌≡◌}
use Prim.Native.Nat.{◌-◌}
use native.Mathlib.Omega.{arith}
use Rattle.text.specs.Part.{part}
use Rattle.text.proofs.Ranges.{fits_le}
use Rattle.text.proofs.bytes_of.Goals as goal

pub slice_bounds-result-end : goal.slice_bounds-result-end
slice_bounds-result-end c = omega (arith, fits_le _ _ c.requires)

pub returns : goal.returns
unfolding part
returns c =
    let r = c.args.range in
    let e : c.end.result - r.start ≡ r.length = omega (arith, c.end.ensures) in
    rw e
