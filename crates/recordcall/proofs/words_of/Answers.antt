use mathlib.Core.Path.{◌≡◌}
use Prim.Native.Nat.{◌+◌, ◌-◌}
use native.Mathlib.Omega.{arith}
use Rattle.text.specs.Part.{part}
use Rattle.text.proofs.Ranges.{fits_le}
use Rattle.recordcall.proofs.words_of.Goals as goal

pub slice_bounds-result-end : goal.slice_bounds-result-end
slice_bounds-result-end c =
    omega (arith, fits_le _ _ c.requires)

pub returns : goal.returns
unfolding part
returns c =
    (let e : (c.args.range.start + c.args.range.length) - c.args.range.start ≡ c.args.range.length = omega arith in rw e)
