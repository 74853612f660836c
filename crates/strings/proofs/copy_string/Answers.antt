use mathlib.Core.Path.{refl}
use native.Mathlib.Omega.{arith}
use borrow.Author.Rules.{rules}
use Rattle.escapes.specs.Escapes.{waiting}
use Rattle.strings.specs.Atoms.{Inside}
use Rattle.strings.proofs.Steps.{in_text, still, then, copied}
use Rattle.strings.proofs.copy_string.Goals as goal

pub loop-spot-init : goal.loop-spot-init
loop-spot-init c =
    let a = c.args in (λ s. still a.json.now a.start 0 s a.from a.area.now, refl, tt)

pub bounds-json-spot : goal.bounds-json-spot
bounds-json-spot c =
    let a = c.args in in_text a.json.now c.loop-spot.spot.0 (waiting c.loop-spot.spot.1.1.0) (c.loop-spot.invariant.0 c.requires.string_goes_on).left

pub atom-spot-requires : goal.atom-spot-requires
atom-spot-requires c =
    let a = c.args in let o = c.loop-spot.invariant.0 c.requires.string_goes_on in let l = in_text a.json.now c.loop-spot.spot.0 (waiting c.loop-spot.spot.1.1.0) o.left in record {
      inside = o.left;
      not_at_quote = (c.loop-spot-test.true, omega (arith, o.no_longer, c.requires.sizes_bounded.0, c.requires.sizes_bounded.1));
    }

pub loop-spot-smaller : goal.loop-spot-smaller
loop-spot-smaller c =
    let a = c.args in let o = c.loop-spot.invariant.0 c.requires.string_goes_on in let l = in_text a.json.now c.loop-spot.spot.0 (waiting c.loop-spot.spot.1.1.0) o.left in omega (arith, c.atom-spot.ensures.further)

pub loop-spot-preserved : goal.loop-spot-preserved
loop-spot-preserved c =
    let a = c.args in (λ (s : Inside a.json.now a.start 0). let o = c.loop-spot.invariant.0 s in then a.json.now a.start 0 s a.from a.area.now c.loop-spot.spot.0 (waiting c.loop-spot.spot.1.1.0) c.loop-spot.spot.1.0 c.loop-spot.area o _ _ _ _ (c.atom-spot.ensures.onward o.left), search rules, c.atom-spot.result.not_nought)

pub overflow_add-result : goal.overflow_add-result
overflow_add-result c =
    let a = c.args in let o = c.loop-spot.invariant.0 c.requires.string_goes_on in let l = in_text a.json.now c.loop-spot.spot.0 (waiting c.loop-spot.spot.1.1.0) o.left in omega arith

pub shape_of-area : goal.shape_of-area
shape_of-area c =
    c.loop-spot.invariant.1

pub returns : goal.returns
returns c =
    let a = c.args in λ (s : Inside a.json.now a.start 0). copied a.json.now a.start a.from a.area.now s c.loop-spot.spot.0 (waiting c.loop-spot.spot.1.1.0) c.loop-spot.spot.1.0 c.loop-spot.area (c.loop-spot.invariant.0 s) c.loop-spot-test.false

pub invariant_of-spot : goal.invariant_of-spot
invariant_of-spot c = record { not_nought = c.loop-spot.invariant.2 }
