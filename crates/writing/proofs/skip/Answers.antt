-- `skip` meets its contract. Assumes nothing.
use mathlib.Core.List.{List}
use mathlib.Core.Logic.{⊎_elim}
use mathlib.Core.Path.{◌≡◌, sym, ap, ◌∙◌}
use Prim.Native.Nat.{ℕ, ◌≤◌, ◌<◌}
use native.Mathlib.Omega.{arith}
use lib.ListN.{length, drop, drop_of_length-le}
use Rattle.laws.proofs.Tests.{le_or_lt}
use Rattle.writing.specs.Reading.{blanks_of}
use Rattle.writing.proofs.Spaces.{blank_more, blank_none}
use Rattle.writing.proofs.skip.Goals as goal

pub returns-then-not-blank : goal.returns-then-not-blank
returns-then-not-blank c = omega (arith, blank_none c.args.json.now c.loop-i.i (sym c.blank.ensures ∙ c.if-not-blank.true), c.loop-i.invariant)

pub loop-i-preserved : goal.loop-i-preserved
loop-i-preserved c = omega (arith, blank_more c.args.json.now c.loop-i.i c.loop-i-test.true (sym c.blank.ensures ∙ c.if-not-blank.false), c.loop-i.invariant)

-- behind the text there is no white space
past : (json : List ℕ) (i : ℕ) → length json ≤ i → blanks_of (drop i json) ≡ 0
unfolding blanks_of
past json i l = ap blanks_of (drop_of_length-le json l)

pub returns : goal.returns
returns c =
    let json = c.args.json.now in
    ⊎_elim
    (λ (l : c.args.start ≤ length json). omega (arith, c.max.ensures, past json c.loop-i.i c.loop-i-test.false, c.loop-i.invariant))
    (λ (l : length json < c.args.start). omega (arith, c.max.ensures, past json c.args.start (omega arith)))
    (le_or_lt c.args.start (length json))
