use mathlib.Core.Path.{sym, ◌∙◌}
use native.Mathlib.Omega.{arith}
use borrow.Author.Count.{below_more}
use Rattle.laws.proofs.Searches.{lowest_is}
use Rattle.listing.specs.Listing.{records_in, outside}
use Rattle.listing.proofs.first_outside.Goals as goal

pub is_outside-requires : goal.is_outside-requires
is_outside-requires c = omega (arith, c.records_in-k-end.ensures)

pub returns-then-is_outside : goal.returns-then-is_outside
returns-then-is_outside c =
    let test = outside c.args.words c.args.bytes c.args.listing.now in
    (omega (arith, c.records_in-k-end.ensures), lowest_is test (records_in c.args.listing.now) c.loop-k.k (omega (arith, c.records_in-k-end.ensures)) c.loop-k.invariant (λ _. sym c.is_outside.ensures ∙ c.if-is_outside.true))

pub loop-k-preserved : goal.loop-k-preserved
loop-k-preserved c = below_more _ _ c.loop-k.invariant (sym c.is_outside.ensures ∙ c.if-is_outside.false)

pub returns : goal.returns
returns c =
    let test = outside c.args.words c.args.bytes c.args.listing.now in
    omega (arith, c.records_in-k-end.ensures, lowest_is test (records_in c.args.listing.now) (records_in c.args.listing.now) (omega arith) (λ j h. c.loop-k.invariant j (omega (arith, c.records_in-k-end.ensures))) (λ h. absurd (omega arith)))
