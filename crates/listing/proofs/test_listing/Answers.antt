use mathlib.Core.Path.{refl, sym}
use native.Mathlib.Omega.{arith}
use Rattle.listing.proofs.Inside.{few_records}
use Rattle.listing.proofs.Tables.{bad_listing_lem, outside_first, answers_short, all_answered}
use Rattle.listing.proofs.test_listing.Goals as goal

pub returns-then-size : goal.returns-then-size
returns-then-size c =
    sym (bad_listing_lem c.args.words c.args.bytes c.args.answers c.args.listing.now c.if-size.true)

pub overflow_cast-result : goal.overflow_cast-result
overflow_cast-result c =
    omega (arith, few_records c.args.listing.now c.if-size.false, c.in-Some.ensures.0)

pub returns-in-Some : goal.returns-in-Some
returns-in-Some c =
    sym (outside_first c.args.words c.args.bytes c.args.answers c.args.listing.now c.if-size.false _ c.in-Some.ensures.1 c.in-Some.ensures.0)

pub overflow_cast-result-then-answers-many : goal.overflow_cast-result-then-answers-many
overflow_cast-result-then-answers-many c =
    omega (arith, few_records c.args.listing.now c.if-size.false, c.records_in-many.ensures)

pub returns-then-answers-many : goal.returns-then-answers-many
returns-then-answers-many c =
    rw c.records_in-many.ensures (sym (answers_short c.args.words c.args.bytes c.args.answers c.args.listing.now c.if-size.false _ refl c.in_default.ensures (omega (arith, c.records_in-many.ensures, c.if-answers-many.true))))

pub overflow_cast-result-2 : goal.overflow_cast-result-2
overflow_cast-result-2 c =
    omega (arith, few_records c.args.listing.now c.if-size.false, c.records_in-many.ensures)

pub returns : goal.returns
returns c =
    rw c.records_in-many.ensures (sym (all_answered c.args.words c.args.bytes c.args.answers c.args.listing.now c.if-size.false _ refl c.in_default.ensures (omega (arith, c.records_in-many.ensures, c.if-answers-many.false))))
