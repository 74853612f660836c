-- `rows_pass` meets its contract, keyword by keyword: each row passed over passes the exact test. Assumes nothing.
use mathlib.Core.Path.{refl, ap}
use borrow.Author.Rules.{rules}
use Rattle.decimal.specs.Value.{Plain}
use Rattle.sheet.specs.Record.{doc_of}
use Rattle.rulesheet.specs.Clauses.{held}
use Rattle.meaning.specs.Rules.{passes}
use Rattle.clause.proofs.Asserting.{tried}
use Rattle.rows.proofs.Firsts.{rows_so}
use Rattle.rows.proofs.rows_pass.Goals as goal

pub first_rows-requires-in-Minimum-clause-callable : goal.first_rows-requires-in-Minimum-clause-callable
first_rows-requires-in-Minimum-clause-callable c =
    let plain : Plain c.in-Minimum.limit = c.requires.plain _ (ap held c.in-Minimum.is) in
    search rules

pub first_rows-requires-in-Maximum-clause-callable : goal.first_rows-requires-in-Maximum-clause-callable
first_rows-requires-in-Maximum-clause-callable c =
    let plain : Plain c.in-Maximum.limit = c.requires.plain _ (ap held c.in-Maximum.is) in
    search rules

pub returns-in-Types : goal.returns-in-Types
unfolding passes
returns-in-Types c =
    rows_so _ _ _ c.first_rows.ensures (λ j told rs us. tried rs us (doc_of c.args.«record».now c.args.text.now) j _ _ _ _ c.in-Types.is refl (search rules))

pub returns-in-Minimum : goal.returns-in-Minimum
unfolding passes
returns-in-Minimum c =
    rows_so _ _ _ c.first_rows-in-Minimum.ensures (λ j told rs us. tried rs us (doc_of c.args.«record».now c.args.text.now) j _ _ _ _ c.in-Minimum.is refl (search rules))

pub returns-in-Maximum : goal.returns-in-Maximum
unfolding passes
returns-in-Maximum c =
    rows_so _ _ _ c.first_rows-in-Maximum.ensures (λ j told rs us. tried rs us (doc_of c.args.«record».now c.args.text.now) j _ _ _ _ c.in-Maximum.is refl (search rules))

pub returns-then-least-le-FEW : goal.returns-then-least-le-FEW
unfolding passes
returns-then-least-le-FEW c =
    rows_so _ _ _ c.first_rows-then-least-le-FEW.ensures (λ j told rs us. tried rs us (doc_of c.args.«record».now c.args.text.now) j _ _ _ _ c.in-MinLength.is refl (search rules))

pub returns-in-MaxLength : goal.returns-in-MaxLength
unfolding passes
returns-in-MaxLength c =
    rows_so _ _ _ c.first_rows-in-MaxLength.ensures (λ j told rs us. tried rs us (doc_of c.args.«record».now c.args.text.now) j _ _ _ _ c.in-MaxLength.is refl (search rules))
