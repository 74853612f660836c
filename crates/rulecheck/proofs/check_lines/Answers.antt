-- `check_lines` meets its contract: each answer is the line of the table that it names, since those before it do not apply. Assumes nothing.
use native.Mathlib.Omega.{arith}
use Prim.Native.Nat.{ℕ, ◌<◌}
use Rattle.sheet.proofs.Tables.{line_told}
use Rattle.rulesheet.specs.Sheet.{entries_word}
use Rattle.rulesheet.specs.Faults.{repeated}
use Rattle.rulesheet.proofs.Trailers.{form_m, form_c, form_e}
use Rattle.rules.proofs.Checks.{nowhere, schemas_laid, clauses_laid, rules_laid, text_length, at_schema, at_clause, at_entry, at_name}
use Rattle.rulecheck.proofs.Rest.{trailer_formed, places_fit}
use Rattle.rulecheck.proofs.check_lines.Goals as goal

pub first_bad_schema-schema-requires : goal.first_bad_schema-schema-requires
first_bad_schema-schema-requires c = trailer_formed c.args.words.now c.args.text.now c.args.form c.requires

pub returns-in_err-line : goal.returns-in_err-line
returns-in_err-line c =
    let ws = c.args.words.now in
    let ts = c.args.text.now in
    let form = c.args.form in
    let f = trailer_formed ws ts form c.requires in
    let h = c.in_err-line.ensures in
    line_told h _ (omega (arith, form_m ws form f, form_c ws form f))
    (at_schema ws ts c.requires.good _ c.first_bad_schema-schema.ensures (omega (arith, form_m ws form f))) _ c.from_residual.ensures.1

pub first_bad_clause-clause-requires : goal.first_bad_clause-clause-requires
first_bad_clause-clause-requires c =
    let ws = c.args.words.now in
    let ts = c.args.text.now in
    let form = c.args.form in
    let f = trailer_formed ws ts form c.requires in
    schemas_laid ws form f (omega (arith, c.in_ok-line.ensures, c.first_bad_schema-schema.ensures, form_m ws form f))

pub line-requires-2 : goal.line-requires-2
line-requires-2 c =
    let ws = c.args.words.now in
    let ts = c.args.text.now in
    let form = c.args.form in
    omega (arith, places_fit ws ts form c.requires)

pub returns-in_err-line-2 : goal.returns-in_err-line-2
returns-in_err-line-2 c =
    let ws = c.args.words.now in
    let ts = c.args.text.now in
    let form = c.args.form in
    let f = trailer_formed ws ts form c.requires in
    let h = c.in_err-line-2.ensures in
    line_told h _ (omega (arith, form_m ws form f, form_c ws form f))
    (at_clause ws ts c.requires.good (omega (arith, c.in_ok-line.ensures, c.first_bad_schema-schema.ensures, form_m ws form f))
    _ c.first_bad_clause-clause.ensures (omega (arith, form_c ws form f))) _ c.from_residual-in_err-line-2.ensures.1

pub first_bad_entry-entry-requires : goal.first_bad_entry-entry-requires
first_bad_entry-entry-requires c =
    let ws = c.args.words.now in
    let ts = c.args.text.now in
    let form = c.args.form in
    let f = trailer_formed ws ts form c.requires in (
      clauses_laid ws form f (schemas_laid ws form f
          (omega (arith, c.in_ok-line.ensures, c.first_bad_schema-schema.ensures, form_m ws form f)))
          (omega (arith, c.in_ok-line-2.ensures, c.first_bad_clause-clause.ensures, form_c ws form f)),
      text_length ws ts c.requires.good,
    )

pub overflow_add-m : goal.overflow_add-m
overflow_add-m c =
    let ws = c.args.words.now in
    let ts = c.args.text.now in
    let form = c.args.form in
    omega (arith, places_fit ws ts form c.requires)

pub line-requires-3 : goal.line-requires-3
line-requires-3 c =
    let ws = c.args.words.now in
    let ts = c.args.text.now in
    let form = c.args.form in
    places_fit ws ts form c.requires

pub returns-in_err-line-3 : goal.returns-in_err-line-3
returns-in_err-line-3 c =
    let ws = c.args.words.now in
    let ts = c.args.text.now in
    let form = c.args.form in
    let f = trailer_formed ws ts form c.requires in
    let h = c.in_err-line-3.ensures in
    line_told h _ (omega (arith, form_m ws form f, form_c ws form f))
    (at_entry ws ts c.requires.good (omega (arith, c.in_ok-line.ensures, c.first_bad_schema-schema.ensures, form_m ws form f))
    (omega (arith, c.in_ok-line-2.ensures, c.first_bad_clause-clause.ensures, form_c ws form f))
    _ c.first_bad_entry-entry.ensures (omega (arith, form_e ws form f))) _ c.from_residual-in_err-line-3.ensures.1

pub first_repeated_entry-again-requires : goal.first_repeated_entry-again-requires
first_repeated_entry-again-requires c =
    let ws = c.args.words.now in
    let ts = c.args.text.now in
    let form = c.args.form in
    let f = trailer_formed ws ts form c.requires in (
      rules_laid ws form f (clauses_laid ws form f (schemas_laid ws form f
          (omega (arith, c.in_ok-line.ensures, c.first_bad_schema-schema.ensures, form_m ws form f)))
          (omega (arith, c.in_ok-line-2.ensures, c.first_bad_clause-clause.ensures, form_c ws form f)))
          (omega (arith, c.in_ok-line-3.ensures, c.first_bad_entry-entry.ensures, form_e ws form f)),
      text_length ws ts c.requires.good,
    )

pub overflow_add-m-2 : goal.overflow_add-m-2
overflow_add-m-2 c =
    let ws = c.args.words.now in
    let ts = c.args.text.now in
    let form = c.args.form in
    omega (arith, places_fit ws ts form c.requires)

pub line-requires-4 : goal.line-requires-4
line-requires-4 c =
    let ws = c.args.words.now in
    let ts = c.args.text.now in
    let form = c.args.form in
    places_fit ws ts form c.requires

pub returns-in_err-line-4 : goal.returns-in_err-line-4
returns-in_err-line-4 c =
    let ws = c.args.words.now in
    let ts = c.args.text.now in
    let form = c.args.form in
    let f = trailer_formed ws ts form c.requires in
    let h = c.in_err-line-4.ensures in
    line_told h _ (omega (arith, form_m ws form f, form_c ws form f))
    (at_name ws ts c.requires.good (omega (arith, c.in_ok-line.ensures, c.first_bad_schema-schema.ensures, form_m ws form f))
    (omega (arith, c.in_ok-line-2.ensures, c.first_bad_clause-clause.ensures, form_c ws form f))
    (omega (arith, c.in_ok-line-3.ensures, c.first_bad_entry-entry.ensures, form_e ws form f))
    _ c.first_repeated_entry-again.ensures (omega (arith, form_e ws form f))) _ c.from_residual-in_err-line-4.ensures.1

pub check_rest-requires : goal.check_rest-requires
check_rest-requires c =
    let ws = c.args.words.now in
    let ts = c.args.text.now in
    let form = c.args.form in
    let f = trailer_formed ws ts form c.requires in (
      c.requires,
      record {
        rules_laid = rules_laid ws form f (clauses_laid ws form f (schemas_laid ws form f
            (omega (arith, c.in_ok-line.ensures, c.first_bad_schema-schema.ensures, form_m ws form f)))
            (omega (arith, c.in_ok-line-2.ensures, c.first_bad_clause-clause.ensures, form_c ws form f)))
            (omega (arith, c.in_ok-line-3.ensures, c.first_bad_entry-entry.ensures, form_e ws form f));
        names_differ = λ (x : ℕ) (h : x < form.e). nowhere (repeated ws ts) (entries_word ws) (omega (arith, c.in_ok-line-4.ensures, c.first_repeated_entry-again.ensures, form_e ws form f)) x
            (omega (arith, form_e ws form f));
      },
    )
