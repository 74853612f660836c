-- `check_texts` meets its contract: the line's place, or that the line does not apply. Assumes nothing.
use native.Mathlib.Omega.{arith}
use mathlib.Core.Path.{◌≡◌}
use Prim.Native.Nat.{◌+◌, ◌≤◌}
use Rattle.std.specs.Prelude.{Err}
use Rattle.laws.specs.Lowest.{lowest}
use Rattle.sheet.specs.declared.refusal.Refusal.TheVariants.{NotUtf8}
use Rattle.sheet.specs.Refusals.{outcome_of, Applies}
use Rattle.rulesheet.specs.Sheet.{entries_word}
use Rattle.rulesheet.specs.Faults.{not_utf8}
use Rattle.rules.specs.Check.{rules_outcome}
use Rattle.std.proofs.lemmas.Result.{MatchResult-weaker}
use Rattle.sheet.proofs.Tables.{refused_at}
use Rattle.rulesheet.proofs.Trailers.{form_m, form_c, form_e}
use Rattle.rules.proofs.Checks.{text_length, text_short}
use Rattle.rulecheck.proofs.Rest.{trailer_formed, places_fit, rest_text}
use Rattle.rulecheck.proofs.check_texts.Goals as goal

pub first_not_utf8-bad-requires : goal.first_not_utf8-bad-requires
first_not_utf8-bad-requires c =
    let ws = c.args.words.now in
    let ts = c.args.text.now in
    (c.requires.1.rules_laid, text_length ws ts c.requires.0.good, omega (arith, text_short ws ts c.requires.0.good))

pub overflow_add-form : goal.overflow_add-form
overflow_add-form c = omega (arith, places_fit c.args.words.now c.args.text.now c.args.form c.requires.0)

pub line-requires : goal.line-requires
line-requires c = places_fit c.args.words.now c.args.text.now c.args.form c.requires.0

pub returns : goal.returns
returns c =
    let ws = c.args.words.now in
    let ts = c.args.text.now in
    let form = c.args.form in
    let f = trailer_formed ws ts form c.requires.0 in
    MatchResult-weaker _ {P = λ _. form.e ≤ c.first_not_utf8-bad.result} {P' = λ _. entries_word ws ≤ lowest (not_utf8 ws ts) (entries_word ws)}
    {Q = Applies NotUtf8 (form.m + form.c) c.first_not_utf8-bad.result form.e} {Q' = λ r. outcome_of (Err r) ≡ rules_outcome ws ts} c.line.ensures (λ _ h. omega (arith, h, c.first_not_utf8-bad.ensures, form_e ws form f))
    (λ r h. refused_at h _ (omega (arith, form_m ws form f, form_c ws form f))
    (rest_text ws ts form c.requires.0 c.requires.1 _ c.first_not_utf8-bad.ensures (omega (arith, h.among, form_e ws form f))))
