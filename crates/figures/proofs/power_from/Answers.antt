-- `figures::power_from` meets its contract.
-- Assumes nothing.
use mathlib.Core.Logic.{⊎_elim}
use mathlib.Core.Path.{◌≡◌, sym, ap, ◌∙◌}
use Prim.Native.Nat.{◌≤◌, ◌<◌}
use native.Mathlib.Omega.{arith}
use lib.ListN.{length, get_or, get_or-eq_default}
use Rattle.laws.proofs.Tests.{le_or_lt}
use Rattle.figures.specs.Figures.{is_digit, power_more, DigitsAt}
use Rattle.figures.proofs.Digits.{digit_told, digit_none, none_read, one_read, all_read}
use Rattle.figures.proofs.power_from.Goals as goal

pub loop-i-init : goal.loop-i-init
loop-i-init c = let a = c.args in (λ q. none_read power_more a.json.now a.start 0 q, omega arith, λ h. omega arith)

pub returns-in_default-clause-read : goal.returns-in_default-clause-read
returns-in_default-clause-read c =
    let a = c.args in
    let l = c.loop-i in
    let none = digit_none (get_or a.json.now l.i 0) (sym c.digit_at.ensures ∙ c.in_default.is) in
    λ (q : DigitsAt a.json.now a.start). let r = all_read power_more a.json.now a.start 0 q l.i l.p (l.invariant.0 q) none in record { end = r.0; power_is = r.1 }

pub loop-i-preserved : goal.loop-i-preserved
loop-i-preserved c =
    let a = c.args in
    let l = c.loop-i in
    let w = c.in-Some.worth in
    let told = digit_told (get_or a.json.now l.i 0) w (sym c.digit_at.ensures ∙ c.in-Some.is) in
    let e = c.power_more-p.ensures in (
      (λ (q : DigitsAt a.json.now a.start).
          rw e.0 (one_read power_more a.json.now a.start 0 q l.i l.p (l.invariant.0 q) w told.0 told.1)),
      e.1,
      λ h. omega (arith, l.auto.i, c.loop-i-test.true),
    )

pub returns-clause-read : goal.returns-clause-read
returns-clause-read c =
    let a = c.args in
    let l = c.loop-i in
    let at : l.i ≡ c.max.result =
    ⊎_elim
    (λ (h : a.start ≤ length a.json.now). omega (arith, c.max.ensures, l.auto.i-end h, c.loop-i-test.false))
    (λ (h : length a.json.now < a.start). omega (arith, c.max.ensures, l.auto.i, l.invariant.2 h))
    (le_or_lt a.start (length a.json.now)) in
    let none = ap is_digit (get_or-eq_default a.json.now 0 {n = l.i} (omega (arith, c.loop-i-test.false))) in
    λ (q : DigitsAt a.json.now a.start). let r = all_read power_more a.json.now a.start 0 q l.i l.p (l.invariant.0 q) none in rw (← at) record { end = r.0; power_is = r.1 }
