-- `figures::exponent_from` meets its contract.
-- Assumes nothing.
use mathlib.Core.Bool.{true, false}
use mathlib.Core.Path.{◌≡◌, sym, ◌∙◌}
use Prim.Native.Nat.{◌+◌}
use native.Mathlib.Omega.{arith}
use lib.ListN.{get_or}
use Rattle.figures.specs.Figures.{is_letter, ExponentAt}
use Rattle.figures.proofs.Parts.{byte_inside, letter_inside, no_letter_read, minus_read, plus_read, unsigned_read}
use Rattle.figures.proofs.exponent_from.Goals as goal

pub returns-then-not-letter_at : goal.returns-then-not-letter_at
returns-then-not-letter_at c =
    let a = c.args in
    let t : is_letter (get_or a.json.now a.start 0) ≡ false = sym c.letter_at.ensures ∙ c.if-not-letter_at.true in
    record { read = (λ (q : ExponentAt a.json.now a.start). no_letter_read a.json.now a.start q t); sound = (omega arith, omega arith, omega arith) }

pub power_from-p-requires : goal.power_from-p-requires
power_from-p-requires c =
    let a = c.args in
    let b : get_or a.json.now (a.start + 1) 0 ≡ 0x2D = sym c.byte_at.ensures ∙ c.in-45.is in
    let m = byte_inside a.json.now (a.start + 1) (λ z. omega arith) in
    (omega (arith, c.requires.1), c.requires.1)

pub returns-in-45 : goal.returns-in-45
returns-in-45 c =
    let a = c.args in
    let t : is_letter (get_or a.json.now a.start 0) ≡ true = sym c.letter_at.ensures ∙ c.if-not-letter_at.false in
    let b : get_or a.json.now (a.start + 1) 0 ≡ 0x2D = sym c.byte_at.ensures ∙ c.in-45.is in
    let p = c.power_from-p in
    record {
      read = (λ (q : ExponentAt a.json.now a.start). minus_read a.json.now a.start q t p.result.to p.result.held b p.ensures.read);
      sound = (omega (arith, p.ensures.sound.1), omega arith, p.ensures.sound.0);
    }

pub power_from-requires : goal.power_from-requires
power_from-requires c =
    let a = c.args in
    let b : get_or a.json.now (a.start + 1) 0 ≡ 0x2B = sym c.byte_at.ensures ∙ c.in-43.is in
    let m = byte_inside a.json.now (a.start + 1) (λ z. omega arith) in
    (omega (arith, c.requires.1), c.requires.1)

pub returns-in-43 : goal.returns-in-43
returns-in-43 c =
    let a = c.args in
    let t : is_letter (get_or a.json.now a.start 0) ≡ true = sym c.letter_at.ensures ∙ c.if-not-letter_at.false in
    let b : get_or a.json.now (a.start + 1) 0 ≡ 0x2B = sym c.byte_at.ensures ∙ c.in-43.is in
    let p = c.power_from in
    rw c.to_the_right.ensures
    (record {
      read = (λ (q : ExponentAt a.json.now a.start). plus_read a.json.now a.start q t p.result.to p.result.held b p.ensures.read);
      sound = (omega (arith, p.ensures.sound.1), p.ensures.sound.0, omega arith);
    })

pub power_from-requires-in_default : goal.power_from-requires-in_default
power_from-requires-in_default c =
    let a = c.args in
    let t : is_letter (get_or a.json.now a.start 0) ≡ true = sym c.letter_at.ensures ∙ c.if-not-letter_at.false in
    let l = letter_inside a.json.now a.start t in
    (omega (arith, c.requires.1), c.requires.1)

pub returns-in_default : goal.returns-in_default
returns-in_default c =
    let a = c.args in
    let t : is_letter (get_or a.json.now a.start 0) ≡ true = sym c.letter_at.ensures ∙ c.if-not-letter_at.false in
    let p = c.power_from-in_default in
    rw c.to_the_right-in_default.ensures
    (record {
      read =
          (λ (q : ExponentAt a.json.now a.start).
          unsigned_read a.json.now a.start q t p.result.to p.result.held (λ z. omega (arith, c.byte_at.ensures)) (λ z. omega (arith, c.byte_at.ensures)) p.ensures.read);
      sound = (omega (arith, p.ensures.sound.1), p.ensures.sound.0, omega arith);
    })
