-- `figures::fraction_from` meets its contract.
-- Assumes nothing.
use mathlib.Core.Path.{◌≡◌, sym, ◌∙◌}
use native.Mathlib.Omega.{arith}
use lib.ListN.{get_or}
use Rattle.figures.specs.Figures.{FractionAt}
use Rattle.figures.proofs.Parts.{byte_inside, no_point_read, point_read}
use Rattle.figures.proofs.fraction_from.Goals as goal

pub returns-then-byte_at-ne46 : goal.returns-then-byte_at-ne46
returns-then-byte_at-ne46 c =
    let a = c.args in let json = a.json.now in let i = a.start in record {
      read = (λ (q : FractionAt json i). no_point_read json i a.first q (λ (z : get_or json i 0 ≡ 0x2E). c.if-byte_at-ne46.true (c.byte_at.ensures ∙ z)));
      sound = (c.requires.0, omega arith, c.requires.1, omega arith);
    }

pub digits_from-run-requires : goal.digits_from-run-requires
digits_from-run-requires c =
    let a = c.args in let json = a.json.now in let i = a.start in let b : get_or json i 0 ≡ 0x2E = sym c.byte_at.ensures ∙ c.if-byte_at-ne46.false in let l = byte_inside json i (λ z. omega arith) in (record { holding = c.requires.0.holding; few = omega (arith, c.requires.0.few) }, omega (arith, c.requires.2), c.requires.2)

pub returns : goal.returns
returns c =
    let a = c.args in let json = a.json.now in let i = a.start in let b : get_or json i 0 ≡ 0x2E = sym c.byte_at.ensures ∙ c.if-byte_at-ne46.false in let r = c.digits_from-run.result in record {
      read = (λ (q : FractionAt json i). point_read json i a.first q r.to r.held b c.digits_from-run.ensures.read);
      sound = (c.digits_from-run.ensures.sound.0, omega (arith, c.digits_from-run.ensures.sound.1), c.digits_from-run.ensures.sound.2, omega (arith, c.digits_from-run.ensures.sound.2));
    }
