-- `figures::read_number` meets its contract.
-- Assumes nothing.
use mathlib.Core.Bool.{Bool, true, false, cond}
use mathlib.Core.Path.{refl, ap, ◌∙◌}
use Prim.Native.Nat.{ℕ, ◌+◌, ◌≤◌, ◌<◌}
use native.Mathlib.Omega.{arith}
use lib.Dec.{eqb}
use Rattle.std.specs.Prelude.{Option}
use Rattle.std.specs.Option.{unwrap_or}
use Rattle.numeral.specs.declared.Written.{Written}
use Rattle.numeral.specs.Numeral.{written_of, word_of}
use Rattle.numeral.proofs.Rows.{nought, row_told}
use Rattle.figures.specs.Figures.{NumberAt}
use Rattle.figures.proofs.Numbers.{written_few, number_read}
use Rattle.figures.proofs.read_number.Goals as goal

small : (b : Bool) (i : ℕ) → i < 65_536 → i + cond b 1 0 ≤ 65_536
small true i h = omega arith
small false i h = omega arith

pub digits_from-whole-requires : goal.digits_from-whole-requires
digits_from-whole-requires c =
    let a = c.args in let json = a.json.now in let i = a.start in (record { holding = record { bounded = omega arith; no_zeros = λ z. refl; few = omega arith }; few = omega arith }, (rw c.behind_minus-first.ensures (small (eqb c.byte_at-below.result 0x2D) i c.requires.0)), c.requires.1)

pub overflow_cast-written : goal.overflow_cast-written
overflow_cast-written c =
    let p = c.fraction_from-part.result in
    let s = c.exponent_from-shift.result in
    let up = s.up + p.kept.zeros in
    let down = s.down + p.places in
    let told = c.unwrap_or-written.ensures ∙ ap (λ (r : Option Written). unwrap_or r nought) c.write_down.ensures ∙ row_told p.kept.kept up down in
    omega (arith, ap (λ (x : Written). x.digits) told, written_few p.kept.kept up down)

pub word_of-word-requires : goal.word_of-word-requires
word_of-word-requires c =
    let p = c.fraction_from-part.result in
    let s = c.exponent_from-shift.result in
    let up = s.up + p.kept.zeros in
    let down = s.down + p.places in
    let told = c.unwrap_or-written.ensures ∙ ap (λ (r : Option Written). unwrap_or r nought) c.write_down.ensures ∙ row_told p.kept.kept up down in
    rw told (written_few p.kept.kept up down)

pub returns : goal.returns
returns c =
    let a = c.args in
    let json = a.json.now in
    let i = a.start in
    let below = eqb c.byte_at-below.result 0x2D in
    let w = c.digits_from-whole in
    let p = c.fraction_from-part in
    let s = c.exponent_from-shift in
    let up = s.result.up + p.result.kept.zeros in
    let down = s.result.down + p.result.places in
    let all = written_of p.result.kept.kept up down in
    let told = c.unwrap_or-written.ensures ∙ ap (λ (r : Option Written). unwrap_or r nought) c.write_down.ensures ∙ row_told p.result.kept.kept up down in
    λ (q : NumberAt json i).
    rw told
    (number_read json i q below c.behind_minus-first.result w.result.to p.result.to s.result.to s.result.up s.result.down p.result.places w.result.held p.result.kept all
    c.word_of-word.result (ap (λ (b : ℕ). eqb b 0x2D) c.byte_at-below.ensures) c.behind_minus-first.ensures w.ensures.read p.ensures.read s.ensures.read
    (p.ensures.sound.1, s.ensures.sound.0) (omega (arith, p.ensures.sound.0.few, p.ensures.sound.2)) p.ensures.sound.3
    refl (c.word_of-word.ensures ∙ ap (λ (x : Written). word_of below x.digits) told))
