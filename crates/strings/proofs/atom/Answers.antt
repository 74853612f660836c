-- `strings::atom` meets its contract, by the kind of the atom.
-- Assumes nothing.
use native.Mathlib.Omega.{arith}
use mathlib.Core.Bool.{true, false}
use mathlib.Core.Path.{◌≡◌}
use Rattle.jsontext.specs.Value.{is_high}
use Prim.Native.Nat.{ℕ, ◌≤◌, ◌<◌}
use Rattle.std.specs.Prelude.{Option, Some, None, IfSome}
use Rattle.escapes.specs.Escapes.{waiting}
use Rattle.strings.specs.Atoms.{code_at, Finds, Inside}
use Rattle.strings.proofs.Steps.{in_text, raw_read, escape_inside, short_read}
use Rattle.strings.proofs.Units.{joined_low, unit_here, code_low, high_read, code_read}
use Rattle.strings.proofs.atom.Goals as goal

pub bounds-json-i : goal.bounds-json-i
bounds-json-i c =
    let a = c.args in let json = a.json.now in let i = a.spot.to in let w = waiting a.spot.waits in let s = c.requires.inside in in_text json i w s

pub overflow_add-result : goal.overflow_add-result
overflow_add-result c =
    let a = c.args in let json = a.json.now in let i = a.spot.to in let w = waiting a.spot.waits in let s = c.requires.inside in omega (arith, in_text json i w s)

pub returns-then-byte-ne92 : goal.returns-then-byte-ne92
returns-then-byte-ne92 c =
    let a = c.args in let json = a.json.now in let i = a.spot.to in let w = waiting a.spot.waits in let s = c.requires.inside in record {
      onward = λ (s : Inside json i w). rw c.put.ensures (raw_read json i w s a.spot.at a.area.now c.requires.not_at_quote.0 c.if-byte-ne92.true);
      further = omega arith;
    }

pub overflow_add-next : goal.overflow_add-next
overflow_add-next c =
    let a = c.args in let json = a.json.now in let i = a.spot.to in let w = waiting a.spot.waits in let s = c.requires.inside in omega (arith, in_text json i w s)

pub bounds-json-i-2 : goal.bounds-json-i-2
bounds-json-i-2 c =
    let a = c.args in let json = a.json.now in let i = a.spot.to in let w = waiting a.spot.waits in let s = c.requires.inside in escape_inside json i w s a.spot.at a.area.now c.if-byte-ne92.false

pub overflow_add-result-then-next-ne117 : goal.overflow_add-result-then-next-ne117
overflow_add-result-then-next-ne117 c =
    let a = c.args in let json = a.json.now in let i = a.spot.to in let w = waiting a.spot.waits in let s = c.requires.inside in omega (arith, escape_inside json i w s a.spot.at a.area.now c.if-byte-ne92.false)

pub returns-then-next-ne117 : goal.returns-then-next-ne117
returns-then-next-ne117 c =
    let a = c.args in let json = a.json.now in let i = a.spot.to in let w = waiting a.spot.waits in let s = c.requires.inside in record {
      onward = λ (s : Inside json i w). rw (c.put-then-next-ne117.ensures, c.short_of.ensures) (short_read json i w s a.spot.at a.area.now c.if-byte-ne92.false c.if-next-ne117.true);
      further = omega arith;
    }

pub code_at-code-requires : goal.code_at-code-requires
code_at-code-requires c =
    let a = c.args in let json = a.json.now in let i = a.spot.to in let w = waiting a.spot.waits in let s = c.requires.inside in let u = unit_here json i w s c.if-byte-ne92.false c.if-next-ne117.false in (u.third, u.fourth, u.fifth, u.sixth)

pub overflow_add-result-then-high : goal.overflow_add-result-then-high
overflow_add-result-then-high c =
    let a = c.args in let json = a.json.now in let i = a.spot.to in let w = waiting a.spot.waits in let s = c.requires.inside in let u = unit_here json i w s c.if-byte-ne92.false c.if-next-ne117.false in omega (arith, u.sixth.inside)

pub returns-then-high : goal.returns-then-high
returns-then-high c =
    let a = c.args in let json = a.json.now in let i = a.spot.to in let w = waiting a.spot.waits in let s = c.requires.inside in let t : is_high (code_at json i) ≡ true = rw (← c.code_at-code.ensures, ← c.high.ensures) c.if-high.true in record {
      onward = λ (s : Inside json i w). rw c.code_at-code.ensures (high_read json i w s c.if-byte-ne92.false c.if-next-ne117.false a.spot.at a.area.now t);
      further = omega arith;
    }

pub character_of-requires : goal.character_of-requires
character_of-requires c =
    let a = c.args in let json = a.json.now in let i = a.spot.to in let w = waiting a.spot.waits in let s = c.requires.inside in let l = code_low json i w s c.if-byte-ne92.false c.if-next-ne117.false in (s.low, rw c.code_at-code.ensures (omega (arith, l)), a.spot.not_nought)

pub append-end-requires : goal.append-end-requires
append-end-requires c =
    let a = c.args in let json = a.json.now in let i = a.spot.to in let w = waiting a.spot.waits in let s = c.requires.inside in (rw (c.character_of.ensures.joined, c.code_at-code.ensures) (joined_low w (code_at json i) s.low (code_low json i w s c.if-byte-ne92.false c.if-next-ne117.false)), c.requires.not_at_quote.1)

pub overflow_add-result-2 : goal.overflow_add-result-2
overflow_add-result-2 c =
    let a = c.args in let json = a.json.now in let i = a.spot.to in let w = waiting a.spot.waits in let s = c.requires.inside in let u = unit_here json i w s c.if-byte-ne92.false c.if-next-ne117.false in omega (arith, u.sixth.inside)

pub returns : goal.returns
returns c =
    let a = c.args in let json = a.json.now in let i = a.spot.to in let w = waiting a.spot.waits in let s = c.requires.inside in let t : is_high (code_at json i) ≡ false = rw (← c.code_at-code.ensures, ← c.high.ensures) c.if-high.false in record {
      onward = λ (s : Inside json i w). rw (c.append-end.ensures.0, c.append-end.ensures.1, c.character_of.ensures.joined, c.code_at-code.ensures) (code_read json i w s c.if-byte-ne92.false c.if-next-ne117.false a.spot.at a.area.now t);
      further = omega arith;
    }
