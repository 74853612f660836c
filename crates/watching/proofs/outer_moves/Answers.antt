-- `watching::outer_moves` meets its contract. Assumes nothing.
use mathlib.Core.Path.{◌≡◌, sym, ap, ◌∙◌}
use native.Mathlib.Omega.{arith}
use borrow.Author.Tests.{eq-eqb, ne_eqb, lt-ltb}
use Rattle.survey.specs.declared.Escapes.{Escapes}
use Rattle.survey.specs.Watching.{with_escapes}
use Rattle.survey.proofs.Branches.{blank}
use Rattle.survey.proofs.Ranges.{outer_blank, at_place}
use Rattle.watching.proofs.outer_moves.Goals as goal

pub returns-then-place-eq0 : goal.returns-then-place-eq0
returns-then-place-eq0 c =
    let a = c.args in
    c.value_starts.ensures ∙ sym (at_place a.depth a.byte a.left a.s a.place 0 c.if-place-eq0.true)

pub returns-then-place-eq2 : goal.returns-then-place-eq2
returns-then-place-eq2 c =
    let a = c.args in
    sym (at_place a.depth a.byte a.left a.s a.place 2 c.if-place-eq2.true)

pub returns-then-byte-le32 : goal.returns-then-byte-le32
returns-then-byte-le32 c =
    let a = c.args in
    sym (outer_blank a.depth a.byte a.left a.s a.place c.requires.0 c.if-byte-le32.true)

pub returns-then-place-eq3 : goal.returns-then-place-eq3
returns-then-place-eq3 c =
    let a = c.args in
    ap (λ (e : Escapes). with_escapes e a.s) (blank c.default.result c.default.ensures)
    ∙ sym (at_place a.depth a.byte a.left a.s a.place 3 c.if-place-eq3.true ∙ rw (lt-ltb 0x20 a.byte (omega arith)))

pub returns-then-byte-eq93 : goal.returns-then-byte-eq93
returns-then-byte-eq93 c =
    let a = c.args in
    sym (at_place a.depth a.byte a.left a.s a.place 1 c.if-place-eq1.true ∙ rw (eq-eqb a.byte 0x5D c.if-byte-eq93.true))

pub returns-then-place-eq1 : goal.returns-then-place-eq1
returns-then-place-eq1 c =
    let a = c.args in
    c.value_starts-then-place-eq1.ensures ∙ sym (at_place a.depth a.byte a.left a.s a.place 1 c.if-place-eq1.true ∙ rw (ne_eqb a.byte 0x5D c.if-byte-eq93.false))

pub returns-then-byte-eq125 : goal.returns-then-byte-eq125
returns-then-byte-eq125 c =
    let a = c.args in
    let last : a.place ≡ 4 = omega (arith, c.requires.0) in
    sym (at_place a.depth a.byte a.left a.s a.place 4 last ∙ rw (lt-ltb 0x20 a.byte (omega arith), eq-eqb a.byte 0x7D c.if-byte-eq125.true))

pub returns : goal.returns
returns c =
    let a = c.args in
    let last : a.place ≡ 4 = omega (arith, c.requires.0) in
    ap (λ (e : Escapes). with_escapes e a.s) (blank c.default-2.result c.default-2.ensures)
    ∙ sym (at_place a.depth a.byte a.left a.s a.place 4 last ∙ rw (lt-ltb 0x20 a.byte (omega arith), ne_eqb a.byte 0x7D c.if-byte-eq125.false))
