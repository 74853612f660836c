-- `watching::string_moves` meets its contract. Assumes nothing.
use mathlib.Core.Path.{sym, ◌∙◌}
use native.Mathlib.Omega.{arith}
use borrow.Author.Tests.{eq-eqb, ne_eqb}
use Rattle.survey.proofs.Ranges.{in_text, in_escape, last_hex, in_hex}
use Rattle.watching.proofs.string_moves.Goals as goal

pub returns-then-byte-eq92 : goal.returns-then-byte-eq92
returns-then-byte-eq92 c =
    let a = c.args in
    c.backslash.ensures ∙ sym (in_text a.depth a.byte a.left a.s a.place (omega arith) (omega arith) ∙ rw (eq-eqb a.byte 0x5C c.if-byte-eq92.true))

pub returns-then-place-lt26 : goal.returns-then-place-lt26
returns-then-place-lt26 c =
    let a = c.args in
    c.surrogate_parts.ensures ∙ sym (in_text a.depth a.byte a.left a.s a.place (omega arith) (omega arith) ∙ rw (ne_eqb a.byte 0x5C c.if-byte-eq92.false))

pub returns-then-byte-eq117 : goal.returns-then-byte-eq117
returns-then-byte-eq117 c =
    let a = c.args in
    sym (in_escape a.depth a.byte a.left a.s a.place (omega arith) (omega arith) ∙ rw (eq-eqb a.byte 0x75 c.if-byte-eq117.true))

pub returns-then-place-lt28 : goal.returns-then-place-lt28
returns-then-place-lt28 c =
    let a = c.args in
    c.surrogate_parts-then-place-lt28.ensures ∙ sym (in_escape a.depth a.byte a.left a.s a.place (omega arith) (omega arith) ∙ rw (ne_eqb a.byte 0x75 c.if-byte-eq117.false))

pub returns-then-place-lt30 : goal.returns-then-place-lt30
returns-then-place-lt30 c =
    let a = c.args in
    c.hex_last.ensures ∙ sym (last_hex a.depth a.byte a.left a.s a.place (omega arith) (omega arith))

pub returns : goal.returns
returns c =
    let a = c.args in
    c.hex_digit.ensures ∙ sym (in_hex a.depth a.byte a.left a.s a.place (omega arith) (omega arith))
