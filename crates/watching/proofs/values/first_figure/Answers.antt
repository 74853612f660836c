-- `watching::values::first_figure` meets its contract. Assumes nothing.
use mathlib.Core.Bool.{true, false}
use mathlib.Core.Path.{◌≡◌, sym, ap, ◌∙◌}
use native.Mathlib.Omega.{arith}
use Prim.Native.Nat.{◌-◌}
use Rattle.figure.specs.declared.Figure.{Figure}
use Rattle.figure.specs.Figure.{no_figure, whole_more}
use Rattle.figure.proofs.Bounds.{kin_none, kin_fair}
use Rattle.survey.specs.Watching.{is_digit}
use Rattle.survey.proofs.Branches.{digit_low, digit_small}
use Rattle.watching.proofs.values.first_figure.Goals as goal

pub overflow_sub-byte : goal.overflow_sub-byte
overflow_sub-byte c =
    digit_low c.args.byte (sym c.digit.ensures ∙ c.if-digit.true)

pub whole_more-requires : goal.whole_more-requires
whole_more-requires c =
    (rw c.no_figure.ensures (kin_fair 0 no_figure (omega arith) (kin_none 0)), digit_small c.args.byte (sym c.digit.ensures ∙ c.if-digit.true))

pub returns-then-digit : goal.returns-then-digit
returns-then-digit c =
    let b = c.args.byte in
    let d : is_digit b ≡ true = sym c.digit.ensures ∙ c.if-digit.true in
    c.whole_more.ensures ∙ ap (λ (f : Figure). whole_more f (b - 0x30)) c.no_figure.ensures ∙ rw d

pub returns : goal.returns
returns c =
    let b = c.args.byte in
    let d : is_digit b ≡ false = sym c.digit.ensures ∙ c.if-digit.false in
    c.no_figure-2.ensures ∙ rw d
