-- `watching::values::value_begins` meets its contract. Assumes nothing.
use mathlib.Core.Bool.{true, false, ◌&&◌, not}
use Prim.Native.Nat.{◌+◌}
use lib.Dec.{eqb}
use Rattle.survey.specs.Watching.{found, numeric}
use mathlib.Core.Path.{◌≡◌, sym, ap, ◌∙◌}
use Rattle.survey.proofs.Branches.{begun_over, begun_deep, begun_fine}
use Rattle.watching.proofs.values.value_begins.Goals as goal

pub returns-then-s-eq1024 : goal.returns-then-s-eq1024
returns-then-s-eq1024 c =
    let a = c.args in
    c.at_fault.ensures ∙ sym (begun_over a.depth a.s a.byte a.left c.if-s-eq1024.true)

pub returns-then-depth-starts_number : goal.returns-then-depth-starts_number
returns-then-depth-starts_number c =
    let a = c.args in
    let e : (eqb (a.depth + 1) 33 && not (numeric a.byte)) ≡ true = rw c.starts_number.ensures at c.if-depth-starts_number.true in
    c.at_fault-then-depth-starts_number.ensures ∙ ap (found 24 a.left) c.one_more.ensures ∙ sym (begun_deep a.depth a.s a.byte a.left c.if-s-eq1024.false e)

pub returns : goal.returns
returns c =
    let a = c.args in
    let e : (eqb (a.depth + 1) 33 && not (numeric a.byte)) ≡ false = rw c.starts_number.ensures at c.if-depth-starts_number.false in
    c.one_more-2.ensures ∙ sym (begun_fine a.depth a.s a.byte a.left c.if-s-eq1024.false e)
