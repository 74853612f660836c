-- `children_line` meets its contract: the children are rows of the sheet. Assumes nothing.
use mathlib.Core.List.{[]}
use mathlib.Core.Path.{refl}
use native.Mathlib.Omega.{arith}
use Prim.Native.Nat.{◌-◌}
use Rattle.looking.proofs.Naming.{child_inside}
use Rattle.line.proofs.children_line.Goals as goal

pub overflow_add-first : goal.overflow_add-first
overflow_add-first c =
    let below = c.if-many-from.false in
    let some = c.requires.2 [] in
    let count = c.children_of.ensures.count_is [] in
    omega (arith, child_inside c.args.«record».now [] c.args.form c.requires.0 c.args.row.0 c.children_of.result.first c.children_of.result.count c.args.from c.requires.1 (c.children_of.ensures.first_is []) count (omega arith))

pub returns : goal.returns
returns c =
    let below = c.if-many-from.false in
    let some = c.requires.2 [] in
    let count = c.children_of.ensures.count_is [] in
    let inside = child_inside c.args.«record».now [] c.args.form c.requires.0 c.args.row.0 c.children_of.result.first c.children_of.result.count (c.args.many - 1) c.requires.1 (c.children_of.ensures.first_is []) count (omega arith) in record {
      children_line = record { count_is = refl; first_is = λ h ts. rw (← c.children_of.ensures.first_is ts); rule_is = λ h. refl };
      count_bound = omega arith;
    }
