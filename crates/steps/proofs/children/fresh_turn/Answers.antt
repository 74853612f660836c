use mathlib.Core.List.{[]}
use mathlib.Core.Bool.{true, false}
use mathlib.Core.Path.{◌≡◌, refl, sym, ◌∙◌}
use native.Mathlib.Omega.{arith}
use Prim.Native.Nat.{◌+◌, ◌≤◌}
use borrow.Author.Count.{below_more}
use borrow.Author.Tests.{not-true, not-false}
use Rattle.sheet.specs.Record.{doc_of}
use Rattle.areas.specs.Cells.{pair_is, column}
use Rattle.looking.proofs.Naming.{child_inside}
use Rattle.steps.proofs.Aiming.{row_cell, skip_members, skip_elements, member_turn, member_end, element_turn, element_end}
use Rattle.steps.proofs.children.fresh_turn.Goals as goal

pub children_of-first-requires : goal.children_of-first-requires
children_of-first-requires c = (c.requires.laid_many_children.0.formed, c.requires.laid_many_children.1)

pub loop-at-init : goal.loop-at-init
loop-at-init c = λ k a b. absurd (omega arith)

pub overflow_add-row : goal.overflow_add-row
overflow_add-row c =
    omega (arith, child_inside c.args.«record».now [] c.args.form c.requires.laid_many_children.0 c.args.p.row.0 c.children_of-first.result.first c.children_of-first.result.count c.loop-at.at c.requires.laid_many_children.1 (c.children_of-first.ensures.first_is []) (c.children_of-first.ensures.count_is []) (omega (arith, c.requires.laid_many_children.2 [], c.children_of-first.ensures.count_is [], c.loop-at-test.true)))

pub is_marked-requires : goal.is_marked-requires
is_marked-requires c =
    let inside = child_inside c.args.«record».now [] c.args.form c.requires.laid_many_children.0 c.args.p.row.0 c.children_of-first.result.first c.children_of-first.result.count c.loop-at.at c.requires.laid_many_children.1 (c.children_of-first.ensures.first_is []) (c.children_of-first.ensures.count_is []) (omega (arith, c.requires.laid_many_children.2 [], c.children_of-first.ensures.count_is [], c.loop-at-test.true)) in
    rw c.wide.ensures (row_cell c.args.form.rows c.args.m _ (c.children_of-first.result.first + c.loop-at.at) c.args.p.rule.0 inside.0 c.requires.table_in_cells.1 c.requires.table_in_cells.0)

pub returns-then-not-is_marked : goal.returns-then-not-is_marked
returns-then-not-is_marked c =
    let inv = c.loop-at.invariant in
    let below = c.loop-at-test.true in
    let fresh : column c.args.m c.args.cells.now c.args.p.rule.0 (c.children_of-first.result.first + c.loop-at.at) ≡ false = rw c.wide.ensures at (sym c.is_marked.ensures ∙ not-true _ c.if-not-is_marked.true-raw) in record {
      fresh_members = λ ts all t before.
          let f = c.children_of-first.ensures.first_is ts in
          member_turn t (doc_of c.args.«record».now ts) (pair_is c.args.p) before (column c.args.m c.args.cells.now c.args.p.rule.0) c.args.x c.loop-at.at _ f c.args.rule.0 _ c.args.rule _ (skip_members t (doc_of c.args.«record».now ts) (pair_is c.args.p) before (column c.args.m c.args.cells.now c.args.p.rule.0) _ f c.args.rule.0 _ _ inv) c.loop-at.auto.at (omega arith) (omega arith) refl refl fresh c.at_step.ensures;
      fresh_elements = λ ts all t before.
          let f = c.children_of-first.ensures.first_is ts in
          element_turn t (doc_of c.args.«record».now ts) (pair_is c.args.p) before (column c.args.m c.args.cells.now c.args.p.rule.0) c.args.x c.loop-at.at _ f c.args.rule.0 _ c.args.rule _ (skip_elements t (doc_of c.args.«record».now ts) (pair_is c.args.p) before (column c.args.m c.args.cells.now c.args.p.rule.0) _ f c.args.rule.0 _ _ inv) c.loop-at.auto.at (omega arith) (omega arith) refl refl fresh c.at_step.ensures;
    }

pub loop-at-preserved : goal.loop-at-preserved
loop-at-preserved c =
    let inv = c.loop-at.invariant in
    let marked : column c.args.m c.args.cells.now c.args.p.rule.0 (c.children_of-first.result.first + c.loop-at.at) ≡ true = rw c.wide.ensures at (sym c.is_marked.ensures ∙ not-false _ c.if-not-is_marked.false-raw) in
    λ j a b. below_more (λ k. c.args.x ≤ k → column c.args.m c.args.cells.now c.args.p.rule.0 (c.children_of-first.result.first + k) ≡ true) c.loop-at.at (λ k e f. inv k f e) (λ e. marked) j b a

pub returns : goal.returns
returns c =
    let inv = c.loop-at.invariant in
    let past = c.loop-at-test.false in record {
      fresh_members = λ ts all t before.
          let f = c.children_of-first.ensures.first_is ts in
          member_end t (doc_of c.args.«record».now ts) (pair_is c.args.p) before (column c.args.m c.args.cells.now c.args.p.rule.0) c.args.x c.loop-at.at c.args.rule.0 _ refl (skip_members t (doc_of c.args.«record».now ts) (pair_is c.args.p) before (column c.args.m c.args.cells.now c.args.p.rule.0) _ f c.args.rule.0 _ _ inv) (omega arith);
      fresh_elements = λ ts all t before.
          let f = c.children_of-first.ensures.first_is ts in
          element_end t (doc_of c.args.«record».now ts) (pair_is c.args.p) before (column c.args.m c.args.cells.now c.args.p.rule.0) c.args.x c.loop-at.at c.args.rule.0 _ refl (skip_elements t (doc_of c.args.«record».now ts) (pair_is c.args.p) before (column c.args.m c.args.cells.now c.args.p.rule.0) _ f c.args.rule.0 _ _ inv) (omega arith);
    }
