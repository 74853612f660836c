-- `apply`, `judge_pair` and `judge_clause` go down from one another: the falling number of each, and the loops' invariants. Assumes nothing.
use Prim.Native.Nat.{◌+◌, ◌*◌}
use Rattle.progress.specs.State.{rank_of}
use Prim.Native.Nat.{ℕ, ◌-◌}
use Rattle.areas.specs.Cells.{pair_is}
use Rattle.progress.proofs.Claused.{Clausing}
use Rattle.lent.specs.Reads.{lent_case}
use Rattle.progress.specs.State.{WhereDone}
use mathlib.Core.List.{List}
use Rattle.progress.specs.Steps.{StandsAt, many, Standing}
use Rattle.cycle.proofs.cycle.+apply_judge_clause_judge_pair.Given as goal

abbrev pub decreases-apply : goal.decreases-apply
decreases-apply l = 3 * rank_of (lent_case l.lent.now) (pair_is l.p) + 2

abbrev pub decreases-judge_clause : goal.decreases-judge_clause
decreases-judge_clause l = 3 * rank_of (lent_case l.lent.now) (pair_is l.p) + 0

abbrev pub decreases-judge_pair : goal.decreases-judge_pair
decreases-judge_pair l = 3 * rank_of (lent_case l.lent.now) (pair_is l.p) + 1

abbrev pub invariant-judge_pair-loop-i : goal.invariant-judge_pair-loop-i
invariant-judge_pair-loop-i l =
    WhereDone (lent_case l.lent) l.initial.cells l.initial.list l.count (λ d. Clausing (lent_case l.lent) (pair_is l.p) l.many d l.initial.cells l.initial.list l.i l.cells l.list l.now l.ok)

abbrev pub decreases-judge_pair-loop-i : goal.decreases-judge_pair-loop-i
decreases-judge_pair-loop-i l =
    l.many - l.i

abbrev pub invariant-judge_clause-loop-at : goal.invariant-judge_clause-loop-at
invariant-judge_clause-loop-at l =
    (began list_began : List ℕ)
    → StandsAt (lent_case l.lent) (pair_is l.p) l.i began list_began l.count l.initial.x l.initial.cells l.initial.list
    → WhereDone (lent_case l.lent) began list_began l.count (λ d. Standing (lent_case l.lent) (pair_is l.p) l.i d began list_began l.x l.cells l.list l.now l.tally)

abbrev pub decreases-judge_clause-loop-at : goal.decreases-judge_clause-loop-at
decreases-judge_clause-loop-at l =
    many (lent_case l.lent) (pair_is l.p) l.i - l.x
