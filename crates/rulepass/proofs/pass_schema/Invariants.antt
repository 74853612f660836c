-- `pass_schema` meets its contract. Assumes nothing.
use Prim.Native.Nat.{◌+◌}
use Rattle.rulepass.proofs.Going.{Gone}
use Rattle.rulepass.proofs.pass_schema.Given as goal

abbrev pub invariant-loop-k : goal.invariant-loop-k
invariant-loop-k l = Gone l.words l.text l.s.0 l.fn.row.first (l.fn.row.first + l.fn.row.count) l.fn.from.steps l.pass.start l.pass.steps l.last l.k
