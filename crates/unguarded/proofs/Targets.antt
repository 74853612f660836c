-- The unguarded steps of a clause lead to schemas, on a sheet whose layout is accepted: a clause names the schemas that it steps to.
--     target_at, target_inside     the i-th step of a clause, and each of its steps, leads to a schema
-- Assumes nothing.
use mathlib.Core.List.{List, [], Memᴰ as In}
use Prim.Native.Nat.{ℕ, ◌<◌}
use lib.ListN.{length, get_or}
use Rattle.rulesheet.specs.declared.form.RuleForm.{RuleForm}
use Rattle.rulesheet.specs.Sheet.{schemas_word, clauses_word, clause_of, targets_of}
use Rattle.rulesheet.specs.Read.{RulesLaid}
use Rattle.rulesheet.proofs.Naming.{steps_named, clause_inside}
use Rattle.unguarded.proofs.Lists.{at_in}

module _ (ws : List ℕ) (form : RuleForm) (laid : RulesLaid ws form) (k : ℕ) (h : k < clauses_word ws) where
  pub target_inside : {t : ℕ} → In t (targets_of ws k) → t < schemas_word ws
  unfolding targets_of
  target_inside {t} i = clause_inside ws [] form laid k h t (steps_named (clause_of ws [] k) t i)

  pub target_at : (i : ℕ) → i < length (targets_of ws k) → get_or (targets_of ws k) i 0 < schemas_word ws
  target_at i l = target_inside (at_in (targets_of ws k) i l)
