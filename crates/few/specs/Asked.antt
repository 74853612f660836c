-- What is asked of a clause, each question as the clause itself where it is one of the few that the question is about, and else a test that never
-- holds; and what it is to read a clause as far as a question asks for it.
-- Assumes nothing.
use Rattle.std.specs.Prelude.{Bool, true, false, List, ◌≡◌, ℕ, ◌<◌}
use Rattle.rulesheet.specs.declared.form.RuleForm.{RuleForm}
use Rattle.rulesheet.specs.declared.form.ClauseRow.{ClauseRow}
use Rattle.rulesheet.specs.declared.clause.Clause.{Clause}
use Rattle.rulesheet.specs.declared.clause.Clause.TheVariants.{Never}
use Rattle.rulesheet.specs.Ruleset as R
use Rattle.rulesheet.specs.Sheet.{clause_at, clause_of}
use Rattle.rulesheet.specs.Clauses.{clause_means, Tested}

-- ---- the questions

-- a clause, if it tells something to those after it: which members it names, or how many elements it speaks of. Else one that tells nothing
unfoldable pub telling : R.Clause → R.Clause
telling (R.asserts t) = R.asserts R.never
telling (R.in_place m ss) = R.asserts R.never
telling (R.if_then_else i t e) = R.asserts R.never
telling (R.dependent_schemas es) = R.asserts R.never
telling (R.contains s least most) = R.asserts R.never
telling (R.takes (R.properties es)) = R.takes (R.properties es)
telling (R.takes (R.additional_properties s)) = R.asserts R.never
telling (R.takes (R.prefix_items ss)) = R.takes (R.prefix_items ss)
telling (R.takes (R.items s)) = R.asserts R.never
telling (R.takes (R.unevaluated_properties s)) = R.asserts R.never
telling (R.takes (R.unevaluated_items s)) = R.asserts R.never

-- a clause, if it applies schemas. Else one that applies none
unfoldable pub applying : R.Clause → R.Clause
applying (R.asserts t) = R.asserts R.never
applying (R.in_place m ss) = R.in_place m ss
applying (R.if_then_else i t e) = R.if_then_else i t e
applying (R.dependent_schemas es) = R.dependent_schemas es
applying (R.contains s least most) = R.contains s least most
applying (R.takes c) = R.takes c

-- whether a clause applies schemas; one that does not is a test
unfoldable pub applies_any : R.Clause → Bool
applies_any (R.asserts t) = false
applies_any (R.in_place m ss) = true
applies_any (R.if_then_else i t e) = true
applies_any (R.dependent_schemas es) = true
applies_any (R.contains s least most) = true
applies_any (R.takes c) = true

-- a clause, if those before it tell it something. Else one that is told nothing
unfoldable pub told : R.Clause → R.Clause
told (R.asserts t) = R.asserts R.never
told (R.in_place m ss) = R.asserts R.never
told (R.if_then_else i t e) = R.asserts R.never
told (R.dependent_schemas es) = R.asserts R.never
told (R.contains s least most) = R.asserts R.never
told (R.takes (R.properties es)) = R.asserts R.never
told (R.takes (R.additional_properties s)) = R.takes (R.additional_properties s)
told (R.takes (R.prefix_items ss)) = R.asserts R.never
told (R.takes (R.items s)) = R.takes (R.items s)
told (R.takes (R.unevaluated_properties s)) = R.asserts R.never
told (R.takes (R.unevaluated_items s)) = R.asserts R.never

-- a clause, if it may hold although one of its schemas fails. Else one of which that is not asked
unfoldable pub sparing : R.Clause → R.Clause
sparing (R.asserts t) = R.asserts R.never
sparing (R.in_place R.all_of ss) = R.asserts R.never
sparing (R.in_place R.any_of ss) = R.in_place R.any_of ss
sparing (R.in_place R.one_of ss) = R.in_place R.one_of ss
sparing (R.in_place R.not_of ss) = R.in_place R.not_of ss
sparing (R.in_place R.ref ss) = R.asserts R.never
sparing (R.if_then_else i t e) = R.if_then_else i t e
sparing (R.dependent_schemas es) = R.asserts R.never
sparing (R.contains s least most) = R.contains s least most
sparing (R.takes c) = R.asserts R.never

-- ---- what is read

-- clause k was read, or it reads as `Never`
pub record PlainRead (ws : List ℕ) (form : RuleForm) (k : ℕ) (clause : Clause) : Type 0 where
  pub means : (clause ≡ Never → ⊥) → (ts : List ℕ) → clause_means ws ts clause ≡ clause_of ws ts k
  pub tested : Tested ws form clause

-- whichever clause of a sheet has these words, it was read as far as f asks for it
pub record ReadBy (f : R.Clause → R.Clause) (row : ClauseRow) (clause : Clause) : Type 0 where
  pub means : (ws ts : List ℕ) (k : ℕ) → row ≡ clause_at ws k → clause_means ws ts clause ≡ f (clause_of ws ts k)
  pub tested : (ws : List ℕ) (form : RuleForm) (k : ℕ) → k < form.c → row ≡ clause_at ws k → Tested ws form clause
