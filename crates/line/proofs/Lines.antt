-- The steps of a clause that stand in a line.
--     no_line                    no steps do
--     rest_lined, all_lined      those of `items` do, and those of `additionalProperties` where no clause before names a member
--     none_named                 so it is where names start at the clause itself
--     applied_lined, lined_as    as far as the clause applies schemas, and by the variant that was read
-- Assumes nothing.
use mathlib.Core.List.{List, []}
use mathlib.Core.Path.{◌≡◌, refl, sym, ap, ◌∙◌}
use Prim.Native.Nat.{ℕ, ◌+◌, ◌-◌, ◌<◌}
use native.Mathlib.Omega.{arith}
use lib.ListN.{take}
use lib.Seq.{take-length}
use Rattle.sheet.specs.declared.record.Pair as P
use Rattle.sheet.specs.Doc.{Doc, first_child}
use Rattle.rulesheet.specs.declared.form.ClauseRow.{ClauseRow}
use Rattle.rulesheet.specs.declared.form.RuleForm.{RuleForm}
use Rattle.rulesheet.specs.Ruleset.{additional_properties, items, Clause, asserts, in_place, if_then_else, dependent_schemas, contains, takes}
use Rattle.rulesheet.specs.declared.clause.Clause.{Clause as Read}
use Rattle.rulesheet.specs.Sheet.{schema_at}
use Rattle.rulesheet.specs.Clauses.{clause_means}
use Rattle.few.specs.Asked.{applying}
use Rattle.meaning.specs.Lists.{any, concat_map}
use Rattle.meaning.specs.Rules.{Pair, none?, names_of, to}
use Rattle.plan.specs.Plan.{member_count, element_count, own, prefixed, unnamed, counts_hits, branches, steps_of, steps_in, go_of, go_in, aim_of, aim_in}
use Rattle.clause.specs.Read.{before_in}
use Rattle.told.specs.Read.{Started}
use Rattle.told.proofs.Earlier.{before_long, clauses_few}
use Rattle.line.specs.declared.Line.{Line}
use Rattle.line.specs.Lines.{InLine, LineAsked}

pub no_line : {D : Doc} {p : Pair} {before : List Clause} {c : Clause} (first n s : ℕ) → n ≡ 0 → InLine D p before c first n s
no_line first n s none =
    record {
      within = omega arith;
      aims = λ x h. absurd (omega arith);
      goes = λ x h marked t. absurd (omega arith);
      hits_none = λ h. absurd (omega arith);
      branches_none = λ h. absurd (omega arith);
    }

-- ---- the children of a row

module _ (D : Doc) (p : Pair) (before : List Clause) (s from many : ℕ) (r : Line) (count : r.count ≡ many - from)
    (first : 0 < r.count → r.first ≡ first_child (own D p) + from) (rule : 0 < r.count → r.rule.0 ≡ s) where
  pub rest_lined : Started before (takes (items s)) from → many ≡ element_count (own D p) → InLine D p before (takes (items s)) r.first r.count r.rule.0
  unfolding counts_hits branches steps_of steps_in go_of go_in aim_of aim_in to
  rest_lined start all =
      let told = start.prefix_is s refl in
      record {
        within = omega arith;
        aims =
            λ x h.
            let at = first (omega arith) in
            let e : first_child (own D p) + (prefixed D p before + x) ≡ r.first + x = omega arith in
            rw (e, rule (omega arith));
        goes = λ x h marked t. refl;
        hits_none = λ h. refl;
        branches_none = λ h. refl;
      }

  pub all_lined : concat_map names_of before ≡ [] → from ≡ 0 → many ≡ member_count (own D p) → InLine D p before (takes (additional_properties s)) r.first r.count r.rule.0
  unfolding counts_hits branches steps_of steps_in go_of go_in aim_of aim_in to unnamed none? any
  all_lined none start all =
      record {
        within = omega arith;
        aims =
            λ x h.
            let at = first (omega arith) in
            let e : first_child (own D p) + x ≡ r.first + x = omega arith in
            rw (e, rule (omega arith));
        goes = λ x h marked t. rw none;
        hits_none = λ h. refl;
        branches_none = λ h. refl;
      }

-- if names start at clause i itself, no clause before it names a member
pub none_named : {rs us : List ℕ} {form : RuleForm} {p : P.Pair} {i from : ℕ} {row : ClauseRow} (s : ℕ) → LineAsked rs us form p i row from
    → Started (before_in rs us p.rule.0 i) (takes (additional_properties s)) from → from ≡ i → concat_map names_of (before_in rs us p.rule.0 i) ≡ []
none_named {rs} {us} {form} {p} {i} {from} s asked start e =
    let before = before_in rs us p.rule.0 i in
    let in_schema = asked.clause_inside in
    let few = clauses_few p.rule.0 (schema_at rs p.rule.0).first i (asked.rules_read.laid, asked.rule_in, refl, omega arith) in
    let long = before_long p.rule.0 (schema_at rs p.rule.0).first i (asked.rules_read.laid, asked.rule_in, refl, omega arith) us in
    let names = start.names_from s refl (λ marks. omega arith) in
    ap (concat_map names_of) (sym (take-length before)) ∙ ap (λ (n : ℕ). concat_map names_of (take n before)) (long ∙ sym e) ∙ names.none

-- ---- the clause that was read

-- a clause that applies no schemas has no steps
pub applied_lined : {D : Doc} {p : Pair} {before : List Clause} (first n s : ℕ) (c : Clause) → InLine D p before (applying c) first n s → InLine D p before c first n s
unfolding applying steps_of
applied_lined first n s (asserts t) line = let h = line.within in no_line first n s (omega arith)
applied_lined first n s (in_place m ss) line = line
applied_lined first n s (if_then_else i t e) line = line
applied_lined first n s (dependent_schemas es) line = line
applied_lined first n s (contains c least most) line = line
applied_lined first n s (takes c) line = line

-- by the variant that was read
pub lined_as : {D : Doc} {p : Pair} {before : List Clause} (first n s : ℕ) (rs us : List ℕ) (clause variant : Read) → clause ≡ variant
    → InLine D p before (clause_means rs us variant) first n s → InLine D p before (clause_means rs us clause) first n s
lined_as first n s rs us clause variant e line = rw e line
