-- Where a clause stands that chooses schemas for the row itself, or counts elements.
--     branch_first, branch_then, branch_else, branch_end     36: the condition, the one branch or the other
--     depended_turn, depended_end     37: schemas whose names members have
--     counted_turn, counted_end     45: each element
-- Assumes nothing.
use mathlib.Core.Bool.{false}
use mathlib.Core.List.{List}
use mathlib.Core.Path.{◌≡◌, refl, sym, ap, ◌∙◌}
use mathlib.Core.Logic.{⊎_elim}
use Prim.Native.Nat.{ℕ, ◌+◌, ◌≤◌, ◌<◌}
use native.Mathlib.Omega.{arith}
use lib.Dec.{ltb}
use lib.ListN.{get_or}
use borrow.Author.Tests.{lt-ltb, le-ltb, eq-eqb, ne_eqb}
use Rattle.laws.proofs.Tests.{le_or_lt}
use Rattle.sheet.specs.Doc.{Doc, first_child}
use Rattle.sheet.specs.declared.record.RecordRow.{RecordRow}
use Rattle.sheet.specs.declared.record.RuleRow.{RuleRow}
use Rattle.rulesheet.specs.declared.clause.Entries.{Entries}
use Rattle.rulesheet.specs.Ruleset as R
use Rattle.rulesheet.specs.declared.form.EntryRow.{EntryRow}
use Rattle.rulesheet.specs.Codes.{no_entry}
use Rattle.rulesheet.specs.Sheet.{entry_at}
use Rattle.rulesheet.specs.Clauses.{entry_in, schemas_in, members_in}
use Rattle.rulesheet.proofs.Items.{members_long}
use Rattle.rulesheet.proofs.Reaching.{made_at, item_is}
use Rattle.meaning.specs.Rules.{Pair, Marks, to}
use Rattle.std.specs.Prelude.{Option, None}
use Rattle.steps.specs.declared.turn.Turn.{Turn}
use Rattle.steps.specs.declared.turn.Counts.TheVariants.{Hits, Branches}
use Rattle.plan.specs.Plan.{member_count, element_count, no_member, counts_hits, branches, branch_goes, branch_of, own, child_named, steps_of, aim_of, go_of}
use Rattle.steps.specs.Turns.{goes_at, Skipped, NoneNamed, NamedAt, Turned}
use Rattle.steps.proofs.Turns.{at, at_of, skipped_none, goes_on, goes_of, stops}

-- the schema of entry i, as it is read of a list of schemas
pub first_in : (rs : List ℕ) (list : Entries) (i : ℕ) {s : ℕ} → i < list.count → s ≡ get_or (schemas_in rs list) i 0 → s ≡ (entry_in rs list i).first
first_in rs list i h e =
    e
    ∙ item_is rs (λ (x : EntryRow). x.first) list.count list.first i 0 h
    ∙ sym (ap (λ (x : EntryRow). x.first) (made_at (entry_at rs) list.count list.first i no_entry h))

module _ (t : ℕ) (d : Doc) (p : Pair) (before : List R.Clause) (κ : Marks) where
  abbrev Stands : R.Clause → ℕ → Option Turn → Type 0
  Stands c x r = Turned d p before c x κ t r

  abbrev Idle : R.Clause → ℕ → ℕ → Type 0
  Idle c x y = Skipped d p before c κ t x y

  -- ---- 36

  module _ (i th el x : ℕ) (r : Option Turn) (row : RecordRow) (rule : RuleRow) (same : p.row ≡ row.0) where
    pub branch_first : x ≡ 0 → rule.0 ≡ i → r ≡ at_of Branches 0 row rule → Stands (R.if_then_else i th el) x r
    unfolding counts_hits branches steps_of go_of branch_goes aim_of branch_of to
    branch_first z schema is = goes_of is refl refl (omega arith) (omega arith) (omega arith) (skipped_none (omega arith)) refl (rw (same, schema))

    pub branch_then : x ≡ 1 → t ≡ 0 → rule.0 ≡ th → r ≡ at_of Branches 1 row rule → Stands (R.if_then_else i th el) x r
    unfolding counts_hits branches steps_of go_of branch_goes aim_of branch_of to
    branch_then z c schema is = goes_of is refl refl (omega arith) (omega arith) (omega arith) (skipped_none (omega arith)) (eq-eqb t 0 c) (rw (same, schema))

    pub branch_else : (x ≡ 0 → ⊥) → x ≤ 2 → t ≡ 1 → rule.0 ≡ el → r ≡ at_of Branches 2 row rule → Stands (R.if_then_else i th el) x r
    unfolding counts_hits branches steps_of go_of branch_goes aim_of branch_of to
    branch_else z h c schema is =
        goes_of is refl refl h (omega arith) (omega arith)
        (record { idle = λ k a b. let w : k ≡ 1 = omega arith in rw w (ne_eqb t 0 (λ (y : t ≡ 0). omega arith)) }) (eq-eqb t 1 c) (rw (same, schema))

  module _ (i th el x : ℕ) (r : Option Turn) where
    pub branch_end : (x ≡ 0 → ⊥) → (x ≤ 1 → t ≡ 0 → ⊥) → (x ≤ 2 → t ≡ 1 → ⊥) → r ≡ None → Stands (R.if_then_else i th el) x r
    unfolding steps_of go_of branch_goes aim_of
    branch_end z a b is = stops {y = 3} is (record { idle = idle }) (omega arith)
      where
        idle : (k : ℕ) → x ≤ k → k < 3 → goes_at d p before (R.if_then_else i th el) κ t k ≡ false
        idle k l h =
            ⊎_elim (λ (g : k ≤ 1). let w : k ≡ 1 = omega arith in rw w (ne_eqb t 0 (a (omega arith))))
            (λ (g : 1 < k). let w : k ≡ 2 = omega arith in rw w (ne_eqb t 1 (b (omega arith))))
            (le_or_lt k 1)

  -- ---- 37

  module _ (rs us : List ℕ) (list : Entries) (x : ℕ) where
    abbrev depends : R.Clause
    depends = R.dependent_schemas (members_in rs us list)

    idle_depends : (y : ℕ) → NoneNamed d p (members_in rs us list) x y → Idle depends x y
    unfolding go_of
    idle_depends y N = record { idle = λ k a b. le-ltb (child_named d p (get_or (members_in rs us list) k no_member).0) (member_count (own d p)) (N.none k a b) }

    pub depended_end : (r : Option Turn) → NoneNamed d p (members_in rs us list) x list.count → r ≡ None → Stands depends x r
    unfolding steps_of
    depended_end r N is = stops is (idle_depends list.count N) (omega (arith, members_long rs list us))

    pub depended_turn : {y n : ℕ} (row : RecordRow) (rule : RuleRow) (r : Option Turn) → p.row ≡ row.0 → NamedAt d p (members_in rs us list) x list.count y n
        → rule.0 ≡ (get_or (members_in rs us list) y no_member).1 → r ≡ at y row rule → Stands depends x r
    unfolding counts_hits branches steps_of go_of aim_of to
    depended_turn {y} {n} row rule r same N schema is =
        goes_on is refl refl N.ahead (let w = N.within in omega (arith, members_long rs list us)) N.small (idle_depends y N.before)
        (ap (λ (i : ℕ). ltb i (member_count (own d p))) (sym N.place_is) ∙ lt-ltb n (member_count (own d p)) N.member)
        (rw (same, schema))

  -- ---- 45

  module _ (s least most x : ℕ) (r : Option Turn) where
    pub counted_turn : (first : ℕ) (row : RecordRow) (rule : RuleRow) → first ≡ first_child (own d p) → x < element_count (own d p) → x < 4294967295
        → row.0 ≡ first + x → rule.0 ≡ s → r ≡ at_of Hits x row rule → Stands (R.contains s least most) x r
    unfolding counts_hits branches steps_of go_of aim_of to
    counted_turn first row rule f h small there schema is = goes_of is refl refl (omega arith) h small (skipped_none (omega arith)) refl (rw (there, f, schema))

    pub counted_end : element_count (own d p) ≤ x → r ≡ None → Stands (R.contains s least most) x r
    unfolding steps_of
    counted_end h is = stops {y = x} is (skipped_none (omega arith)) h
