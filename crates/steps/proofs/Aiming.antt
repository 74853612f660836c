-- Where a clause stands, by what it takes.
--     members_object        a row that has members is an object
--     named_place           the place of the member that has a name
--     row_cell              a row has its cell in each column
--     listed_turn, listed_end, single_turn, single_end     the schemas of the row itself
--     placed_turn, placed_end, rest_turn, rest_end         elements by their place
--     skip_members, skip_elements, member_turn, member_end, element_turn, element_end     children by the marks on them
--     named_turn, named_end, other_turn, other_more, other_end     members by their names
-- Assumes nothing.
use mathlib.Core.Bool.{true, false}
use mathlib.Core.List.{List, [], ◌∷◌}
use mathlib.Core.Logic.{⊎_elim}
use mathlib.Core.Path.{ap, sym, ◌≡◌, refl, ◌∙◌}
use Prim.Native.Nat.{ℕ, ◌+◌, ◌-◌, ◌*◌, ◌≤◌, ◌<◌, min}
use native.Mathlib.Omega.{arith}
use lib.Dec.{ltb}
use lib.ListN.{get_or}
use borrow.Author.Tests.{lt-ltb, le-ltb, eq-eqb, ne_eqb}
use Rattle.laws.proofs.Tests.{le_or_lt}
use Rattle.sheet.specs.Doc.{Value, null, bool, number, string, array, object, Doc, first_child, child_count, is_object}
use Rattle.sheet.specs.declared.record.RecordRow.{RecordRow}
use Rattle.sheet.specs.declared.record.RuleRow.{RuleRow}
use Rattle.rulesheet.specs.declared.clause.Entries.{Entries}
use Rattle.rulesheet.specs.Ruleset as R
use Rattle.rulesheet.specs.Clauses.{schemas_in, members_in}
use Rattle.rulesheet.proofs.Items.{schemas_long, members_long}
use Rattle.meaning.specs.Rules.{Pair, Marks, to}
use Rattle.meaning.proofs.Words.{word_inside}
use Rattle.areas.specs.Cells.{cell_of}
use Rattle.looking.specs.Read as C
use Rattle.std.specs.Prelude.{Option, None}
use Rattle.steps.specs.declared.turn.Turn.{Turn}
use Rattle.plan.specs.Plan.{member_count, element_count, no_member, counts_hits, branches, own, child_named, prefixed, unnamed, steps_in, aim_in, go_in, steps_of, aim_of, go_of}
use Rattle.told.specs.Read.{Started}
use Rattle.steps.specs.Turns.{Skipped, NoneNamed, NamedAt, Turned}
use Rattle.steps.proofs.Turns.{at, skipped_none, skipped_more, goes_on, stops}

-- ---- the children of a row

pub members_object : (v : Value) → 0 < member_count v → is_object v ≡ true
members_object null h = absurd (omega arith)
members_object (bool b) h = absurd (omega arith)
members_object (number z) h = absurd (omega arith)
members_object (string bytes) h = absurd (omega arith)
members_object (array first k) h = absurd (omega arith)
members_object (object first k) h = refl

members_all : (v : Value) → 0 < member_count v → member_count v ≡ child_count v
members_all null h = absurd (omega arith)
members_all (bool b) h = absurd (omega arith)
members_all (number z) h = absurd (omega arith)
members_all (string bytes) h = absurd (omega arith)
members_all (array first k) h = absurd (omega arith)
members_all (object first k) h = refl

-- n is the first child that has the name of a member, if the row has members
pub named_place : (d : Doc) (p : Pair) → 0 < member_count (own d p) → {n : ℕ} {name wanted : List ℕ} → n ≡ C.child_named d p.row name → name ≡ wanted → n ≡ child_named d p wanted
unfolding child_named
named_place d p some found name_is = found ∙ rw (name_is, ← members_all (own d p) some)

-- a row has its cell in each column
pub row_cell : (rows m long row rule : ℕ) → row < rows → rule < m → rows * m ≤ long → cell_of m row rule < long
row_cell rows m long row rule h l room = omega (arith, word_inside rows m row rule h l)

module _ (t : ℕ) (d : Doc) (p : Pair) (before : List R.Clause) (κ : Marks) where
  -- the clause c stands, after x steps, where r says
  abbrev Stands : R.Clause → ℕ → Option Turn → Type 0
  Stands c x r = Turned d p before c x κ t r

  abbrev Idle : R.Clause → ℕ → ℕ → Type 0
  Idle c x y = Skipped d p before c κ t x y

  -- ---- the schemas of the row itself

  module _ (m : R.Mode) (x : ℕ) (r : Option Turn) where
    module _ (rs : List ℕ) (list : Entries) where
      pub listed_turn : (row : RecordRow) (rule : RuleRow) → p.row ≡ row.0 → x < list.count → x < 4294967295 → rule.0 ≡ get_or (schemas_in rs list) x 0
          → r ≡ at x row rule → Stands (R.in_place m (schemas_in rs list)) x r
      unfolding counts_hits branches steps_of go_of aim_of to
      listed_turn row rule same h small schema is =
          goes_on is refl refl (omega arith) (omega (arith, schemas_long rs list)) small (skipped_none (omega arith)) refl (rw (same, schema))

      pub listed_end : list.count ≤ x → r ≡ None → Stands (R.in_place m (schemas_in rs list)) x r
      unfolding steps_of
      listed_end h is = stops {y = x} is (skipped_none (omega arith)) (omega (arith, schemas_long rs list))

    pub single_turn : (row : RecordRow) (rule : RuleRow) → p.row ≡ row.0 → x < 1 → r ≡ at x row rule → Stands (R.in_place m (rule.0 ∷ [])) x r
    unfolding counts_hits branches steps_of go_of aim_of to
    single_turn row rule same h is =
        let z : x ≡ 0 = omega arith in
        goes_on is refl refl (omega arith) (omega arith) (omega arith) (skipped_none (omega arith)) refl (rw (same, z))

    pub single_end : (s : ℕ) → 1 ≤ x → r ≡ None → Stands (R.in_place m (s ∷ [])) x r
    unfolding steps_of
    single_end s h is = stops {y = x} is (skipped_none (omega arith)) (omega arith)

  -- ---- elements by their place

  module _ (x : ℕ) (r : Option Turn) where
    module _ (rs : List ℕ) (list : Entries) where
      pub placed_turn : (first : ℕ) (row : RecordRow) (rule : RuleRow) → first ≡ first_child (own d p) → x < min (element_count (own d p)) list.count → x < 4294967295
          → row.0 ≡ first + x → rule.0 ≡ get_or (schemas_in rs list) x 0 → r ≡ at x row rule → Stands (R.takes (R.prefix_items (schemas_in rs list))) x r
      unfolding counts_hits branches steps_of steps_in go_of go_in aim_of aim_in to
      placed_turn first row rule f h small there schema is =
          goes_on is refl refl (omega arith) (rw (schemas_long rs list) h) small (skipped_none (omega arith)) refl (rw (there, f, schema))

      pub placed_end : min (element_count (own d p)) list.count ≤ x → r ≡ None → Stands (R.takes (R.prefix_items (schemas_in rs list))) x r
      unfolding steps_of steps_in
      placed_end h is = stops {y = x} is (skipped_none (omega arith)) (rw (schemas_long rs list) h)

    module _ (s from many : ℕ) (start : Started before (R.takes (R.items s)) from) (many_is : many ≡ element_count (own d p) - from) where
      pub rest_turn : (first : ℕ) (row : RecordRow) (rule : RuleRow) → rule.0 ≡ s → first ≡ first_child (own d p) → x < many → x < 4294967295 → row.0 ≡ first + from + x
          → r ≡ at x row rule → Stands (R.takes (R.items s)) x r
      unfolding counts_hits branches steps_of steps_in go_of go_in aim_of aim_in to
      rest_turn first row rule schema f h small there is =
          let told = start.prefix_is s refl in
          let e : row.0 ≡ first_child (own d p) + (prefixed d p before + x) = omega arith in
          goes_on is refl refl (omega arith) (omega arith) small (skipped_none (omega arith)) refl (rw (e, schema))

      pub rest_end : many ≤ x → r ≡ None → Stands (R.takes (R.items s)) x r
      unfolding steps_of steps_in
      rest_end h is = let told = start.prefix_is s refl in stops {y = x} is (skipped_none (omega arith)) (omega arith)

  -- ---- children by the marks on them

  -- those that are marked are passed over
  module _ (first : ℕ) (f : first ≡ first_child (own d p)) (s x y : ℕ) (marked : (k : ℕ) → x ≤ k → k < y → κ (first + k) ≡ true) where
    pub skip_members : Idle (R.takes (R.unevaluated_properties s)) x y
    unfolding counts_hits branches go_of go_in aim_of aim_in to
    skip_members = record { idle = λ k a b. rw (← f, marked k a b) }

    pub skip_elements : Idle (R.takes (R.unevaluated_items s)) x y
    unfolding counts_hits branches go_of go_in aim_of aim_in to
    skip_elements = record { idle = λ k a b. rw (← f, marked k a b) }

  module _ (x y first : ℕ) (f : first ≡ first_child (own d p)) (s : ℕ) where
    pub member_turn : (row : RecordRow) (rule : RuleRow) (r : Option Turn) → Idle (R.takes (R.unevaluated_properties s)) x y → x ≤ y → y < member_count (own d p) → y < 4294967295 → rule.0 ≡ s
        → row.0 ≡ first + y → κ (first + y) ≡ false → r ≡ at y row rule → Stands (R.takes (R.unevaluated_properties s)) x r
    unfolding counts_hits branches steps_of steps_in go_of go_in aim_of aim_in to
    member_turn row rule r idle ahead h small schema there fresh is = goes_on is refl refl ahead h small idle (rw (← f, fresh)) (rw (there, f, schema))

    pub element_turn : (row : RecordRow) (rule : RuleRow) (r : Option Turn) → Idle (R.takes (R.unevaluated_items s)) x y → x ≤ y → y < element_count (own d p) → y < 4294967295 → rule.0 ≡ s
        → row.0 ≡ first + y → κ (first + y) ≡ false → r ≡ at y row rule → Stands (R.takes (R.unevaluated_items s)) x r
    unfolding counts_hits branches steps_of steps_in go_of go_in aim_of aim_in to
    element_turn row rule r idle ahead h small schema there fresh is = goes_on is refl refl ahead h small idle (rw (← f, fresh)) (rw (there, f, schema))

  module _ (x y s : ℕ) (r : Option Turn) (is : r ≡ None) where
    pub member_end : Idle (R.takes (R.unevaluated_properties s)) x y → member_count (own d p) ≤ y → Stands (R.takes (R.unevaluated_properties s)) x r
    unfolding steps_of steps_in
    member_end idle h = stops is idle h

    pub element_end : Idle (R.takes (R.unevaluated_items s)) x y → element_count (own d p) ≤ y → Stands (R.takes (R.unevaluated_items s)) x r
    unfolding steps_of steps_in
    element_end idle h = stops is idle h

  -- ---- members by their names

  module _ (rs us : List ℕ) (list : Entries) (x : ℕ) where
    abbrev named : R.Clause
    named = R.takes (R.properties (members_in rs us list))

    steps_named : steps_of d p before named ≤ list.count
    unfolding steps_of steps_in
    steps_named =
        ⊎_elim (λ (z : member_count (own d p) ≤ 0). rw (eq-eqb (member_count (own d p)) 0 (omega arith)) (omega arith))
        (λ (z : 0 < member_count (own d p)). rw (ne_eqb (member_count (own d p)) 0 (λ e. omega arith)) (omega (arith, members_long rs list us)))
        (le_or_lt (member_count (own d p)) 0)

    steps_some : 0 < member_count (own d p) → steps_of d p before named ≡ list.count
    unfolding steps_of steps_in
    steps_some some = rw (ne_eqb (member_count (own d p)) 0 (λ e. omega arith)) (members_long rs list us)

    idle_named : (y : ℕ) → NoneNamed d p (members_in rs us list) x y → Idle named x y
    unfolding counts_hits branches go_of go_in aim_of aim_in
    idle_named y N = record { idle = λ k a b. le-ltb (child_named d p (get_or (members_in rs us list) k no_member).0) (member_count (own d p)) (N.none k a b) }

    pub named_end : (r : Option Turn) → NoneNamed d p (members_in rs us list) x list.count → r ≡ None → Stands named x r
    named_end r N is = stops is (idle_named list.count N) steps_named

    pub named_turn : {y n : ℕ} (first : ℕ) (row : RecordRow) (rule : RuleRow) (r : Option Turn) → NamedAt d p (members_in rs us list) x list.count y n → first ≡ first_child (own d p)
        → row.0 ≡ first + n → rule.0 ≡ (get_or (members_in rs us list) y no_member).1 → r ≡ at y row rule → Stands named x r
    unfolding counts_hits branches go_of go_in aim_of aim_in to
    named_turn {y} {n} first row rule r N f there schema is =
        goes_on is refl refl N.ahead (let w = N.within in let m = N.member in omega (arith, steps_some (omega arith))) N.small (idle_named y N.before)
        (ap (λ (i : ℕ). ltb i (member_count (own d p))) (sym N.place_is) ∙ lt-ltb n (member_count (own d p)) N.member)
        (rw (there, f, N.place_is, schema))

  module _ (x y first s : ℕ) (f : first ≡ first_child (own d p)) where
    pub other_turn : (row : RecordRow) (rule : RuleRow) (r : Option Turn) → Idle (R.takes (R.additional_properties s)) x y → x ≤ y → y < member_count (own d p) → y < 4294967295 → rule.0 ≡ s
        → row.0 ≡ first + y → unnamed d p before (first + y) ≡ true → r ≡ at y row rule → Stands (R.takes (R.additional_properties s)) x r
    unfolding counts_hits branches steps_of steps_in go_of go_in aim_of aim_in to
    other_turn row rule r idle ahead h small schema there unnamed_here is = goes_on is refl refl ahead h small idle (rw (← f, unnamed_here)) (rw (there, f, schema))

    pub other_more : Idle (R.takes (R.additional_properties s)) x y → unnamed d p before (first + y) ≡ false → Idle (R.takes (R.additional_properties s)) x (y + 1)
    unfolding counts_hits branches go_of go_in aim_of aim_in
    other_more idle named_here = skipped_more idle (rw (← f, named_here))

    pub other_end : (r : Option Turn) → Idle (R.takes (R.additional_properties s)) x y → member_count (own d p) ≤ y → r ≡ None → Stands (R.takes (R.additional_properties s)) x r
    unfolding steps_of steps_in
    other_end r idle h is = stops is idle h
