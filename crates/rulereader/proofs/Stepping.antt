-- The unguarded steps of a clause, by the number of its code: 30 to 32 have a list of them, 33 and 34 one, 36 three, 37 a list with names, and no other code has any.
--     listed_steps, one_step, three_steps, member_steps, no_step     how many
--     entry_step, only_step, member_step                             the i-th
-- Assumes nothing.
use mathlib.Core.Bool.{Bool, true, false, cond, ◌&&◌, ◌||◌, false≢true}
use mathlib.Core.List.{List, [], ◌∷◌, map}
use mathlib.Core.Logic.{◌⊎◌, inl, inr, ⊎_elim}
use mathlib.Core.Path.{◌≡◌, refl, sym, ap, subst, ◌∙◌}
use Prim.Native.Nat.{ℕ, zero, suc, ◌+◌, ◌≤◌, ◌<◌}
use native.Mathlib.Omega.{arith}
use lib.Dec.{eqb, leb}
use lib.ListN.{length, get_or, length-map}
use borrow.Author.Tests.{eqb-true, leb-true}
use Rattle.laws.proofs.Tests.{le_or_lt, decide, left, right, either}
use Rattle.rulesheet.specs.declared.code.Fields.{Fields}
use Rattle.rulesheet.specs.declared.code.Fields.TheVariants.{Schema, Schemas, Members, Branches}
use Rattle.rulesheet.specs.declared.form.ClauseRow.{ClauseRow}
use Rattle.rulesheet.specs.declared.form.EntryRow.{EntryRow}
use Rattle.rulesheet.specs.Codes.{CodeLine, codes, line_in, no_entry, shape_of}
use Rattle.rulesheet.specs.Sheet.{entries_word, clause_at, entry_at, run, targets_of}
use Rattle.rulesheet.specs.Faults.{is_list, fields_at, clause_fine}
use Rattle.rulesheet.specs.Clauses.{SizedBy}
use Rattle.rulesheet.proofs.Taking.{list_facts}
use Rattle.rulesheet.proofs.Reaching.{run_long, made_at, item_is, by_shape, targets_are}
use Rattle.rulesheet.proofs.Sizes.{clause_sized}

-- ---- the numbers

-- a line that steps has a number from 30 to 34, or 36 or 37
abbrev fits : CodeLine → Bool
fits line = cond line.shape.unguarded ((leb 30 line.code && leb line.code 34) || (leb 36 line.code && leb line.code 37)) true

-- the numbers of the codes that step
abbrev pub Stepping : ℕ → Type 0
Stepping code = ((30 ≤ code) × (code ≤ 34)) ⊎ ((36 ≤ code) × (code ≤ 37))

unfoldable all_fit : List CodeLine → Bool
all_fit [] = true
all_fit (line ∷ lines) = fits line && all_fit lines

table_fits : all_fit codes ≡ true
unfolding all_fit
table_fits = refl

within : (lines : List CodeLine) (code : ℕ) → all_fit lines ≡ true → (line_in lines code).shape.unguarded ≡ true → Stepping code
unfolding all_fit line_in
within [] code fine steps = absurd (false≢true steps)
within (line ∷ lines) code fine steps =
    ⊎_elim
    (λ (same : eqb code line.code ≡ true). here (eqb-true code line.code same) (rw same at steps) (left (fits line) (all_fit lines) fine))
    (λ (other : eqb code line.code ≡ false). within lines code (right (fits line) (all_fit lines) fine) (rw other at steps))
    (decide (eqb code line.code))
  where
    here : code ≡ line.code → line.shape.unguarded ≡ true → fits line ≡ true → Stepping code
    here same steps fit =
        let c = line.code in
        let t1 = leb 30 c && leb c 34 in
        let t2 = leb 36 c && leb c 37 in
        let range : (t1 || t2) ≡ true = rw steps at fit in
        ⊎_elim
        (λ t. let low = leb-true 30 c (left (leb 30 c) (leb c 34) t) in let high = leb-true c 34 (right (leb 30 c) (leb c 34) t) in inl (omega arith, omega arith))
        (λ t. let low = leb-true 36 c (left (leb 36 c) (leb c 37) t) in let high = leb-true c 37 (right (leb 36 c) (leb c 37) t) in inr (omega arith, omega arith))
        (either t1 t2 range)

module _ (code : ℕ) where
  no_steps : (Stepping code → ⊥) → (shape_of code).unguarded ≡ false
  no_steps out = ⊎_elim (λ (e : (shape_of code).unguarded ≡ true). absurd (out (within codes code table_fits e))) (λ e. e) (decide (shape_of code).unguarded)

  listed : 30 ≤ code → code ≤ 32 → ((shape_of code).unguarded ≡ true) × ((shape_of code).fields ≡ Schemas)
  unfolding line_in
  listed low high =
      ⊎_elim
      (λ (l : code ≤ 30). let e : code ≡ 30 = omega arith in rw e (refl, refl))
      (λ (l : 30 < code). ⊎_elim (λ (g : code ≤ 31). let e : code ≡ 31 = omega arith in rw e (refl, refl)) (λ (g : 31 < code). let e : code ≡ 32 = omega arith in rw e (refl, refl)) (le_or_lt code 31))
      (le_or_lt code 30)

  single : 33 ≤ code → code ≤ 34 → ((shape_of code).unguarded ≡ true) × ((shape_of code).fields ≡ Schema)
  unfolding line_in
  single low high =
      ⊎_elim
      (λ (l : code ≤ 33). let e : code ≡ 33 = omega arith in rw e (refl, refl))
      (λ (l : 33 < code). let e : code ≡ 34 = omega arith in rw e (refl, refl))
      (le_or_lt code 33)

  branching : code ≡ 36 → ((shape_of code).unguarded ≡ true) × ((shape_of code).fields ≡ Branches)
  unfolding line_in
  branching e = rw e (refl, refl)

  depending : code ≡ 37 → ((shape_of code).unguarded ≡ true) × ((shape_of code).fields ≡ Members)
  unfolding line_in
  depending e = rw e (refl, refl)

branches_three : {f : Fields} (count : ℕ) → f ≡ Branches → SizedBy f count → count ≡ 3
branches_three count e s = subst (λ f. SizedBy f count) e s

-- three in a row
three : (f : ℕ → ℕ) (i : ℕ) → i < 3 → f i ≡ get_or (f 0 ∷ f 1 ∷ f 2 ∷ []) i 0
three f zero h = refl
three f (suc zero) h = refl
three f (suc (suc zero)) h = refl
three f (suc (suc (suc i))) h = absurd (omega arith)

-- ---- a clause's steps, by the row that was read

module _ (ws : List ℕ) (k : ℕ) (row : ClauseRow) (read : row ≡ clause_at ws k) where
  -- the clause's entries
  abbrev entries : List EntryRow
  entries = map (entry_at ws) (run row.count row.first)

  by_row : targets_of ws k ≡ by_shape (shape_of row.code) row.first entries
  by_row = targets_are ws k ∙ rw read

  pub no_step : (Stepping row.code → ⊥) → length (targets_of ws k) ≡ 0
  no_step out = let z : targets_of ws k ≡ [] = by_row ∙ rw (no_steps row.code out) in ap length z

  are_entries : 30 ≤ row.code → row.code ≤ 32 → targets_of ws k ≡ map (λ (e : EntryRow). e.first) entries
  are_entries low high = let e = listed row.code low high in by_row ∙ rw (e.0, e.1)

  pub listed_steps : 30 ≤ row.code → row.code ≤ 32 → length (targets_of ws k) ≡ row.count
  listed_steps low high = ap length (are_entries low high) ∙ simp (length-map, run_long)

  is_one : 33 ≤ row.code → row.code ≤ 34 → targets_of ws k ≡ row.first ∷ []
  is_one low high = let e = single row.code low high in by_row ∙ rw (e.0, e.1)

  pub one_step : 33 ≤ row.code → row.code ≤ 34 → length (targets_of ws k) ≡ 1
  one_step low high = ap length (is_one low high)

  -- the schema of entry i
  abbrev branch : ℕ → ℕ
  branch i = (get_or entries i no_entry).first

  are_branches : row.code ≡ 36 → targets_of ws k ≡ branch 0 ∷ branch 1 ∷ branch 2 ∷ []
  are_branches is = let e = branching row.code is in by_row ∙ rw (e.0, e.1)

  pub three_steps : row.code ≡ 36 → length (targets_of ws k) ≡ 3
  three_steps is = ap length (are_branches is)

  are_members : row.code ≡ 37 → targets_of ws k ≡ map (λ (e : EntryRow). e.third) entries
  are_members is = let e = depending row.code is in by_row ∙ rw (e.0, e.1)

  pub member_steps : row.code ≡ 37 → length (targets_of ws k) ≡ row.count
  member_steps is = ap length (are_members is) ∙ simp (length-map, run_long)

  -- the fields of the clause are a list
  lists : (f : Fields) → (shape_of row.code).fields ≡ f → is_list f ≡ true → is_list (fields_at ws k) ≡ true
  lists f is list = ap (λ (r : ClauseRow). is_list (shape_of r.code).fields) (sym read) ∙ ap is_list is ∙ list

  -- a clause with a step has such a code
  module _ (fine : clause_fine ws k ≡ true) (i : ℕ) (h : i < length (targets_of ws k)) where
    has_code : Stepping row.code
    has_code =
        ⊎_elim (within codes row.code table_fits)
        (λ (e : (shape_of row.code).unguarded ≡ false). absurd (let z : targets_of ws k ≡ [] = by_row ∙ rw e in omega (arith, ap length z)))
        (decide (shape_of row.code).unguarded)

    -- step i is in entry i, which is one of the sheet
    pub record InEntry : Type 0 where
      pub inside : row.first + i < entries_word ws

    inside_by : is_list (fields_at ws k) ≡ true → i < row.count → InEntry
    inside_by list l =
        let a = ap (λ (x : ClauseRow). x.first) read in
        let b = ap (λ (x : ClauseRow). x.count) read in
        record { inside = omega (arith, (list_facts ws k fine list).list_within) }

    pub member_step : row.code ≡ 37 → InEntry × ((entry_at ws (row.first + i)).third ≡ get_or (targets_of ws k) i 0)
    member_step is =
        let l : i < row.count = omega (arith, member_steps is) in (
          inside_by (lists Members (depending row.code is).1 refl) l,
          sym (ap (λ (t : List ℕ). get_or t i 0) (are_members is) ∙ item_is ws (λ (e : EntryRow). e.third) row.count row.first i 0 l),
        )

    pub only_step : 33 ≤ row.code → row.code ≤ 34 → row.first ≡ get_or (targets_of ws k) i 0
    only_step low high =
        let z : i ≡ 0 = omega (arith, one_step low high) in
        sym (ap (λ (t : List ℕ). get_or t i 0) (is_one low high) ∙ rw z)

    pub entry_step : (row.code ≡ 37 → ⊥) → (row.code ≡ 33 → ⊥) → (row.code ≡ 34 → ⊥) → InEntry × ((entry_at ws (row.first + i)).first ≡ get_or (targets_of ws k) i 0)
    entry_step a b c =
        ⊎_elim
        (λ (r : (30 ≤ row.code) × (row.code ≤ 34)).
        let low = r.0 in
        let high : row.code ≤ 32 = omega (arith, r.1) in
        let l : i < row.count = omega (arith, listed_steps low high) in (
          inside_by (lists Schemas (listed row.code low high).1 refl) l,
          sym (ap (λ (t : List ℕ). get_or t i 0) (are_entries low high) ∙ item_is ws (λ (e : EntryRow). e.first) row.count row.first i 0 l),
        ))
        (λ (r : (36 ≤ row.code) × (row.code ≤ 37)).
        let is : row.code ≡ 36 = omega (arith, r.0, r.1) in
        let f = (branching row.code is).1 in
        let list = lists Branches f refl in
        let count_is : row.count ≡ 3 = branches_three row.count (sym (ap (λ (r : ClauseRow). (shape_of r.code).fields) read) ∙ f) (rw (← read) at (clause_sized ws k fine list)) in
        let l : i < row.count = omega (arith, three_steps is) in (
          inside_by list l,
          sym (ap (λ (e : EntryRow). e.first) (made_at (entry_at ws) row.count row.first i no_entry l)) ∙ three branch i (omega arith) ∙ sym (ap (λ (t : List ℕ). get_or t i 0) (are_branches is)),
        ))
        has_code
