-- The names that an object must have.
--     is_missed, is_found          whether the place that was found is the end
--     has_members                  what is an object by its kind's number is one
--     entry_lacks, entry_has       no child has an entry's name, or one has it, by what the search gave
--     no_object, lacks, has_all    what `required` says of a row
-- Assumes nothing.
use mathlib.Core.Bool.{Bool, true, false, not}
use mathlib.Core.List.{List, [], map}
use mathlib.Core.Path.{◌≡◌, refl, sym, ap, ◌∙◌}
use Prim.Native.Nat.{ℕ, ◌+◌, ◌-◌, ◌≤◌, ◌<◌}
use native.Mathlib.Omega.{arith}
use lib.Dec.{eqb}
use borrow.Author.Tests.{eqb-true, eq-eqb, not-true, not-false}
use Rattle.laws.proofs.Searches.{clear_below, holds_at, at_most_end}
use Rattle.text.specs.declared.Range.{Range}
use Rattle.text.specs.Part.{part}
use Rattle.sheet.specs.Doc.{Value, null, bool, number, string, array, object, Doc, first_child, child_count, is_object}
use Rattle.rulesheet.specs.declared.clause.Entries.{Entries}
use Rattle.rulesheet.specs.Codes.{entry_name}
use Rattle.rulesheet.specs.Sheet.{entry_at, run}
use Rattle.rulesheet.specs.Clauses.{entries_of, EntryNameRead}
use Rattle.rulesheet.proofs.Reaching.{item_is}
use Rattle.meaning.specs.Lists.{any, range}
use Rattle.meaning.specs.Tests.{members?, given}
use Rattle.meaning.specs.Rules.{called, present}
use Rattle.looking.specs.Read.{child_named}
use Rattle.looking.proofs.Having.{is_of, never, never_not, members_found, no_members}
use Rattle.clause.proofs.Listing.{range_run, any_found, any_nowhere, entries_all, entry_missed}

module _ (d : Doc) (j : ℕ) (name : List ℕ) where
  -- one of the children has the name
  abbrev pub is_named : Bool
  is_named = any (map (λ k. called d name k) (range (first_child (d.value j)) (child_count (d.value j))))

  module _ (r : ℕ) (read : r ≡ child_named d j name) where
    in_order : is_named ≡ any (map (λ k. called d name k) (run (child_count (d.value j)) (first_child (d.value j))))
    in_order = rw (range_run (first_child (d.value j)) (child_count (d.value j)))

    name_missed : r ≡ child_count (d.value j) → is_named ≡ false
    name_missed e =
        let first = first_child (d.value j) in
        let count = child_count (d.value j) in
        in_order
        ∙ any_nowhere (λ k. called d name k) count first
        (λ (x : ℕ) (l : first ≤ x) (h : x < first + count).
        let back : first + (x - first) ≡ x = omega arith in
        ap (λ (k : ℕ). called d name k) (sym back)
        ∙ clear_below (λ k. called d name (first + k)) count 0 (x - first) (omega arith) (omega arith) (omega (arith, read)))

    name_found : (r ≡ child_count (d.value j) → ⊥) → is_named ≡ true
    name_found e =
        let first = first_child (d.value j) in
        let count = child_count (d.value j) in
        let most = at_most_end (λ k. called d name (first + k)) count 0 in
        let here : r < count = omega (arith, read) in
        in_order
        ∙ any_found (λ k. called d name k) count first (first + r) (omega arith) (omega arith)
        (ap (λ (k : ℕ). called d name (first + k)) read ∙ holds_at (λ k. called d name (first + k)) count 0 (omega (arith, read)))

-- by whether the place that was found is the end
pub is_missed : {r : Bool} {k n : ℕ} → r ≡ not (eqb k n) → r ≡ false → k ≡ n
is_missed {r} {k} {n} is e = eqb-true k n (not-false (eqb k n) (sym is ∙ e))

pub is_found : {r : Bool} {k n : ℕ} → r ≡ not (eqb k n) → r ≡ true → k ≡ n → ⊥
is_found {r} {k} {n} is e same = never_not (sym (eq-eqb k n same) ∙ not-true (eqb k n) (sym is ∙ e))

pub has_members : (v : Value) → is_of 6 v ≡ true → is_object v ≡ true
has_members null t = absurd (never t)
has_members (bool true) t = absurd (never t)
has_members (bool false) t = absurd (never t)
has_members (number z) t = absurd (never t)
has_members (string bytes) t = absurd (never t)
has_members (array first k) t = absurd (never t)
has_members (object first k) t = refl

module _ (d : Doc) (j : ℕ) (ws ts : List ℕ) (list : Entries) where
  -- what `required` says of row j
  abbrev Required : Bool
  Required = given (members? (d.value j)) (present d (map (entry_name ts) (entries_of ws list)))

  -- by what the search for the name of entry i gave
  module _ (i : ℕ) (h : i < list.count) (name : Range) (read : EntryNameRead ws list i name) (r n : ℕ) (found : r ≡ child_named d j (part ts name)) (all : n ≡ child_count (d.value j)) where
    entry_found : r ≡ child_named d j (entry_name ts (entry_at ws (list.first + i)))
    entry_found = found ∙ ap (child_named d j) (read.name_is ts ∙ item_is ws (entry_name ts) list.count list.first i [] h)

    pub entry_lacks : r ≡ n → is_named d j (entry_name ts (entry_at ws (list.first + i))) ≡ false
    entry_lacks e = name_missed d j (entry_name ts (entry_at ws (list.first + i))) r entry_found (e ∙ all)

    pub entry_has : (r ≡ n → ⊥) → is_named d j (entry_name ts (entry_at ws (list.first + i))) ≡ true
    entry_has apart = name_found d j (entry_name ts (entry_at ws (list.first + i))) r entry_found (λ e. apart (e ∙ sym all))

  pub no_object : is_of 6 (d.value j) ≡ false → true ≡ Required
  unfolding given
  no_object t = rw (no_members (d.value j) t)

  module _ (t : is_of 6 (d.value j) ≡ true) where
    pub lacks : (i : ℕ) → i < list.count → is_named d j (entry_name ts (entry_at ws (list.first + i))) ≡ false → false ≡ Required
    unfolding given present
    lacks i h e = rw (members_found (d.value j) t) (sym (entry_missed ws list (is_named d j) (entry_name ts) i h e))

    pub has_all : ((i : ℕ) → i < list.count → is_named d j (entry_name ts (entry_at ws (list.first + i))) ≡ true) → true ≡ Required
    unfolding given present
    has_all each = rw (members_found (d.value j) t) (sym (entries_all ws list (is_named d j) (entry_name ts) each))
