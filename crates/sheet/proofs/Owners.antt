-- Children and owners of a sheet in which no row breaks the layout, by the words and by the record.
--     under, child       a child of row j is a row in j's range, and the reverse
--     children_of        it stands after j and within the rows
--     owner_is           it names j as its owner
--     placed_at, before_it     every row but the root lies in the range of its owner, which stands before it
--     object_kind        an object's row is of the kind object
-- Assumes nothing.
use mathlib.Core.Bool.{true, false, not}
use mathlib.Core.List.{List}
use mathlib.Core.Logic.{⊎_elim}
use mathlib.Core.Path.{◌≡◌, sym, ap, ◌∙◌}
use Prim.Native.Nat.{ℕ, ◌+◌, ◌≤◌, ◌<◌}
use native.Mathlib.Omega.{arith}
use lib.Dec.{eqb}
use borrow.Author.Tests.{eqb-true, not-false}
use Rattle.laws.proofs.Tests.{decide}
use Rattle.sheet.specs.Kinds.{kind_of, holds_children, is_object_kind}
use Rattle.sheet.specs.Doc.{Child, is_object, first_child, child_count}
use Rattle.sheet.specs.Record.{rows_word, text_word, row_at, owner_at, value_by, doc_of}
use Rattle.sheet.specs.Faults.{stranger, owns_ok, row_ok}
use Rattle.laws.proofs.Searches.{clear_below}
use Rattle.sheet.proofs.Rows.{row_facts, children_facts, place_facts}
use Rattle.sheet.proofs.Values.{value_in, kind_by, first_by, count_by, first_none, count_none}

-- a row k in the range of row j, by the words of row j
pub record Under (ws : List ℕ) (j k : ℕ) : Type 0 where
  pub holds : holds_children (kind_of (row_at ws j).kind) ≡ true
  pub low : (row_at ws j).first ≤ k
  pub high : k < (row_at ws j).first + (row_at ws j).count

module _ (ws ts : List ℕ) (n : ℕ) (count_is : n ≡ rows_word ws) (passes : (j : ℕ) → j < n → row_ok ws j ≡ true) where
  -- ---- children, by the words and by the record

  pub value_here : (j : ℕ) → j < n → (doc_of ws ts).value j ≡ value_by (kind_of (row_at ws j).kind) ts (row_at ws j).first (row_at ws j).count
  value_here j h = value_in ws ts j (omega (arith, count_is))

  pub first_here : (j : ℕ) → j < n → holds_children (kind_of (row_at ws j).kind) ≡ true → first_child ((doc_of ws ts).value j) ≡ (row_at ws j).first
  first_here j h t = ap first_child (value_here j h) ∙ first_by ts (row_at ws j).first (row_at ws j).count (kind_of (row_at ws j).kind) t

  pub count_here : (j : ℕ) → j < n → holds_children (kind_of (row_at ws j).kind) ≡ true → child_count ((doc_of ws ts).value j) ≡ (row_at ws j).count
  count_here j h t = ap child_count (value_here j h) ∙ count_by ts (row_at ws j).first (row_at ws j).count (kind_of (row_at ws j).kind) t

  pub childless : (j k : ℕ) → j < n → holds_children (kind_of (row_at ws j).kind) ≡ false → Child (doc_of ws ts) j k → ⊥
  childless j k h t c =
      let a = ap first_child (value_here j h) ∙ first_none ts (row_at ws j).first (row_at ws j).count (kind_of (row_at ws j).kind) t in
      let b = ap child_count (value_here j h) ∙ count_none ts (row_at ws j).first (row_at ws j).count (kind_of (row_at ws j).kind) t in
      omega (arith, c.within)

  pub under : (j k : ℕ) → j < n → Child (doc_of ws ts) j k → Under ws j k
  under j k h c =
      ⊎_elim
      (λ (t : holds_children (kind_of (row_at ws j).kind) ≡ true).
      let a = first_here j h t in
      let b = count_here j h t in
      record { holds = t; low = omega (arith, c.after); high = omega (arith, c.within) })
      (λ (t : holds_children (kind_of (row_at ws j).kind) ≡ false). absurd (childless j k h t c))
      (decide (holds_children (kind_of (row_at ws j).kind)))

  pub child : (j k : ℕ) → j < n → Under ws j k → Child (doc_of ws ts) j k
  child j k h u =
      let a = first_here j h u.holds in
      let b = count_here j h u.holds in
      record { after = omega (arith, u.low); within = omega (arith, u.high) }

  -- ---- owners

  pub children_of : (j k : ℕ) (h : j < n) → Under ws j k → (j < k) × (k < n)
  children_of j k h u =
      let g = children_facts (text_word ws) (rows_word ws) j (row_at ws j) (row_facts ws j (passes j h)).fields_fine u.holds in
      (g.after k u.low u.high, omega (arith, g.within, u.high, count_is))

  pub owns : (j : ℕ) (h : j < n) → holds_children (kind_of (row_at ws j).kind) ≡ true
      → stranger ws j (row_at ws j).first (row_at ws j).count ≡ (row_at ws j).first + (row_at ws j).count
  unfolding owns_ok
  owns j h t =
      let row = row_at ws j in
      let all = (row_facts ws j (passes j h)).owns_fine in
      eqb-true (stranger ws j row.first row.count) (row.first + row.count) (rw t at all)

  pub owner_is : (j k : ℕ) → j < n → Under ws j k → owner_at ws k ≡ j
  owner_is j k h u =
      let row = row_at ws j in
      eqb-true (owner_at ws k) j
      (not-false (eqb (owner_at ws k) j)
      (clear_below (λ i. not (eqb (owner_at ws i) j)) row.count row.first k u.low u.high (omega (arith, owns j h u.holds, u.high))))

  pub placed_at : (k : ℕ) → 0 < k → k < n → (owner_at ws k < n) × Under ws (owner_at ws k) k
  placed_at k p h =
      let g = place_facts ws k (λ e. omega arith) (row_facts ws k (passes k h)).place_fine in
      (omega (arith, g.owner_below, count_is), record { holds = g.owner_holds; low = g.from; high = g.to })

  pub before_it : (k : ℕ) → 0 < k → k < n → owner_at ws k < k
  before_it k p h = let g = placed_at k p h in (children_of (owner_at ws k) k g.0 g.1).0

  pub object_kind : (j : ℕ) → j < n → is_object ((doc_of ws ts).value j) ≡ true → is_object_kind (kind_of (row_at ws j).kind) ≡ true
  object_kind j h t =
      ap is_object_kind (sym (kind_by ts (row_at ws j).first (row_at ws j).count (kind_of (row_at ws j).kind)))
      ∙ ap is_object (sym (value_here j h))
      ∙ t
