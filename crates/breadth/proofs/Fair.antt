-- Only containers have children: so of every entry of a value, and what a row then says of its children.
--     fair_tree, fair_at                      of a value, of an entry
--     child_range, range_child, childless     the children that a row says
-- Assumes nothing.
use mathlib.Core.List.{List, [], ◌∷◌, ◌++◌}
use mathlib.Core.Path.{◌≡◌, refl}
use Prim.Native.Nat.{ℕ, zero, suc, ◌+◌, ◌-◌, ◌≤◌, ◌<◌}
use native.Mathlib.Omega.{arith}
use lib.ListN.{length, get_or}
use Rattle.jsontext.specs.Datum.{Datum, null, bool, number, string, array, object, Items, no_item, item, Fields, no_field, field}
use Rattle.breadth.specs.Forest.{Head, a_null, a_bool, a_number, a_string, an_array, an_object, Forest, empty, node, trees, head_of, children, items, fields, tree}
use Rattle.breadth.specs.Breadth.{Entry, Event, entry_of, walk, hit, on, above}
use Rattle.breadth.specs.Sheet.{no_entry}
use Rattle.sheet.specs.Doc.{first_child, child_count}
use Rattle.breadth.proofs.Readback.{read_back}

-- ---- only containers have children

abbrev pub kids : Head → ℕ → ℕ
kids a_null c = 0
kids (a_bool b) c = 0
kids (a_number d s) c = 0
kids (a_string bs) c = 0
kids an_array c = c
kids an_object c = c

abbrev pub Fair : Entry → Type 0
Fair e = kids e.head e.count ≡ e.count

abbrev pub AllFair : List Entry → Type 0
AllFair [] = Unit {0}
AllFair (e ∷ es) = Fair e × AllFair es

abbrev pub FairForest : Forest → Type 0
FairForest empty = Unit {0}
FairForest (node l h c s) = Fair (entry_of l h c) × FairForest c × FairForest s

pub fair_append : (a b : List Entry) → AllFair a → AllFair b → AllFair (a ++ b)
fair_append [] b p q = q
fair_append (e ∷ a) b p q = (p.0, fair_append a b p.1 q)

pub fair_at : (es : List Entry) (j : ℕ) → j < length es → AllFair es → Fair (get_or es j no_entry)
fair_at [] j h p = absurd (nothing h)
  where
    nothing : j < 0 → ⊥
    nothing z = omega arith
fair_at (e ∷ es) zero h p = p.0
fair_at (e ∷ es) (suc j) h p = fair_at es j (omega arith) p.1

abbrev pub FairEvents : List Event → Type 0
FairEvents [] = Unit {0}
FairEvents (x ∷ es) = Fair x.entry × FairEvents es

pub events_append : (a b : List Event) → FairEvents a → FairEvents b → FairEvents (a ++ b)
events_append [] b p q = q
events_append (e ∷ a) b p q = (p.0, events_append a b p.1 q)

pub fair_walk : (f : Forest) (k : ℕ) → FairForest f → FairEvents (walk k f)
unfolding walk
fair_walk empty k p = tt
fair_walk (node l h c s) k p = (p.0, events_append (walk (suc k) c) (walk k s) (fair_walk c (suc k) p.1) (fair_walk s k p.2))

pub fair_hit : (k : ℕ) (x : Event) → Fair x.entry → AllFair (hit k x)
fair_hit k x p = elim (lib.Dec.eqb x.level k) as (λ b. AllFair (mathlib.Core.Bool.cond b (x.entry ∷ []) [])) [ mathlib.Core.Bool.true ↦ (p, tt) | mathlib.Core.Bool.false ↦ tt ]

pub fair_on : (k : ℕ) (es : List Event) → FairEvents es → AllFair (on k es)
unfolding on
fair_on k [] p = tt
fair_on k (x ∷ es) p = fair_append (hit k x) (on k es) (fair_hit k x p.0) (fair_on k es p.1)

pub fair_above : (k : ℕ) (es : List Event) → FairEvents es → AllFair (above k es)
unfolding above
fair_above zero es p = tt
fair_above (suc k) es p = fair_append (above k es) (on k es) (fair_above k es p) (fair_on k es p)

pub fair_head : (v : Datum) → kids (head_of v) (trees (children v)) ≡ trees (children v)
fair_head null = refl
fair_head (bool b) = refl
fair_head (number z) = refl
fair_head (string bs) = refl
fair_head (array vs) = refl
fair_head (object ms) = refl

mutual
  pub fair_children : (v : Datum) → FairForest (children v)
  fair_children null = tt
  fair_children (bool b) = tt
  fair_children (number z) = tt
  fair_children (string bs) = tt
  fair_children (array vs) = fair_items vs
  fair_children (object ms) = fair_fields ms

  fair_items : (vs : Items) → FairForest (items vs)
  fair_items no_item = tt
  fair_items (item v vs) = (fair_head v, fair_children v, fair_items vs)

  fair_fields : (ms : Fields) → FairForest (fields ms)
  fair_fields no_field = tt
  fair_fields (field n v ms) = (fair_head v, fair_children v, fair_fields ms)

pub fair_tree : (v : Datum) → FairForest (tree v)
fair_tree v = (fair_head v, fair_children v, tt)

-- ---- a child by the entry's own count

pub child_range : (h : Head) (c first k : ℕ) → first_child (read_back h c first) ≤ k → k < first_child (read_back h c first) + child_count (read_back h c first)
    → (first ≤ k) × (k < first + c)
child_range a_null c first k p q = absurd (omega arith)
child_range (a_bool b) c first k p q = absurd (omega arith)
child_range (a_number d s) c first k p q = absurd (omega arith)
child_range (a_string bs) c first k p q = absurd (omega arith)
child_range an_array zero first k p q = absurd (omega arith)
child_range an_array (suc c) first k p q = (p, q)
child_range an_object zero first k p q = absurd (omega arith)
child_range an_object (suc c) first k p q = (p, q)

pub range_child : (h : Head) (c first k : ℕ) → kids h c ≡ c → first ≤ k → k < first + c
    → (first_child (read_back h c first) ≤ k) × (k < first_child (read_back h c first) + child_count (read_back h c first))
range_child a_null c first k f p q = absurd (omega arith)
range_child (a_bool b) c first k f p q = absurd (omega arith)
range_child (a_number d s) c first k f p q = absurd (omega arith)
range_child (a_string bs) c first k f p q = absurd (omega arith)
range_child an_array zero first k f p q = absurd (omega arith)
range_child an_array (suc c) first k f p q = (p, q)
range_child an_object zero first k f p q = absurd (omega arith)
range_child an_object (suc c) first k f p q = (p, q)

pub childless : (h : Head) (c first : ℕ) → child_count (read_back h c first) ≡ 0 → first_child (read_back h c first) ≡ 0
childless a_null c first p = refl
childless (a_bool b) c first p = refl
childless (a_number d s) c first p = refl
childless (a_string bs) c first p = refl
childless an_array zero first p = refl
childless an_array (suc c) first p = absurd (omega arith)
childless an_object zero first p = refl
childless an_object (suc c) first p = absurd (omega arith)
