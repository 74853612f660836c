-- What the tests of a row tell, as facts about numbers. A row here is the row at j of words with n rows and a text of `size` bytes.
--     row_facts          a row that passes has passed each of the three tests
--     children_facts     an array's or an object's children lie within the rows and after it
--     owner_inside       the owner that a row names is a row
--     label_fits         its label lies within the text
--     row_test           the three tests, by what was read
-- Assumes nothing.
use mathlib.Core.Bool.{true, ◌&&◌}
use mathlib.Core.List.{List}
use mathlib.Core.Logic.{⊎_elim}
use mathlib.Core.Path.{◌≡◌, refl}
use Prim.Native.Nat.{ℕ, ◌+◌, ◌≤◌, ◌<◌}
use native.Mathlib.Nat.{eq-zero-or-pos}
use native.Mathlib.Omega.{arith}
use lib.Dec.{eqb, leb, ltb}
use borrow.Author.Tests.{leb-true, ltb-true, eqb-true, eq-eqb, ne_eqb}
use Rattle.laws.proofs.Tests.{left, right, either}
use Rattle.text.specs.declared.Range.{Range}
use Rattle.text.specs.Part.{fits}
use Rattle.text.proofs.Ranges.{le_fits}
use Rattle.sheet.specs.declared.kind.RowKind.{RowKind}
use Rattle.sheet.specs.declared.kind.RowKind.TheVariants.{Null, False, True, Number, String, Array, Object}
use Rattle.sheet.specs.declared.record.Row.{Row}
use Rattle.sheet.specs.declared.record.RecordForm.{RecordForm}
use Rattle.sheet.specs.Kinds.{is_kind, kind_of, holds_children}
use Rattle.sheet.specs.Record.{rows_word, text_word, row_at, owner_at}
use Rattle.sheet.specs.Faults.{none, children_ok, content_ok, fields_ok, label_ok, placed_under, root_ok, place_ok, owns_ok, row_ok}
use Rattle.sheet.specs.Accepted.{Formed}
use Rattle.sheet.proofs.Trailers.{form_rows}

pub record RowFacts (ws : List ℕ) (j : ℕ) : Type 0 where
  pub fields_fine : fields_ok (text_word ws) (rows_word ws) j (row_at ws j) ≡ true
  pub place_fine : place_ok ws j (row_at ws j) ≡ true
  pub owns_fine : owns_ok ws j (row_at ws j) ≡ true

pub row_facts : (ws : List ℕ) (j : ℕ) → row_ok ws j ≡ true → RowFacts ws j
unfolding row_ok
row_facts ws j ok =
    let t1 = fields_ok (text_word ws) (rows_word ws) j (row_at ws j) in
    let t2 = place_ok ws j (row_at ws j) in
    let t3 = owns_ok ws j (row_at ws j) in
    let rest = right t1 (t2 && t3) ok in
    record { fields_fine = left t1 (t2 && t3) ok; place_fine = left t2 t3 rest; owns_fine = right t2 t3 rest }

-- ---- children

pub record ChildrenFacts (n j first count : ℕ) : Type 0 where
  pub within : first + count ≤ n
  pub after : (k : ℕ) → first ≤ k → k < first + count → j < k

no_children : (n j first count : ℕ) → none first count ≡ true → ChildrenFacts n j first count
no_children n j first count t =
    let a = eqb-true first 0 (left (eqb first 0) (eqb count 0) t) in
    let b = eqb-true count 0 (right (eqb first 0) (eqb count 0) t) in
    record { within = omega arith; after = λ (k : ℕ) (l : first ≤ k) (h : k < first + count). omega arith }

some_children : (n j first count : ℕ) → (ltb 0 count && (ltb j first && leb (first + count) n)) ≡ true → ChildrenFacts n j first count
some_children n j first count t =
    let rest = right (ltb 0 count) (ltb j first && leb (first + count) n) t in
    let a = ltb-true j first (left (ltb j first) (leb (first + count) n) rest) in
    let b = leb-true (first + count) n (right (ltb j first) (leb (first + count) n) rest) in
    record { within = b; after = λ (k : ℕ) (l : first ≤ k) (h : k < first + count). omega arith }

children_numbers : (n j first count : ℕ) → children_ok n j first count ≡ true → ChildrenFacts n j first count
children_numbers n j first count t =
    ⊎_elim (no_children n j first count) (some_children n j first count)
    (either (none first count) (ltb 0 count && (ltb j first && leb (first + count) n)) t)

content_children : (kind : RowKind) (size n j first count : ℕ) → holds_children kind ≡ true → content_ok kind size n j first count ≡ true → children_ok n j first count ≡ true
content_children Null size n j first count h t = cc
content_children False size n j first count h t = cc
content_children True size n j first count h t = cc
content_children Number size n j first count h t = cc
content_children String size n j first count h t = cc
content_children Array size n j first count h t = t
content_children Object size n j first count h t = t

pub children_facts : (size n j : ℕ) (row : Row) → fields_ok size n j row ≡ true → holds_children (kind_of row.kind) ≡ true → ChildrenFacts n j row.first row.count
children_facts size n j row t h =
    children_numbers n j row.first row.count
    (content_children (kind_of row.kind) size n j row.first row.count h
    (right (is_kind row.kind) (content_ok (kind_of row.kind) size n j row.first row.count) t))

-- ---- place

label_holds : (kind : RowKind) (size : ℕ) (label : Range) → label_ok kind size label ≡ true → holds_children kind ≡ true
label_holds Null size label t = cc
label_holds False size label t = cc
label_holds True size label t = cc
label_holds Number size label t = cc
label_holds String size label t = cc
label_holds Array size label t = refl
label_holds Object size label t = refl

none_fits : (size : ℕ) (label : Range) → none label.start label.length ≡ true → fits size label ≡ true
none_fits size label t =
    let a = eqb-true label.start 0 (left (eqb label.start 0) (eqb label.length 0) t) in
    let b = eqb-true label.length 0 (right (eqb label.start 0) (eqb label.length 0) t) in
    le_fits size label (omega arith)

label_within : (kind : RowKind) (size : ℕ) (label : Range) → label_ok kind size label ≡ true → fits size label ≡ true
label_within Null size label t = cc
label_within False size label t = cc
label_within True size label t = cc
label_within Number size label t = cc
label_within String size label t = cc
label_within Array size label t = none_fits size label t
label_within Object size label t = t

-- where a row that is not the root lies
pub record PlaceFacts (ws : List ℕ) (j : ℕ) : Type 0 where
  pub owner_below : owner_at ws j < rows_word ws
  pub owner_holds : holds_children (kind_of (row_at ws (owner_at ws j)).kind) ≡ true
  pub from : (row_at ws (owner_at ws j)).first ≤ j
  pub to : j < (row_at ws (owner_at ws j)).first + (row_at ws (owner_at ws j)).count
  pub label_in : fits (text_word ws) (row_at ws j).label ≡ true

module _ (ws : List ℕ) (j : ℕ) where
  root_test : j ≡ 0 → place_ok ws j (row_at ws j) ≡ true → root_ok (row_at ws j) ≡ true
  unfolding place_ok
  root_test e t = rw (eq-eqb j 0 e) at t

  other_test : (j ≡ 0 → ⊥) → place_ok ws j (row_at ws j) ≡ true
      → (ltb (owner_at ws j) (rows_word ws) && placed_under (row_at ws (owner_at ws j)) j (text_word ws) (row_at ws j).label) ≡ true
  unfolding place_ok
  other_test e t = rw (ne_eqb j 0 e) at t

  pub place_facts : (j ≡ 0 → ⊥) → place_ok ws j (row_at ws j) ≡ true → PlaceFacts ws j
  place_facts e t =
      let owner = row_at ws (owner_at ws j) in
      let label = (row_at ws j).label in
      let t1 = ltb (owner_at ws j) (rows_word ws) in
      let t2 = label_ok (kind_of owner.kind) (text_word ws) label in
      let t3 = leb owner.first j in
      let t4 = ltb j (owner.first + owner.count) in
      let all = other_test e t in
      let under = right t1 (t2 && (t3 && t4)) all in
      let labelled = left t2 (t3 && t4) under in
      let placed = right t2 (t3 && t4) under in
      record {
        owner_below = ltb-true (owner_at ws j) (rows_word ws) (left t1 (t2 && (t3 && t4)) all);
        owner_holds = label_holds (kind_of owner.kind) (text_word ws) label labelled;
        from = leb-true owner.first j (left t3 t4 placed);
        to = ltb-true j (owner.first + owner.count) (right t3 t4 placed);
        label_in = label_within (kind_of owner.kind) (text_word ws) label labelled;
      }

  -- the root names itself and has no label
  pub root_owner : j ≡ 0 → place_ok ws j (row_at ws j) ≡ true → owner_at ws j ≡ 0
  root_owner e t =
      let row = row_at ws j in
      eqb-true row.owner 0 (left (eqb row.owner 0) (none row.label.start row.label.length) (root_test e t))

  root_label : j ≡ 0 → place_ok ws j (row_at ws j) ≡ true → fits (text_word ws) (row_at ws j).label ≡ true
  root_label e t =
      let row = row_at ws j in
      none_fits (text_word ws) row.label (right (eqb row.owner 0) (none row.label.start row.label.length) (root_test e t))

  pub owner_inside : j < rows_word ws → row_ok ws j ≡ true → owner_at ws j < rows_word ws
  owner_inside h ok =
      let t = (row_facts ws j ok).place_fine in
      ⊎_elim
      (λ (e : j ≡ 0). let z = root_owner e t in omega arith)
      (λ (p : 0 < j). (place_facts (λ e. omega arith) t).owner_below)
      (eq-zero-or-pos j)

  pub label_fits : row_ok ws j ≡ true → fits (text_word ws) (row_at ws j).label ≡ true
  label_fits ok =
      let t = (row_facts ws j ok).place_fine in
      ⊎_elim
      (λ (e : j ≡ 0). root_label e t)
      (λ (p : 0 < j). (place_facts (λ e. omega arith) t).label_in)
      (eq-zero-or-pos j)

-- the three tests of a row, by the form and the row that were read
pub row_test : (ws : List ℕ) (form : RecordForm) (size j : ℕ) (row : Row) → Formed ws form → size ≡ text_word ws → row ≡ row_at ws j
    → row_ok ws j ≡ (fields_ok size form.rows j row && (place_ok ws j row && owns_ok ws j row))
unfolding row_ok
row_test ws form size j row formed text read = rw (text, read, form_rows ws form formed)
