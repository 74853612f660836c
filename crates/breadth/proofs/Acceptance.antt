-- The sheet of a value passes the record check, and means the value.
--     accepts        every line of the refusal table passes
--     means_value    row 0 of the record that the words and the text stand for means the value
-- Assumes nothing.
use mathlib.Core.Bool.{Bool, true, false, not, ◌&&◌}
use mathlib.Core.List.{List, []}
use mathlib.Core.Logic.{⊎_elim}
use mathlib.Core.Path.{◌≡◌, refl, sym, ap, ◌∙◌}
use Prim.Native.Nat.{ℕ, ◌+◌, ◌-◌, ◌*◌, ◌≤◌, ◌<◌}
use native.Mathlib.Omega.{arith}
use borrow.Author.Tests.{le-leb, eq-eqb, ne_eqb}
use lib.ListN.{length, get_or}
use Rattle.laws.specs.Lowest.{lowest}
use Rattle.laws.proofs.Tests.{le_or_lt, decide}
use Rattle.laws.proofs.Searches.{lowest_is}
use Rattle.text.specs.Part.{part}
use Rattle.names.specs.Names.{repeats_by}
use Rattle.names.proofs.Repeats.{repeats_not}
use Rattle.sheet.specs.declared.kind.RowKind.{RowKind}
use Rattle.sheet.specs.declared.kind.RowKind.TheVariants.{Null, False, True, Number, String, Array, Object}
use Rattle.sheet.specs.declared.record.Row.{Row}
use Rattle.sheet.specs.Refusals.{accepted}
use Rattle.sheet.specs.Doc as D
use Rattle.sheet.specs.Doc.{Value, is_object, first_child, child_count, Child, level}
use Rattle.sheet.specs.Record.{trailer_words, row_words, record_kind, rows_max, rows_word, back_word, text_word, kind_word, row_at, owner_at, doc_of}
use Rattle.sheet.specs.Faults.{text_max, words_ok, text_ok, at_fault, repeated, not_utf8, level_refused, too_deep, record_outcome}
use Rattle.sheet.proofs.Values.{value_in}
use Rattle.sheet.proofs.Checks.{no_line}
use Rattle.jsontext.specs.Datum.{Datum}
use Rattle.breadth.specs.Forest.{tree}
use Rattle.breadth.specs.Breadth.{depth}
use Rattle.breadth.specs.Sheet.{KindRow, rows, text}
use Rattle.breadth.specs.Meaning.{no_row, rows_doc, Shaped, Labelled, Fitting, Means, Utf8}
use Rattle.breadth.specs.Words.{worded, sheet_words}
use Rattle.breadth.proofs.Meant.{apart}
use Rattle.breadth.proofs.Shape.{well_formed, row_on, row_level}
use Rattle.breadth.proofs.Names.{labelled}
use Rattle.breadth.proofs.Readback.{means_root}
use Rattle.breadth.proofs.Readwords.{Trailed, sheet_long, trailed, row_in_is}
use Rattle.breadth.proofs.Passing.{kind_back, rows_pass}
use Rattle.breadth.proofs.Agreeing.{Agrees, means_same, level_same}
use Rattle.breadth.proofs.Spelled.{spelled}

-- a test that holds nowhere below n is found nowhere
none_found : (test : ℕ → Bool) (n : ℕ) → ((j : ℕ) → j < n → test j ≡ false) → n ≤ lowest test n
none_found test n clear = omega (arith, lowest_is test n n (omega arith) clear (λ (l : n < n). absurd (omega arith)))

no_test : {A : Type 0} → false ≡ true → A
no_test e = apart (cc)

module _ (v : Datum) (u : Fitting v) where
  abbrev rs : List KindRow
  rs = rows (tree v)

  abbrev ts : List ℕ
  ts = text (tree v)

  abbrev ws : List ℕ
  ws = sheet_words rs (length ts)

  abbrev at : ℕ → KindRow
  at j = get_or rs j no_row

  sizes : Trailed ws (length rs) (length ts)
  sizes = trailed rs (length ts)

  shape : Shaped (rows_doc rs ts) (length rs)
  shape = well_formed v

  labels : Labelled rs ts
  labels = labelled v u

  row_is : (j : ℕ) → j < length rs → row_at ws j ≡ worded (at j)
  row_is j h = row_in_is rs (length ts) j h

  -- ---- the record that the words stand for is that of the rows

  value_same : (j : ℕ) → j < length rs → (rows_doc rs ts).value j ≡ (doc_of ws ts).value j
  unfolding rows_doc
  value_same j h = sym (value_in ws ts j (omega (arith, sizes.rows_word_is)) ∙ rw (row_is j h, kind_back (at j).kind))

  pub agrees : Agrees (rows_doc rs ts) (doc_of ws ts) (length rs)
  unfolding rows_doc doc_of
  agrees =
      record {
        same_value = value_same;
        same_name = λ (j : ℕ) (h : j < length rs). ap (λ (r : Row). part ts r.label) (sym (row_is j h));
        same_owner = λ (j : ℕ) (h : j < length rs). ap (λ (r : Row). r.owner) (sym (row_is j h));
      }

  pub means_value : Means (doc_of ws ts) 0 v
  means_value = means_same (rows_doc rs ts) (doc_of ws ts) (length rs) agrees shape.child_inside v 0 shape.some (means_root v u)

  -- ---- line 1

  trailer_fits : length rs ≤ rows_max → length ts ≤ text_max → (words_ok ws && text_ok ws (length ts)) ≡ true
  unfolding words_ok
  trailer_fits few short =
      let n = length rs in
      let s = sizes in
      let some = shape.some in
      let long = sheet_long rs (length ts) in
      rw (
        le-leb trailer_words (length ws) (omega arith),
        eq-eqb (kind_word ws) record_kind s.kind_word_is,
        le-leb 1 (rows_word ws) (omega (arith, s.rows_word_is)),
        le-leb (rows_word ws) rows_max (omega (arith, s.rows_word_is)),
        eq-eqb (back_word ws) (row_words * rows_word ws) (s.back_word_is ∙ ap (λ (x : ℕ). row_words * x) (sym s.rows_word_is)),
        le-leb (back_word ws + trailer_words) (length ws) (omega (arith, s.back_word_is)),
        eq-eqb (text_word ws) (length ts) s.text_word_is,
        le-leb (length ts) text_max short,
      )

  -- ---- lines 2, 3 and 4

  row_passes : (j : ℕ) → j < rows_word ws → at_fault ws j ≡ false
  row_passes j h = ap not (rows_pass v u j (omega (arith, sizes.rows_word_is)))

  -- an object's row is of that kind
  object_row : (o : ℕ) (kind : RowKind) → (at o).kind ≡ kind → is_object ((rows_doc rs ts).value o) ≡ true → (at o).kind ≡ Object
  unfolding rows_doc
  object_row o Object e t = e
  object_row o Null e t = no_test (rw e at t)
  object_row o False e t = no_test (rw e at t)
  object_row o True e t = no_test (rw e at t)
  object_row o Number e t = no_test (rw e at t)
  object_row o String e t = no_test (rw e at t)
  object_row o Array e t = no_test (rw e at t)

  -- the names of row j's owner's children, and row j's place among them
  module _ (j : ℕ) (h : j < length rs) where
    abbrev o : ℕ
    o = (doc_of ws ts).owner j

    abbrev siblings : Value
    siblings = (doc_of ws ts).value o

    abbrev name : ℕ → List ℕ
    name i = (doc_of ws ts).name (first_child siblings + i)

    owner_is : o ≡ (rows_doc rs ts).owner j
    owner_is = sym (agrees.same_owner j h)

    -- the root's name is the first of any
    root_not : j ≡ 0 → repeats_by name (j - first_child siblings) ≡ false
    root_not z = repeats_not name (j - first_child siblings) (λ (k : ℕ) (l : k < j - first_child siblings) (e : name k ≡ name (j - first_child siblings)). omega arith)

    other_not : 0 < j → is_object siblings ≡ true → repeats_by name (j - first_child siblings) ≡ false
    other_not p t =
        let c : Child (rows_doc rs ts) ((rows_doc rs ts).owner j) j = shape.placed j p h in
        let l : (rows_doc rs ts).owner j < length rs = omega (arith, shape.owner_before j p h) in
        let q : o < length rs = omega (arith, owner_is) in
        let w : (rows_doc rs ts).value ((rows_doc rs ts).owner j) ≡ siblings = ap (rows_doc rs ts).value (sym owner_is) ∙ agrees.same_value o q in
        let kind = object_row ((rows_doc rs ts).owner j) (at ((rows_doc rs ts).owner j)).kind refl (ap is_object w ∙ t) in
        let f = ap first_child w in
        let n = ap child_count w in
        repeats_not name (j - first_child siblings)
        (λ (k : ℕ) (b : k < j - first_child siblings) (e : name k ≡ name (j - first_child siblings)).
        let x : ℕ = first_child siblings + k in
        let y : first_child siblings + (j - first_child siblings) ≡ j = omega (arith, c.after) in
        let ck : Child (rows_doc rs ts) ((rows_doc rs ts).owner j) x = record { after = omega (arith, c.after); within = omega (arith, c.within) } in
        let xs : x < length rs = shape.child_inside ((rows_doc rs ts).owner j) x l ck in
        labels.names_differ ((rows_doc rs ts).owner j) x j l kind ck c (omega arith)
        (agrees.same_name x xs ∙ e ∙ ap (doc_of ws ts).name y ∙ sym (agrees.same_name j h)))

    name_passes : repeated (doc_of ws ts) j ≡ false
    unfolding repeated
    name_passes =
        ⊎_elim
        (λ (t : is_object siblings ≡ true). rw t (⊎_elim (λ (p : 1 ≤ j). other_not p t) (λ (z : j < 1). root_not (omega arith)) (le_or_lt 1 j)))
        (λ (f : is_object siblings ≡ false). rw f)
        (decide (is_object siblings))

  owner_word : (j : ℕ) → (doc_of ws ts).owner j ≡ owner_at ws j
  unfolding doc_of
  owner_word j = refl

  level_passes : depth (tree v) < level_refused → (j : ℕ) → j < length rs → too_deep ws j ≡ false
  level_passes shallow j h =
      let on = row_on v j h in
      let l = row_level v on.0 j h on.1 in
      let same = level_same (rows_doc rs ts).owner (owner_at ws) (length rs) j owners h in
      ne_eqb (level (owner_at ws) j) level_refused (λ (e : level (owner_at ws) j ≡ level_refused). omega (arith, on.1.shallow))
    where
      owners : (i : ℕ) → i < length rs → (rows_doc rs ts).owner i ≡ owner_at ws i
      owners i q = agrees.same_owner i q ∙ owner_word i

  -- ---- line 13

  array_row : (o first count : ℕ) (kind : RowKind) → (at o).kind ≡ kind → (rows_doc rs ts).value o ≡ D.array first count → (at o).kind ≡ Array
  unfolding rows_doc
  array_row o first count Array e t = e
  array_row o first count Null e t = let c = rw e at t in no_test (cc)
  array_row o first count False e t = let c = rw e at t in no_test (cc)
  array_row o first count True e t = let c = rw e at t in no_test (cc)
  array_row o first count Number e t = let c = rw e at t in no_test (cc)
  array_row o first count String e t = let c = rw e at t in no_test (cc)
  array_row o first count Object e t = let c = rw e at t in no_test (cc)

  no_name : (k : ℕ) → (at k).label ≡ record { start = 0; length = 0 } → (rows_doc rs ts).name k ≡ []
  unfolding rows_doc part
  no_name k e = rw e

  bare : (o k first count : ℕ) → o < length rs → (rows_doc rs ts).value o ≡ D.array first count → Child (rows_doc rs ts) o k → (rows_doc rs ts).name k ≡ []
  bare o k first count l e c = no_name k (labels.items_bare o k l (array_row o first count (at o).kind refl e) c)

  text_passes : Utf8 v → (j : ℕ) → j < length rs → not_utf8 (doc_of ws ts) j ≡ false
  unfolding not_utf8
  text_passes well j h =
      let s = spelled (rows_doc rs ts) (length rs) bare shape v (means_root v u) well (no_name 0 labels.root_bare) j h in
      rw (← agrees.same_name j h, ← agrees.same_value j h, s.0, s.1)

  pub accepts : Utf8 v → length rs ≤ rows_max → length ts ≤ text_max → depth (tree v) < level_refused → record_outcome ws ts ≡ accepted (length rs)
  accepts well few short shallow =
      no_line ws ts (trailer_fits few short)
      (none_found (at_fault ws) (rows_word ws) row_passes)
      (none_found (repeated (doc_of ws ts)) (rows_word ws) (λ (j : ℕ) (h : j < rows_word ws). name_passes j (omega (arith, sizes.rows_word_is))))
      (none_found (not_utf8 (doc_of ws ts)) (rows_word ws) (λ (j : ℕ) (h : j < rows_word ws). text_passes well j (omega (arith, sizes.rows_word_is))))
      (none_found (too_deep ws) (rows_word ws) (λ (j : ℕ) (h : j < rows_word ws). level_passes shallow j (omega (arith, sizes.rows_word_is))))
      ∙ ap accepted sizes.rows_word_is
