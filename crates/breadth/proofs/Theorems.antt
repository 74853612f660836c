-- The theorems over JSON values, in one place. That the sheet is accepted and means the value is in `Acceptance`.
-- Assumes nothing.
use mathlib.Core.List.{List, ◌++◌}
use mathlib.Core.Path.{◌≡◌, refl, sym}
use Prim.Native.Nat.{ℕ, suc, ◌+◌, ◌*◌, ◌≤◌, ◌<◌}
use native.Mathlib.Omega.{arith}
use lib.ListN.{length, get_or, drop}
use Rattle.jsontext.specs.Datum.{Datum}
use Rattle.breadth.specs.Forest.{values, tree}
use Rattle.breadth.specs.Breadth.{Entry, Event, event, walk, above, depth, breadth, levelwise, queue}
use Rattle.breadth.specs.Sheet.{KindRow, rows, text}
use Rattle.sheet.specs.Doc as D
use Rattle.sheet.specs.Doc.{Doc}
use Rattle.breadth.specs.Meaning.{no_row, rows_doc, Shaped, Labelled, Fitting, Means}
use Rattle.breadth.specs.Counters.{one, size, row_by}
use Rattle.breadth.specs.Tokens.{Token, tokens, begin, run, run_text}
use Rattle.sheet.specs.Record.{row_words, trailer_words}
use Rattle.breadth.specs.Words.{sheet_words}
use Rattle.breadth.proofs.Lists.{weigh_one}
use Rattle.breadth.proofs.Walks.{Splits}
use Rattle.breadth.proofs.Places.{row, in_range, not_deep}
use Rattle.breadth.proofs.Rows.{same_length}
use Rattle.breadth.proofs.Passes.{now, taken}
use Rattle.breadth.proofs.Numbers.{in_level}
use Rattle.breadth.proofs.Levels.{by_levels, by_queue}
use Rattle.breadth.proofs.Shape.{rows_counted, well_formed, row_on, row_level}
use Rattle.breadth.proofs.Readback.{means_root}
use Rattle.breadth.proofs.Meant.{means_one}
use Rattle.breadth.proofs.Names.{labelled}
use Rattle.breadth.proofs.Readwords.{sheet_long}
use Rattle.breadth.proofs.Tallies.{sizes, rows_read, text_read}

module _ (v : Datum) where
  -- the record that the rows and the text stand for
  abbrev pub doc : Doc
  doc = rows_doc (rows (tree v)) (text (tree v))

  -- ---- the order: by level and place in the text, level by level, and by a queue

  pub order_levels : breadth (tree v) ≡ levelwise (depth (tree v)) (tree v)
  order_levels = by_levels (tree v)

  pub order_queue : breadth (tree v) ≡ queue (values (tree v)) (tree v)
  order_queue = sym (by_queue (tree v))

  -- ---- the sheet

  pub row_count : length (rows (tree v)) ≡ values (tree v)
  row_count = rows_counted (tree v)

  pub shape : Shaped doc (length (rows (tree v)))
  shape = well_formed v

  pub labels : Fitting v → Labelled (rows (tree v)) (text (tree v))
  labels u = labelled v u

  pub no_deeper : (r : ℕ) → r < length (rows (tree v)) → D.level doc.owner r ≤ depth (tree v)
  no_deeper r h =
      let o = row_on v r h in
      omega (arith, row_level v o.0 r h o.1, o.1.shallow)

  -- a value's row is as many levels deep, by owners, as the value
  pub depths : (pre post : List Event) (k : ℕ) (e : Entry) (h : Splits (tree v) 0 pre k e post) → D.level doc.owner (row (tree v) pre post k e h) ≡ k + 1
  depths pre post k e h =
      let f = tree v in
      row_level v k (row f pre post k e h) (omega (arith, in_range f pre post k e h, same_length f))
      (record {
        low = omega (arith, weigh_one (above k (walk 0 f)));
        below = omega (arith, in_level f pre post k e h, weigh_one (above (suc k) (walk 0 f)));
        shallow = not_deep f pre post k e h;
      })

  -- the words that the sheet is written as, and its rows read back from them
  abbrev pub words : List ℕ
  words = sheet_words (rows (tree v)) (length (text (tree v)))

  pub words_needed : length words ≡ row_words * length (rows (tree v)) + trailer_words
  words_needed = sheet_long (rows (tree v)) (length (text (tree v)))

  -- no other value is meant
  pub meaning_only : Fitting v → (w : Datum) → Means doc 0 w → w ≡ v
  meaning_only u w m = means_one doc w v 0 m (means_root v u)

  -- ---- the counters when a value starts: what is written there is the row, at its place

  pub at_start : (pre post : List Event) (k : ℕ) (e : Entry) → Splits (tree v) 0 pre k e post
      → get_or (rows (tree v)) (now one (walk 0 (tree v)) pre k) no_row ≡ row_by (now one (walk 0 (tree v)) pre) (now size (walk 0 (tree v)) pre) (event k e)
  at_start pre post k e h = taken (tree v) refl pre post k e h

  -- ---- two passes over starts and ends, with counters for d levels

  abbrev pub ts : List Token
  ts = tokens (tree v)

  pub rows_needed : (d : ℕ) → depth (tree v) ≤ d → begin one ts d ≡ length (rows (tree v))
  rows_needed d p = (sizes (tree v) d p).0

  pub bytes_needed : (d : ℕ) → depth (tree v) ≤ d → begin size ts d ≡ length (text (tree v))
  bytes_needed d p = (sizes (tree v) d p).1

  pub rows_placed : (area : List KindRow) → length (rows (tree v)) ≤ length area
      → run 0 (begin one ts) (begin size ts) ts area ≡ rows (tree v) ++ drop (length (rows (tree v))) area
  rows_placed area room = rows_read (tree v) refl area room

  pub bytes_placed : (area : List ℕ) → length (text (tree v)) ≤ length area
      → run_text 0 (begin size ts) ts area ≡ text (tree v) ++ drop (length (text (tree v))) area
  bytes_placed area room = text_read (tree v) area room
