-- A text without fault whose levels are counted can be written (writing/specs/Reading.antt).
--     rows_all, bytes_all    the counters add up to the rows and the text's bytes
--     rows_few, bytes_few    which are few
--     writable, laid         the theorems
-- Assumes nothing.
use mathlib.Core.List.{List}
use mathlib.Core.Path.{◌≡◌, ap, ◌∙◌}
use Prim.Native.Nat.{ℕ, suc, ◌+◌, ◌*◌, ◌≤◌, ◌<◌}
use native.Mathlib.Omega.{arith}
use lib.ListN.{length, get_or}
use Rattle.sheet.specs.Record.{row_words}
use Rattle.breadth.specs.Forest.{Forest, tree}
use Rattle.breadth.specs.Breadth.{depth}
use Rattle.breadth.specs.Sheet.{rows, text}
use Rattle.breadth.specs.Counters.{one, size}
use Rattle.breadth.specs.Tokens.{tokens, tally}
use Rattle.breadth.proofs.Shape.{rows_counted}
use Rattle.breadth.proofs.Theorems.{rows_needed, bytes_needed}
use Rattle.placing.specs.Desk as Desk
use Rattle.writing.specs.Reading.{Writable, Stands}
use Rattle.reader.specs.Call.{datum_of}
use Rattle.reader.proofs.Clean.{clean_text}
use Rattle.reader.proofs.Sayable.{text_sayable}
use Rattle.reader.proofs.Lengths.{made_short}
use Rattle.tally.specs.Tallying.{levels}
use Rattle.std.specs.Prelude.{Ok}
use Rattle.laying.specs.Laying.{start_at, Started, Countable, Laid}
use Rattle.laying.proofs.Starts.{start_begins, starts_hold}
use Rattle.laying.proofs.Outcomes.{all_made}

module _ (json values texts : List ℕ) (c : Countable json values texts) where
  abbrev f : Forest
  f = tree (datum_of c.of)

  pub values_long : length values ≡ levels
  values_long = c.counted.values_long

  pub texts_long : length texts ≡ levels
  texts_long = c.counted.texts_long

  deep : depth f ≤ levels
  deep = omega (arith, (clean_text c.of c.clean).shallow)

  values_are : (j : ℕ) → j < length values → get_or values j 0 ≡ tally one 0 (λ i. 0) (tokens f) j
  values_are j h = c.counted.values_are j (omega (arith, values_long))

  texts_are : (j : ℕ) → j < length texts → get_or texts j 0 ≡ tally size 0 (λ i. 0) (tokens f) j
  texts_are j h = c.counted.texts_are j (omega (arith, texts_long))

  pub rows_all : start_at values (length values) ≡ length (rows f)
  rows_all = start_begins one (tokens f) values (length values) values_are (length values) (omega arith) ∙ rows_needed (datum_of c.of) (length values) (omega (arith, deep, values_long))

  pub bytes_all : start_at texts (length texts) ≡ length (text f)
  bytes_all = start_begins size (tokens f) texts (length texts) texts_are (length texts) (omega arith) ∙ bytes_needed (datum_of c.of) (length texts) (omega (arith, deep, texts_long))

  pub rows_few : start_at values (length values) ≤ 1_024
  rows_few = omega (arith, rows_all, rows_counted f, (clean_text c.of c.clean).few)

  pub bytes_few : length json ≤ 65_536 → start_at texts (length texts) ≤ 65_536
  bytes_few l = omega (arith, bytes_all, made_short c.of, ap length c.spelled)

  -- what was added up
  module _
      (n m : ℕ) (row_starts byte_starts words room : List ℕ) (rows_sum : n ≡ start_at values (length values)) (bytes_sum : m ≡ start_at texts (length texts))
      (rows_started : Started values row_starts (suc (length values))) (bytes_started : Started texts byte_starts (suc (length texts)))
      (rows_long : length row_starts ≡ Desk.levels) (bytes_long : length byte_starts ≡ Desk.levels) (words_fit : row_words * n + 4 ≤ length words) (text_fits : m ≤ length room) where
    pub writable : Writable json n m row_starts byte_starts words room
    writable =
        record {
          of = c.of;
          spelled = c.spelled;
          sayable = text_sayable c.of c.clean;
          shallow = omega (arith, deep);
          rows_start = starts_hold one (tokens f) values row_starts values_are rows_started Desk.levels (omega (arith, values_long)) rows_long;
          bytes_start = starts_hold size (tokens f) texts byte_starts texts_are bytes_started Desk.levels (omega (arith, texts_long)) bytes_long;
          rows_many = rows_sum ∙ rows_all;
          bytes_many = bytes_sum ∙ bytes_all;
          words_fit = words_fit;
          text_fits = text_fits;
        }

    pub laid : (words' room' : List ℕ) → ((w : Writable json n m row_starts byte_starts words room) → Stands w.of words room words' room')
        → Laid c.of words room (Ok n) words' room'
    unfolding writable
    laid words' room' s = all_made c.of c.clean words room n m (rows_sum ∙ rows_all) (bytes_sum ∙ bytes_all) words_fit text_fits (s writable)
