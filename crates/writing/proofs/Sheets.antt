-- The whole pass: a text that can be written is read from its start, and in the end its sheet stands.
--     text_read, text_ready, sheet_stands    the theorems
-- Assumes nothing.
use mathlib.Core.List.{List}
use mathlib.Core.Logic.{⊎_elim}
use mathlib.Core.Path.{◌≡◌, ap, ◌∙◌}
use Prim.Native.Nat.{ℕ, zero, suc, ◌+◌, ◌-◌, ◌*◌, ◌≤◌, ◌<◌}
use native.Mathlib.Omega.{arith}
use lib.ListN.{length, drop, replicate, length-append, length-replicate, length-drop, get_or-eq_default}
use lib.Seq.{length-sets}
use Rattle.sheet.specs.Record.{row_words}
use Rattle.laws.proofs.Tests.{le_or_lt}
use Rattle.breadth.specs.Forest.{tree}
use Rattle.breadth.specs.Breadth.{Entry, depth}
use Rattle.breadth.specs.Sheet.{rows, text}
use Rattle.breadth.specs.Counters.{one}
use Rattle.breadth.specs.Counters as C
use Rattle.breadth.specs.Tokens.{Token, tokens, begin}
use Rattle.breadth.specs.Words.{trailer}
use Rattle.breadth.proofs.Tables.{Holds}
use Rattle.breadth.proofs.Theorems.{rows_needed, bytes_needed}
use Rattle.placing.specs.Lexemes.{text_lexemes}
use Rattle.placing.specs.Desk.{Desk, levels, acts, cleared, finished}
use Rattle.placing.proofs.Spelled.{text_spelled, text_fair}
use Rattle.placing.proofs.Theorem.{words_placed, text_placed}
use Rattle.writing.specs.Reading.{Reading, Bounded, Ready, desk_of, datum_of, Writable, Stands}

pub finished_long : (n size : ℕ) (ws : List ℕ) → length (finished n size ws) ≡ length ws
unfolding finished
finished_long n size ws = length-sets ws (row_words * n) (trailer n size)

-- no level starts behind the end
starts_climb : (v : Entry → ℕ) (ts : List Token) (k d : ℕ) → begin v ts k ≤ begin v ts (k + d)
unfolding begin
starts_climb v ts k zero = let z : k + 0 ≡ k = omega arith in rw z (omega arith)
starts_climb v ts k (suc d) = let z : k + suc d ≡ suc (k + d) = omega arith in rw z (omega (arith, starts_climb v ts k d))

starts_low : (v : Entry → ℕ) (ts : List Token) (cells : List ℕ) → Holds cells (begin v ts) levels → (most : ℕ) → begin v ts levels ≤ most → Bounded cells most
starts_low v ts cells h most l k =
    ⊎_elim
    (λ (out : levels ≤ k). rw (get_or-eq_default cells 0 {n = k} (omega (arith, h.long))) (omega arith))
    (λ (within : k < levels).
    let z : k + (levels - k) ≡ levels = omega arith in
    omega (arith, h.cell k within, starts_climb v ts k (levels - k), ap (begin v ts) z))
    (le_or_lt levels k)

module _ (json : List ℕ) (n size : ℕ) (row_starts byte_starts words room : List ℕ) (w : Writable json n size row_starts byte_starts words room) where
  pub text_read : Reading json 0 0
  text_read = record { lexemes = text_lexemes w.of; spelled = text_spelled w.of ∙ w.spelled; fair = text_fair w.of w.sayable w.shallow }

  abbrev ts : List Token
  ts = tokens (tree (datum_of w.of))

  deep : depth (tree (datum_of w.of)) ≤ levels
  deep = omega (arith, w.shallow)

  pub cleared_long : length (cleared n words) ≡ length words
  unfolding cleared
  cleared_long =
      omega (arith, length-append (replicate (row_words * n) 0) (drop (row_words * n) words), length-replicate {A = ℕ} (row_words * n) 0, length-drop (row_words * n) words, w.words_fit)

  pub text_ready : n ≤ 65_536 → size ≤ 65_536 → Ready n 0 0 row_starts byte_starts (cleared n words)
  text_ready few short =
      record {
        low = omega arith;
        rows_long = w.rows_start.long;
        bytes_long = w.bytes_start.long;
        words_long = omega (arith, cleared_long, w.words_fit);
        rows_low = starts_low one ts row_starts w.rows_start (65_536 + 0) (omega (arith, rows_needed (datum_of w.of) levels deep, w.rows_many));
        bytes_low = starts_low C.size ts byte_starts w.bytes_start (65_536 + 0) (omega (arith, bytes_needed (datum_of w.of) levels deep, w.bytes_many));
      }

  pub sheet_stands : (e : Desk) → e ≡ acts n text_read.lexemes (desk_of 0 0 0 row_starts byte_starts (cleared n words) room)
      → Stands w.of words room (finished n size e.words) e.text
  unfolding text_read
  sheet_stands e f =
      let t = w.of in
      let many = w.rows_many in
      let fit : row_words * length (rows (tree (datum_of t))) + 4 ≤ length words = rw many at w.words_fit in
      let room_fit : length (text (tree (datum_of t))) ≤ length room = rw w.bytes_many at w.text_fits in
      rw (f, w.bytes_many, many)
      (record {
        words_are = words_placed t w.shallow row_starts byte_starts words room w.rows_start w.bytes_start fit room_fit;
        text_is = text_placed t w.shallow row_starts byte_starts words room w.rows_start w.bytes_start fit room_fit;
      })
