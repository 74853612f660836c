-- What a record trailer in order tells of the words.
--     trailer_facts    its tests, as facts about numbers
--     row_inside       a row's words lie among the words
--     row_read         the words from a row's place on are the row
-- Assumes nothing.
use mathlib.Core.Bool.{true, ◌&&◌}
use mathlib.Core.List.{List}
use mathlib.Core.Path.{◌≡◌, ap}
use Prim.Native.Nat.{ℕ, ◌+◌, ◌-◌, ◌*◌, ◌≤◌, ◌<◌}
use native.Mathlib.Nat.{add-zero}
use native.Mathlib.Omega.{arith}
use lib.Dec.{eqb, leb}
use lib.ListN.{length, get_or}
use borrow.Author.Tests.{leb-true, eqb-true}
use Rattle.laws.proofs.Tests.{left, right}
use Rattle.sheet.specs.declared.record.Row.{Row}
use Rattle.sheet.specs.declared.record.RecordForm.{RecordForm}
use Rattle.sheet.specs.Record.{trailer_words, row_words, record_kind, rows_max, rows_word, back_word, kind_word, form_of, row_at}
use Rattle.sheet.specs.Faults.{words_ok}
use Rattle.sheet.specs.Accepted.{Formed}

pub record TrailerFacts (ws : List ℕ) : Type 0 where
  pub long : trailer_words ≤ length ws
  pub some : 1 ≤ rows_word ws
  pub few : rows_word ws ≤ rows_max
  pub back_is : back_word ws ≡ row_words * rows_word ws
  pub room : back_word ws + trailer_words ≤ length ws

pub trailer_facts : (ws : List ℕ) → words_ok ws ≡ true → TrailerFacts ws
unfolding words_ok
trailer_facts ws ok =
    let t1 = leb trailer_words (length ws) in
    let t2 = eqb (kind_word ws) record_kind in
    let t3 = leb 1 (rows_word ws) in
    let t4 = leb (rows_word ws) rows_max in
    let t5 = eqb (back_word ws) (row_words * rows_word ws) in
    let t6 = leb (back_word ws + trailer_words) (length ws) in
    let from2 = right t1 (t2 && (t3 && (t4 && (t5 && t6)))) ok in
    let from3 = right t2 (t3 && (t4 && (t5 && t6))) from2 in
    let from4 = right t3 (t4 && (t5 && t6)) from3 in
    let from5 = right t4 (t5 && t6) from4 in
    record {
      long = leb-true trailer_words (length ws) (left t1 (t2 && (t3 && (t4 && (t5 && t6)))) ok);
      some = leb-true 1 (rows_word ws) (left t3 (t4 && (t5 && t6)) from3);
      few = leb-true (rows_word ws) rows_max (left t4 (t5 && t6) from4);
      back_is = eqb-true (back_word ws) (row_words * rows_word ws) (left t5 t6 from5);
      room = leb-true (back_word ws + trailer_words) (length ws) (right t5 t6 from5);
    }

module _ (ws : List ℕ) (form : RecordForm) (formed : Formed ws form) where
  pub form_rows : form.rows ≡ rows_word ws
  unfolding form_of
  form_rows = ap (λ (f : RecordForm). f.rows) formed.same_form

  pub form_few : form.rows ≤ rows_max
  form_few = rw form_rows (trailer_facts ws formed.trailer).few

  pub form_start : form.start ≡ length ws - trailer_words - back_word ws
  unfolding form_of
  form_start = ap (λ (f : RecordForm). f.start) formed.same_form

  pub row_inside : (j : ℕ) → j < form.rows → form.start + row_words * j + row_words ≤ length ws
  row_inside j h =
      let t = trailer_facts ws formed.trailer in
      omega (arith, form_rows, form_start, t.long, t.back_is, t.room)

  pub rows_end : form.start + row_words * form.rows + trailer_words ≤ length ws
  rows_end =
      let t = trailer_facts ws formed.trailer in
      omega (arith, form_rows, form_start, t.long, t.back_is, t.room)

  -- the six words from `at` on, by name
  abbrev pub row_from : ℕ → Row
  row_from at =
      record {
        kind = get_or ws at 0;
        first = get_or ws (at + 1) 0;
        count = get_or ws (at + 2) 0;
        owner = get_or ws (at + 3) 0;
        label = record { start = get_or ws (at + 4) 0; length = get_or ws (at + 5) 0 };
      }

  pub row_read : (at j : ℕ) → at ≡ form.start + row_words * j → row_from at ≡ row_at ws j
  unfolding row_at
  row_read at j e = rw (e, formed.same_form, add-zero)
