-- The words of a sheet give its rows back, and its trailer says its sizes.
--     sheet_long    the size needed
--     trailed       the trailer
--     row_in_is     the rows
-- Assumes nothing.
use mathlib.Core.List.{List, [], ◌∷◌, ◌++◌}
use mathlib.Core.Path.{◌≡◌, refl, ap, ◌∙◌}
use Prim.Native.Nat.{ℕ, zero, suc, ◌+◌, ◌-◌, ◌*◌, ◌<◌}
use native.Mathlib.Omega.{arith}
use lib.ListN.{length, get_or, length-append, get_or-append}
use lib.Seq.{get_or-append-add}
use Rattle.breadth.specs.Sheet.{KindRow}
use Rattle.breadth.specs.Meaning.{no_row}
use Rattle.sheet.specs.Record.{row_words, record_kind, from_end, rows_word, back_word, text_word, kind_word, form_of, word_at, row_at}
use Rattle.breadth.specs.Words.{worded, words_of_row, all_words, trailer, sheet_words}

words_long : (rs : List KindRow) → length (all_words rs) ≡ 6 * length rs
unfolding all_words
words_long [] = refl
words_long (r ∷ rs) = omega (arith, words_long rs)

pub sheet_long : (rs : List KindRow) (size : ℕ) → length (sheet_words rs size) ≡ 6 * length rs + 4
unfolding sheet_words
sheet_long rs size = length-append (all_words rs) (trailer (length rs) size) ∙ omega (arith, words_long rs)

-- word i of the trailer
trailer_word : (rs : List KindRow) (size i back : ℕ) → back + i ≡ 4 → from_end (sheet_words rs size) back ≡ get_or (trailer (length rs) size) i 0
unfolding sheet_words
trailer_word rs size i back e =
    let z : length (sheet_words rs size) - back ≡ length (all_words rs) + i = omega (arith, sheet_long rs size, words_long rs) in
    ap (λ (x : ℕ). get_or (sheet_words rs size) x 0) z ∙ get_or-append-add (all_words rs) (trailer (length rs) size) i 0

pub record Trailed (ws : List ℕ) (n size : ℕ) : Type 0 where
  pub rows_word_is : rows_word ws ≡ n
  pub back_word_is : back_word ws ≡ row_words * n
  pub text_word_is : text_word ws ≡ size
  pub kind_word_is : kind_word ws ≡ record_kind

pub trailed : (rs : List KindRow) (size : ℕ) → Trailed (sheet_words rs size) (length rs) size
trailed rs size =
    record {
      rows_word_is = trailer_word rs size 0 4 refl;
      back_word_is = trailer_word rs size 1 3 refl;
      text_word_is = trailer_word rs size 2 2 refl;
      kind_word_is = trailer_word rs size 3 1 refl;
    }

row_word : (rs : List KindRow) (rest : List ℕ) (j i : ℕ) → j < length rs → i < 6 → get_or (all_words rs ++ rest) (6 * j + i) 0 ≡ get_or (words_of_row (get_or rs j no_row)) i 0
unfolding all_words
row_word [] rest j i p q = absurd (omega arith)
row_word (r ∷ rs) rest zero i p q =
    let z : 6 * 0 + i ≡ i = omega arith in
    rw z (get_or-append (words_of_row r ++ all_words rs) rest 0 i (omega (arith, length-append (words_of_row r) (all_words rs))) ∙ get_or-append (words_of_row r) (all_words rs) 0 i q)
row_word (r ∷ rs) rest (suc j) i p q =
    let z : 6 * suc j + i ≡ 6 + (6 * j + i) = omega arith in
    rw z (get_or-append-add (words_of_row r) (all_words rs ++ rest) (6 * j + i) 0 ∙ row_word rs rest j i (omega arith) q)

word_is : (rs : List KindRow) (size j i : ℕ) → j < length rs → i < 6 → word_at (sheet_words rs size) j i ≡ get_or (words_of_row (get_or rs j no_row)) i 0
unfolding form_of
word_is rs size j i p q =
    let z : length (sheet_words rs size) - 4 - back_word (sheet_words rs size) + 6 * j + i ≡ 6 * j + i = omega (arith, sheet_long rs size, (trailed rs size).back_word_is) in
    ap (λ (x : ℕ). get_or (sheet_words rs size) x 0) z ∙ (unfold sheet_words in row_word rs (trailer (length rs) size) j i p q)

pub row_in_is : (rs : List KindRow) (size j : ℕ) → j < length rs → row_at (sheet_words rs size) j ≡ worded (get_or rs j no_row)
unfolding row_at
row_in_is rs size j p =
    λ i.
    record {
      kind = word_is rs size j 0 p (omega arith) i;
      first = word_is rs size j 1 p (omega arith) i;
      count = word_is rs size j 2 p (omega arith) i;
      owner = word_is rs size j 3 p (omega arith) i;
      label = record { start = word_is rs size j 4 p (omega arith) i; length = word_is rs size j 5 p (omega arith) i };
    }
