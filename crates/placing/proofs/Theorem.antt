-- The second pass over the lexemes of a text writes the sheet of its value.
--     words_placed, text_placed    the theorems
-- Assumes nothing.
use mathlib.Core.List.{List, [], ◌∷◌, ◌++◌, append_assoc, append-nil}
use mathlib.Core.Path.{◌≡◌, refl, sym, ap, ◌∙◌}
use Prim.Native.Nat.{ℕ, zero, suc, ◌+◌, ◌-◌, ◌*◌, ◌≤◌, ◌<◌}
use native.Mathlib.Omega.{arith}
use lib.ListN.{length, get_or, drop, set, replicate, length-append, length-drop, length-replicate, drop_of_length-le}
use lib.Seq.{sets, drop-drop}
use Rattle.sheet.specs.Kinds.{number_max}
use Rattle.sheet.specs.Record.{row_words}
use Rattle.jsontext.specs.Text.{Text}
use Rattle.jsontext.specs.Datum.{Datum}
use Rattle.jsontext.specs.Value.{value_of}
use Rattle.breadth.specs.Forest.{bare, Forest, tree}
use Rattle.breadth.specs.Breadth.{depth}
use Rattle.breadth.specs.Sheet.{KindRow, rows, text}
use Rattle.breadth.specs.Meaning.{no_row}
use Rattle.breadth.specs.Counters.{one, size}
use Rattle.breadth.specs.Words.{words_of_row, all_words, trailer, sheet_words}
use Rattle.breadth.specs.Tokens.{Token, tokens, begin, run, run_text}
use Rattle.breadth.proofs.Tables.{Holds}
use Rattle.breadth.proofs.Theorems.{rows_placed, bytes_placed}
use Rattle.placing.specs.Lexemes.{Lexeme, gaps, lexemes, text_lexemes}
use Rattle.placing.specs.Desk.{Desk, levels, no_label, acts, cleared, finished}
use Rattle.placing.proofs.Steps.{Sim}
use Rattle.placing.proofs.Passing.{Went, gaps_done, value_went}

-- ---- words

cleared_words : (n : ℕ) → all_words (replicate n no_row) ≡ replicate (row_words * n) 0
unfolding all_words no_row
cleared_words zero = refl
cleared_words (suc n) =
    let z : row_words * suc n ≡ suc (suc (suc (suc (suc (suc (row_words * n)))))) = omega arith in
    rw (z, cleared_words n)

words_long : (rs : List KindRow) → length (all_words rs) ≡ row_words * length rs
unfolding all_words
words_long [] = refl
words_long (r ∷ rs) = let z : row_words * suc (length rs) ≡ suc (suc (suc (suc (suc (suc (row_words * length rs)))))) = omega arith in rw (z, words_long rs)

-- words behind others
sets_behind : (a l : List ℕ) (i : ℕ) (vs : List ℕ) → i ≡ length a → sets (a ++ l) i vs ≡ a ++ sets l 0 vs
sets_behind [] l i vs e = rw e
sets_behind (x ∷ a) l i vs e = rw e (one_on vs (length a) (a ++ l) ∙ ap (λ (y : List ℕ). x ∷ y) (sets_behind a l (length a) vs refl))
  where
    one_on : (vs : List ℕ) (j : ℕ) (l : List ℕ) → sets (x ∷ l) (suc j) vs ≡ x ∷ sets l j vs
    one_on [] j l = refl
    one_on (v ∷ vs) j l = one_on vs (suc j) (set l j v)

four_set : (l : List ℕ) (a b c d : ℕ) → 4 ≤ length l → sets l 0 (a ∷ b ∷ c ∷ d ∷ []) ≡ a ∷ b ∷ c ∷ d ∷ drop 4 l
four_set [] a b c d h = absurd (omega arith)
four_set (w ∷ []) a b c d h = absurd (omega arith)
four_set (w ∷ x ∷ []) a b c d h = absurd (omega arith)
four_set (w ∷ x ∷ y ∷ []) a b c d h = absurd (omega arith)
four_set (w ∷ x ∷ y ∷ z ∷ l) a b c d h = refl

module _ (t : Text) where
  abbrev value : Datum
  value = value_of number_max t.root

  abbrev f : Forest
  f = tree value

  abbrev n : ℕ
  n = length (rows f)

  module _ (shallow : depth f < levels) (row_starts byte_starts words room : List ℕ)
      (rows_at : Holds row_starts (begin one (tokens f)) levels) (bytes_at : Holds byte_starts (begin size (tokens f)) levels)
      (words_fit : row_words * n + 4 ≤ length words) (text_fits : length (text f) ≤ length room) where
    -- the desk at the start
    abbrev pub desk : Desk
    desk = record { level = 0; rows = row_starts; bytes = byte_starts; label = no_label; words = cleared n words; text = room }

    abbrev rest : List ℕ
    rest = drop (row_words * n) words

    abbrev area : List KindRow
    area = replicate n no_row

    stands : Sim n rest desk 0 (begin one (tokens f)) (begin size (tokens f)) area room
    unfolding cleared
    stands =
        record {
          level_is = refl;
          rows_hold = rows_at;
          bytes_hold = bytes_at;
          unlabelled = refl;
          words_are = ap (λ (x : List ℕ). x ++ rest) (sym (cleared_words n));
          text_is = refl;
          long = length-replicate n no_row;
        }

    went : Went n rest 0 f (begin one (tokens f)) (begin size (tokens f)) area room (lexemes t.root) desk
    went = value_went n rest t.root bare 0 (begin one (tokens f)) (begin size (tokens f)) area room desk stands (omega arith)

    abbrev pub end : Desk
    end = acts n (text_lexemes t) desk

    ended : end ≡ went.desk
    unfolding text_lexemes acts
    ended =
        gaps_done n rest t.before (lexemes t.root (gaps t.behind [])) desk
        ∙ went.acted (gaps t.behind [])
        ∙ gaps_done n rest t.behind [] went.desk

    rows_are : went.area' ≡ rows f
    unfolding run
    rows_are =
        sym (went.ran [])
        ∙ ap (λ (x : List Token). run 0 (begin one (tokens f)) (begin size (tokens f)) x area) (append-nil (tokens f))
        ∙ rows_placed value area (omega (arith, length-replicate n no_row))
        ∙ ap (λ (x : List KindRow). rows f ++ x) (drop_of_length-le area {i = n} (omega (arith, length-replicate n no_row)))
        ∙ append-nil (rows f)

    text_are : went.text' ≡ text f ++ drop (length (text f)) room
    unfolding run_text
    text_are =
        sym (went.wrote []) ∙ ap (λ (x : List Token). run_text 0 (begin size (tokens f)) x room) (append-nil (tokens f)) ∙ bytes_placed value room text_fits

    pub words_placed : finished n (length (text f)) end.words ≡ sheet_words (rows f) (length (text f)) ++ drop (length (sheet_words (rows f) (length (text f)))) words
    unfolding finished sheet_words
    words_placed =
        ap (λ (x : Desk). finished n (length (text f)) x.words) ended
        ∙ ap (finished n (length (text f))) (went.sim.words_are ∙ ap (λ (x : List KindRow). all_words x ++ rest) rows_are)
        ∙ sets_behind (all_words (rows f)) rest (row_words * n) (trailer n (length (text f))) (sym (words_long (rows f)))
        ∙ ap (λ (x : List ℕ). all_words (rows f) ++ x) (four_set rest n (row_words * n) (length (text f)) 1 (omega (arith, length-drop (row_words * n) words)))
        ∙ sym (append_assoc (all_words (rows f)) (trailer n (length (text f))) (drop 4 rest))
        ∙ ap (λ (x : List ℕ). all_words (rows f) ++ trailer n (length (text f)) ++ x) (drop-drop 4 (row_words * n) words ∙ ap (λ (i : ℕ). drop i words) lengths)
      where
        lengths : row_words * n + 4 ≡ length (all_words (rows f) ++ trailer n (length (text f)))
        lengths = omega (arith, length-append (all_words (rows f)) (trailer n (length (text f))), words_long (rows f))

    pub text_placed : end.text ≡ text f ++ drop (length (text f)) room
    text_placed = ap (λ (x : Desk). x.text) ended ∙ went.sim.text_is ∙ text_are
