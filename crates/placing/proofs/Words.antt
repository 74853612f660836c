-- Rows that are written as words.
--     put_row     row r of an area that holds the words of rows takes a row's words: the words of the rows with that row
--     shut_row    and likewise where a row's children are counted
-- Assumes nothing.
use mathlib.Core.Bool.{Bool, true, false, cond}
use mathlib.Core.List.{List, [], ◌∷◌, ◌++◌}
use mathlib.Core.Logic.{⊎_elim}
use mathlib.Core.Path.{◌≡◌, refl, sym, ap, ◌∙◌}
use Prim.Native.Nat.{ℕ, zero, suc, ◌+◌, ◌-◌, ◌*◌, ◌≤◌, ◌<◌}
use native.Mathlib.Numerals.{add-one}
use native.Mathlib.Omega.{arith}
use borrow.Author.Tests.{lt-ltb, le-ltb}
use lib.Dec.{ltb, leb}
use lib.ListN.{length, get_or, set}
use lib.Seq.{sets, set_out}
use Rattle.sheet.specs.declared.kind.RowKind.{RowKind}
use Rattle.sheet.specs.declared.kind.RowKind.TheVariants.{Null, False, True, Number, String, Array, Object}
use Rattle.sheet.specs.Kinds.{kind_number}
use Rattle.sheet.specs.Record.{row_words}
use Rattle.breadth.specs.Sheet.{KindRow}
use Rattle.breadth.specs.Meaning.{no_row}
use Rattle.breadth.specs.Words.{words_of_row, all_words}
use Rattle.breadth.specs.Tokens.{close_row}
use Rattle.laws.proofs.Tests.{le_or_lt}
use Rattle.placing.specs.Desk.{row_put, child_words, row_shut}

abbrev six_on : (r : ℕ) → row_words * suc r ≡ suc (suc (suc (suc (suc (suc (row_words * r))))))
six_on r = omega arith

module _ (rest : List ℕ) where
  put_in : (rs : List KindRow) (r : ℕ) (x : KindRow) → r < length rs → sets (all_words rs ++ rest) (row_words * r) (words_of_row x) ≡ all_words (set rs r x) ++ rest
  unfolding all_words
  put_in [] r x h = absurd (omega arith)
  put_in (y ∷ rs) zero x h = refl
  put_in (y ∷ rs) (suc r) x h = rw (six_on r) (ap (λ (l : List ℕ). words_of_row y ++ l) (put_in rs r x (omega arith)))

  -- row r of n
  pub put_row : (n : ℕ) (rs : List KindRow) (r : ℕ) (x : KindRow) → length rs ≡ n → row_put n (all_words rs ++ rest) r (words_of_row x) ≡ all_words (set rs r x) ++ rest
  unfolding row_put
  put_row n rs r x e =
      ⊎_elim
      (λ (l : n ≤ r). rw (le-ltb r n l, set_out rs r x (omega arith)))
      (λ (l : r < n). rw (lt-ltb r n l) (put_in rs r x (omega arith)))
      (le_or_lt n r)

  -- what a row's children make of its words
  abbrev shutting : List ℕ → ℕ → ℕ → List ℕ
  shutting ws at next =
      cond (leb (kind_number Array) (get_or ws at 0)) (sets ws (at + 1) (child_words (get_or ws (at + 1) 0) next)) ws

  shut_first : (kind : RowKind) (y : KindRow) (l : List ℕ) (next : ℕ) → y.kind ≡ kind → shutting (words_of_row y ++ l) 0 next ≡ words_of_row (close_row y next) ++ l
  unfolding close_row
  shut_first Null y l next e = rw e
  shut_first False y l next e = rw e
  shut_first True y l next e = rw e
  shut_first Number y l next e = rw e
  shut_first String y l next e = rw e
  shut_first Array y l next e = rw e
  shut_first Object y l next e = rw e

  shut_on : (y : KindRow) (l : List ℕ) (at next : ℕ)
      → shutting (words_of_row y ++ l) (suc (suc (suc (suc (suc (suc at)))))) next ≡ words_of_row y ++ shutting l at next
  shut_on y l at next = rw (add-one, add-one) (go (leb (kind_number Array) (get_or l at 0)))
    where
      go : (b : Bool)
          → cond b (words_of_row y ++ sets l (suc at) (child_words (get_or l (suc at) 0) next)) (words_of_row y ++ l)
          ≡ words_of_row y ++ cond b (sets l (suc at) (child_words (get_or l (suc at) 0) next)) l
      go true = refl
      go false = refl

  shut_in : (rs : List KindRow) (r next : ℕ) → r < length rs
      → shutting (all_words rs ++ rest) (row_words * r) next ≡ all_words (set rs r (close_row (get_or rs r no_row) next)) ++ rest
  unfolding all_words
  shut_in [] r next h = absurd (omega arith)
  shut_in (y ∷ rs) zero next h = shut_first y.kind y (all_words rs ++ rest) next refl
  shut_in (y ∷ rs) (suc r) next h =
      rw (six_on r) (shut_on y (all_words rs ++ rest) (row_words * r) next ∙ ap (λ (l : List ℕ). words_of_row y ++ l) (shut_in rs r next (omega arith)))

  pub shut_row : (n : ℕ) (rs : List KindRow) (r next : ℕ) → length rs ≡ n
      → row_shut n (all_words rs ++ rest) r next ≡ all_words (set rs r (close_row (get_or rs r no_row) next)) ++ rest
  unfolding row_shut
  shut_row n rs r next e =
      ⊎_elim
      (λ (l : n ≤ r). rw (le-ltb r n l, set_out rs r (close_row (get_or rs r no_row) next) (omega arith)))
      (λ (l : r < n). rw (lt-ltb r n l) (shut_in rs r next (omega arith)))
      (le_or_lt n r)
