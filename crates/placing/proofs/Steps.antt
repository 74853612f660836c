-- What is done at a lexeme is what the pass over starts and ends does, row for row and byte for byte.
--     labelled       a label's bytes
--     more_written   a string's bytes after it
--     row_begun      its row
--     row_opened     the row of a container
--     row_shut_lem   its end
-- Assumes nothing.
use mathlib.Core.Bool.{Bool, true, false, cond}
use mathlib.Core.List.{List, [], ◌∷◌, ◌++◌}
use mathlib.Core.Path.{◌≡◌, refl, sym, ap, ◌∙◌}
use Prim.Native.Nat.{ℕ, zero, suc, ◌+◌, ◌-◌, ◌≤◌, ◌<◌}
use native.Mathlib.Numerals.{add-one}
use native.Mathlib.Omega.{arith}
use borrow.Author.Tests.{eq-eqb, ne_eqb}
use lib.Dec.{eqb}
use lib.ListN.{length, get_or, set, length-set, length-append}
use lib.Seq.{sets}
use Rattle.text.specs.declared.Range.{Range}
use Rattle.sheet.specs.declared.kind.RowKind.{RowKind}
use Rattle.strings.proofs.Steps.{sets_append}
use Rattle.breadth.specs.Forest.{Label, bare, named, Head, a_string}
use Rattle.breadth.specs.Breadth.{event}
use Rattle.breadth.specs.Sheet.{KindRow, no_entry, label_bytes, string_bytes, head_kind, count_word, label_range}
use Rattle.breadth.specs.Meaning.{no_row}
use Rattle.breadth.specs.Counters.{one, size, bump, owner_by}
use Rattle.breadth.specs.Words.{words_of_row, all_words}
use Rattle.breadth.specs.Tokens.{open_first, open_row, close_row, begun}
use Rattle.breadth.proofs.Tables.{Holds, table_bump}
use Rattle.placing.specs.Desk as D
use Rattle.placing.specs.Desk.{Desk, levels, no_label, row_put, row_shut, owner_at, rowed, written, opened, shut}
use Rattle.placing.proofs.Words.{put_row, shut_row}

-- the counter of level k raised by m
abbrev raised : ℕ → ℕ → (ℕ → ℕ) → ℕ → ℕ
raised k m next j = next j + cond (eqb k j) m 0

raise : (k m : ℕ) (cells : List ℕ) (next : ℕ → ℕ) → k < levels → Holds cells next levels → Holds (set cells k (get_or cells k 0 + m)) (raised k m next) levels
unfolding bump
raise k m cells next l h = table_bump (λ e. m) cells next levels (event k no_entry) l h

holds_same : (cells : List ℕ) (f g : ℕ → ℕ) → ((j : ℕ) → f j ≡ g j) → Holds cells f levels → Holds cells g levels
holds_same cells f g e h = record { long = h.long; cell = λ (j : ℕ) (p : j < levels). h.cell j p ∙ e j }

twice : (k a b : ℕ) (next : ℕ → ℕ) (j : ℕ) → raised k b (raised k a next) j ≡ raised k (a + b) next j
twice k a b next j = go (eqb k j)
  where
    go : (t : Bool) → next j + cond t a 0 + cond t b 0 ≡ next j + cond t (a + b) 0
    go true = omega arith
    go false = omega arith

size_bumped : (k m : ℕ) (l : Label) (h : Head) (bytes : ℕ → ℕ) → length (label_bytes l ++ string_bytes h) ≡ m → (j : ℕ) → raised k m bytes j ≡ bump size bytes (begun k l h) j
unfolding bump
size_bumped k m l h bytes e j = ap (λ (x : ℕ). bytes j + cond (eqb k j) x 0) (sym e)

none_raised : (k : ℕ) (next : ℕ → ℕ) (j : ℕ) → next j ≡ raised k 0 next j
none_raised k next j = go (eqb k j)
  where
    go : (t : Bool) → next j ≡ next j + cond t 0 0
    go true = omega arith
    go false = omega arith

abbrev pub labelling : Label → Desk → Desk
labelling bare d = d
labelling (named bs) d = D.named bs d

owner_held : (k : ℕ) (rows : List ℕ) (next : ℕ → ℕ) → k < levels → Holds rows next levels → owner_at k rows ≡ owner_by k next
unfolding owner_at owner_by
owner_held zero rows next l h = refl
owner_held (suc k) rows next l h =
    rw (ne_eqb (suc k) 0 (omega arith)) (let z : suc k - 1 ≡ k = omega arith in rw z (ap (λ (x : ℕ). x - 1) (h.cell k (omega arith))))

module _ (n : ℕ) (rest : List ℕ) where
  -- the desk stands where the pass does
  pub record Sim (d : Desk) (k : ℕ) (next bytes : ℕ → ℕ) (area : List KindRow) (text : List ℕ) : Type 0 where
    pub level_is : d.level ≡ k
    pub rows_hold : Holds d.rows next levels
    pub bytes_hold : Holds d.bytes bytes levels
    pub unlabelled : d.label ≡ no_label
    pub words_are : d.words ≡ all_words area ++ rest
    pub text_is : d.text ≡ text
    pub long : length area ≡ n

  -- the same where some of a value's bytes are written: m of them, and the label waits
  pub record Begun (d : Desk) (k : ℕ) (next bytes : ℕ → ℕ) (area : List KindRow) (text bs : List ℕ) (label : Range) : Type 0 where
    pub level_is : d.level ≡ k
    pub rows_hold : Holds d.rows next levels
    pub bytes_hold : Holds d.bytes (raised k (length bs) bytes) levels
    pub label_is : d.label ≡ label
    pub words_are : d.words ≡ all_words area ++ rest
    pub text_is : d.text ≡ sets text (bytes k) bs
    pub long : length area ≡ n

  module _ (d : Desk) (k : ℕ) (next bytes : ℕ → ℕ) (area : List KindRow) (text : List ℕ) (low : k < levels) where
    pub labelled : (l : Label) → Sim d k next bytes area text → Begun (labelling l d) k next bytes area text (label_bytes l) (label_range l (bytes k))
    unfolding D.named written
    labelled bare s =
        record {
          level_is = s.level_is;
          rows_hold = s.rows_hold;
          bytes_hold = holds_same d.bytes bytes (raised k 0 bytes) (none_raised k bytes) s.bytes_hold;
          label_is = s.unlabelled;
          words_are = s.words_are;
          text_is = s.text_is;
          long = s.long;
        }
    labelled (named bs) s =
        let here : get_or d.bytes d.level 0 ≡ bytes k = rw s.level_is (s.bytes_hold.cell k low) in
        record {
          level_is = s.level_is;
          rows_hold = s.rows_hold;
          bytes_hold = rw s.level_is (raise k (length bs) d.bytes bytes low s.bytes_hold);
          label_is = rw here;
          words_are = s.words_are;
          text_is = rw (here, s.text_is);
          long = s.long;
        }

    -- where the next byte goes then
    pub next_byte : (cs : List ℕ) (label : Range) → Begun d k next bytes area text cs label → get_or d.bytes d.level 0 ≡ bytes k + length cs
    next_byte cs label s = rw s.level_is (s.bytes_hold.cell k low ∙ ap (λ (t : Bool). bytes k + cond t (length cs) 0) (eq-eqb k k refl))

    pub more_written : (cs bs : List ℕ) (label : Range) → Begun d k next bytes area text cs label → Begun (written bs d) k next bytes area text (cs ++ bs) label
    unfolding written
    more_written cs bs label s =
        let here = next_byte cs label s in
        record {
          level_is = s.level_is;
          rows_hold = s.rows_hold;
          bytes_hold =
              rw s.level_is
              (holds_same (set d.bytes k (get_or d.bytes k 0 + length bs)) (raised k (length bs) (raised k (length cs) bytes)) (raised k (length (cs ++ bs)) bytes)
              (λ (j : ℕ). twice k (length cs) (length bs) bytes j ∙ ap (λ (m : ℕ). raised k m bytes j) (sym (length-append cs bs)))
              (raise k (length bs) d.bytes (raised k (length cs) bytes) low s.bytes_hold));
          label_is = s.label_is;
          words_are = s.words_are;
          text_is = rw (here, s.text_is) (sym (sets_append text cs bs (bytes k)));
          long = s.long;
        }

    module _ (l : Label) (h : Head) where
      abbrev opened_row : KindRow
      opened_row = open_row l h (next (suc k)) (owner_by k next) (bytes k)

      -- the area with the row
      abbrev pub opened_area : List KindRow
      opened_area = set area (next k) opened_row

      pub row_begun : Begun d k next bytes area text (label_bytes l ++ string_bytes h) (label_range l (bytes k))
          → Sim (rowed n (head_kind h) (open_first h (next (suc k)) (bytes k + length (label_bytes l))) (count_word h 0) d)
          k (bump one next (begun k l h)) (bump size bytes (begun k l h)) opened_area (sets text (bytes k) (label_bytes l ++ string_bytes h))
      unfolding rowed open_row bump
      row_begun s =
          let here : get_or d.rows d.level 0 ≡ next k = rw s.level_is (s.rows_hold.cell k low) in
          record {
            level_is = s.level_is;
            rows_hold = rw s.level_is (raise k 1 d.rows next low s.rows_hold);
            bytes_hold = holds_same d.bytes (raised k (length (label_bytes l ++ string_bytes h)) bytes) (bump size bytes (begun k l h)) (size_bumped k (length (label_bytes l ++ string_bytes h)) l h bytes refl) s.bytes_hold;
            unlabelled = refl;
            words_are = rw (here, s.level_is, owner_held k d.rows next low s.rows_hold, s.label_is, s.words_are) (put_row rest n area (next k) opened_row s.long);
            text_is = s.text_is;
            long = length-set area (next k) opened_row ∙ s.long;
          }

      -- a container's row, and its children's level
      pub row_opened : (kind : RowKind) → head_kind h ≡ kind → open_first h (next (suc k)) (bytes k + length (label_bytes l)) ≡ next (suc k) → count_word h 0 ≡ 0 → suc k < levels
          → Begun d k next bytes area text (label_bytes l ++ string_bytes h) (label_range l (bytes k))
          → Sim (opened n kind d)
          (suc k) (bump one next (begun k l h)) (bump size bytes (begun k l h)) opened_area (sets text (bytes k) (label_bytes l ++ string_bytes h))
      unfolding opened rowed
      row_opened kind e f g deep s =
          let first : get_or d.rows (d.level + 1) 0 ≡ next (suc k) = rw (s.level_is, add-one k) (s.rows_hold.cell (suc k) deep) in
          let r = rw (e, f, g) at (row_begun s) in
          record {
            level_is = rw s.level_is (omega arith);
            rows_hold = r.rows_hold;
            bytes_hold = r.bytes_hold;
            unlabelled = refl;
            words_are = rw first r.words_are;
            text_is = r.text_is;
            long = r.long;
          }

    -- the end of a container at this level
    pub row_shut_lem : (up : ℕ) → k ≡ suc up → Sim d k next bytes area text
        → Sim (shut n d) up next bytes (set area (next up - 1) (close_row (get_or area (next up - 1) no_row) (next k))) text
    unfolding shut
    row_shut_lem up e s =
        let z : d.level - 1 ≡ up = omega (arith, s.level_is) in
        let r : get_or d.rows (d.level - 1) 0 ≡ next up = rw z (s.rows_hold.cell up (omega arith)) in
        let m : get_or d.rows d.level 0 ≡ next k = rw s.level_is (s.rows_hold.cell k low) in
        record {
          level_is = z;
          rows_hold = s.rows_hold;
          bytes_hold = s.bytes_hold;
          unlabelled = refl;
          words_are = rw (r, m, s.words_are) (shut_row rest n area (next up - 1) (next k) s.long);
          text_is = s.text_is;
          long = length-set area (next up - 1) (close_row (get_or area (next up - 1) no_row) (next k)) ∙ s.long;
        }
