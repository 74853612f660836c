-- The areas stay long enough, and no counter runs further than the text was read.
-- Assumes nothing.
use mathlib.Core.Bool.{Bool, true, false, cond}
use mathlib.Core.List.{List}
use mathlib.Core.Logic.{⊎_elim}
use mathlib.Core.Path.{◌≡◌, refl, ◌∙◌}
use Prim.Native.Nat.{ℕ, ◌+◌, ◌*◌, ◌≤◌, ◌<◌}
use native.Mathlib.Omega.{arith}
use lib.Dec.{ltb, leb}
use lib.ListN.{length, get_or, set, length-set}
use lib.Seq.{sets, length-sets, set_out, get_or-set_same, get_or-set_other}
use Rattle.laws.proofs.Tests.{le_or_lt}
use Rattle.sheet.specs.declared.kind.RowKind.TheVariants.{Array}
use Rattle.sheet.specs.Kinds.{kind_number}
use Rattle.sheet.specs.Record.{row_words}
use Rattle.breadth.proofs.Lists.{same_or_not}
use Rattle.placing.specs.Desk.{levels, child_words, row_put, row_shut}
use Rattle.writing.specs.Reading.{Bounded, Ready}

bounded_set : (cells : List ℕ) (most k v : ℕ) → Bounded cells most → v ≤ most → Bounded (set cells k v) most
bounded_set cells most k v b l j =
    ⊎_elim
    (λ (out : length cells ≤ k). rw (set_out cells k v out) (b j))
    (λ (within : k < length cells).
    ⊎_elim
    (λ (e : j ≡ k). rw (e, get_or-set_same cells k v 0 within) l)
    (λ (e : j ≡ k → ⊥). rw (get_or-set_other cells k j v 0 e) (b j))
    (same_or_not j k))
    (le_or_lt (length cells) k)

put_long : (n : ℕ) (ws : List ℕ) (r : ℕ) (six : List ℕ) → length (row_put n ws r six) ≡ length ws
unfolding row_put
put_long n ws r six = go (ltb r n)
  where
    go : (b : Bool) → length (cond b (sets ws (row_words * r) six) ws) ≡ length ws
    go true = length-sets ws (row_words * r) six
    go false = refl

shut_long : (n : ℕ) (ws : List ℕ) (r next : ℕ) → length (row_shut n ws r next) ≡ length ws
unfolding row_shut
shut_long n ws r next = go (ltb r n) (leb (kind_number Array) (get_or ws (row_words * r) 0))
  where
    go : (b c : Bool)
        → length (cond b (cond c (sets ws (row_words * r + 1) (child_words (get_or ws (row_words * r + 1) 0) next)) ws) ws) ≡ length ws
    go true true = length-sets ws (row_words * r + 1) (child_words (get_or ws (row_words * r + 1) 0) next)
    go true false = refl
    go false c = refl

module _ (n i k : ℕ) (rows bytes words : List ℕ) (a : Ready n i k rows bytes words) (j : ℕ) where
  pub ready_on : i ≤ j → Ready n j k rows bytes words
  ready_on l =
      record {
        low = a.low;
        rows_long = a.rows_long;
        bytes_long = a.bytes_long;
        words_long = a.words_long;
        rows_low = λ (m : ℕ). omega (arith, a.rows_low m);
        bytes_low = λ (m : ℕ). omega (arith, a.bytes_low m);
      }

  -- another level
  pub ready_level : (m : ℕ) → m < levels → i ≤ j → Ready n j m rows bytes words
  ready_level m h l =
      let b = ready_on l in
      record { low = h; rows_long = b.rows_long; bytes_long = b.bytes_long; words_long = b.words_long; rows_low = b.rows_low; bytes_low = b.bytes_low }

  -- a row was taken
  pub ready_row : (r : ℕ) (six : List ℕ) → i < j → Ready n j k (set rows k (get_or rows k 0 + 1)) bytes (row_put n words r six)
  ready_row r six l =
      let b = ready_on (omega arith) in
      record {
        low = a.low;
        rows_long = length-set rows k (get_or rows k 0 + 1) ∙ a.rows_long;
        bytes_long = a.bytes_long;
        words_long = omega (arith, put_long n words r six, a.words_long);
        rows_low = bounded_set rows (65_536 + j) k (get_or rows k 0 + 1) b.rows_low (omega (arith, a.rows_low k));
        bytes_low = b.bytes_low;
      }

  -- bytes were written
  pub ready_bytes : (b : ℕ) → b ≤ 65_536 + j → i ≤ j → Ready n j k rows (set bytes k b) words
  ready_bytes b h l =
      let c = ready_on l in
      record {
        low = a.low;
        rows_long = a.rows_long;
        bytes_long = length-set bytes k b ∙ a.bytes_long;
        words_long = a.words_long;
        rows_low = c.rows_low;
        bytes_low = bounded_set bytes (65_536 + j) k b c.bytes_low h;
      }

  -- a container was closed
  pub ready_shut : (m r next : ℕ) → m < levels → i ≤ j → Ready n j m rows bytes (row_shut n words r next)
  ready_shut m r next h l =
      let b = ready_on l in
      record {
        low = h;
        rows_long = a.rows_long;
        bytes_long = a.bytes_long;
        words_long = omega (arith, shut_long n words r next, a.words_long);
        rows_low = b.rows_low;
        bytes_low = b.bytes_low;
      }
