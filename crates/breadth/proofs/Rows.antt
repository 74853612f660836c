-- The rows of any list of entries, by the entries before each.
--     entry_at, first_at, start_at    what row `length a` of a ++ e ∷ b is made from
--     owner_at                        the rows in its range name it as their owner
--     owns                            every row up to the last child but row 0 lies in its owner's range
--     row_at                          the list of rows holds them
--     label_read, string_read         the label's and the string's ranges hold their bytes
-- Assumes nothing.
use mathlib.Core.List.{List, [], ◌∷◌, ◌++◌, append_assoc}
use mathlib.Core.Logic.{⊎_elim}
use mathlib.Core.Path.{◌≡◌, refl, sym, ap, ◌∙◌}
use Prim.Native.Nat.{ℕ, zero, suc, ◌+◌, ◌-◌, ◌≤◌, ◌<◌}
use native.Mathlib.Omega.{arith}
use lib.ListN.{length, get_or, replicate, length-append, length-replicate, get_or-replicate, get_or-append}
use lib.Seq.{take-append_seam, drop_at, get_or-append_seam, get_or-append-add}
use Rattle.text.specs.Part.{part}
use Rattle.breadth.specs.Forest.{Forest}
use Rattle.breadth.specs.Breadth.{Entry, breadth}
use Rattle.breadth.specs.Sheet.{weigh, count_of, first_one_of, owners_from, owner_of, start_of, text_of, label_bytes, string_bytes, no_entry, row_of, rows_from, rows}
use Rattle.breadth.specs.Meaning.{part_at, no_row}
use Rattle.breadth.specs.Counters.{size}
use Rattle.laws.proofs.Tests.{le_or_lt}
use Rattle.breadth.proofs.Lists.{weigh_size, text_append}

module _ (a : List Entry) (e : Entry) (b : List Entry) where
  pub entry_at : get_or (a ++ e ∷ b) (length a) no_entry ≡ e
  entry_at = get_or-append_seam a e b no_entry

  pub first_at : first_one_of (a ++ e ∷ b) (length a) ≡ 1 + weigh count_of a
  first_at = rw (take-append_seam a (e ∷ b))

  pub start_at : start_of (a ++ e ∷ b) (length a) ≡ weigh size a
  start_at = rw (take-append_seam a (e ∷ b)) (sym (weigh_size a))

  -- ---- the text

  pub text_at : text_of (a ++ e ∷ b) ≡ text_of a ++ (label_bytes e.label ++ (string_bytes e.head ++ text_of b))
  unfolding text_of
  text_at = text_append a (e ∷ b) ∙ rw (append_assoc (label_bytes e.label) (string_bytes e.head) (text_of b))

  pub label_read : part_at (text_of (a ++ e ∷ b)) (length (text_of a)) (length (label_bytes e.label)) ≡ label_bytes e.label
  unfolding part
  label_read =
      rw (text_at, drop_at (text_of a) (label_bytes e.label ++ (string_bytes e.head ++ text_of b)) (length (text_of a)) refl)
      (take-append_seam (label_bytes e.label) (string_bytes e.head ++ text_of b))

  pub string_read : part_at (text_of (a ++ e ∷ b)) (length (text_of a) + length (label_bytes e.label)) (length (string_bytes e.head)) ≡ string_bytes e.head
  unfolding part
  string_read =
      rw (
        text_at,
        ← append_assoc (text_of a) (label_bytes e.label) (string_bytes e.head ++ text_of b),
        drop_at (text_of a ++ label_bytes e.label) (string_bytes e.head ++ text_of b) (length (text_of a) + length (label_bytes e.label)) (length-append (text_of a) (label_bytes e.label)),
      )
      (take-append_seam (string_bytes e.head) (text_of b))

-- ---- owners

owner_from : (a b : List Entry) (e : Entry) (i j : ℕ) → j < e.count → get_or (owners_from i (a ++ e ∷ b)) (weigh count_of a + j) 0 ≡ i + length a
unfolding weigh owners_from
owner_from [] b e i j h =
    let z : 0 + j ≡ j = omega arith in
    rw (z, get_or-append (replicate e.count i) (owners_from (suc i) b) 0 j (rw (length-replicate e.count i) h), get_or-replicate e.count j i 0 h) (omega arith)
owner_from (d ∷ a) b e i j h =
    let z : d.count + weigh count_of a + j ≡ length (replicate d.count i) + (weigh count_of a + j) = rw (length-replicate d.count i) (omega arith) in
    rw (z, get_or-append-add (replicate d.count i) (owners_from (suc i) (a ++ e ∷ b)) (weigh count_of a + j) 0) (omega (arith, owner_from a b e (suc i) j h))

pub owner_at : (a b : List Entry) (e : Entry) (j : ℕ) → j < e.count → owner_of (a ++ e ∷ b) (1 + weigh count_of a + j) ≡ length a
owner_at a b e j h =
    let z : 1 + weigh count_of a + j ≡ suc (weigh count_of a + j) = omega arith in
    rw z (omega (arith, owner_from a b e 0 j h))

-- entry `owner` has child number m of all children
pub record Owns (es : List Entry) (m : ℕ) : Type 0 where
  pub before : List Entry
  pub owner : Entry
  pub rest : List Entry
  pub is : es ≡ before ++ owner ∷ rest
  pub low : weigh count_of before ≤ m
  pub high : m < weigh count_of before + owner.count

pub owns : (es : List Entry) (m : ℕ) → m < weigh count_of es → Owns es m
unfolding weigh
owns [] m h = absurd (nothing h)
  where
    nothing : m < 0 → ⊥
    nothing z = omega arith
owns (e ∷ es) m h =
    ⊎_elim
    (λ (l : e.count ≤ m).
    let o = owns es (m - e.count) (omega arith) in
    record {
      before = e ∷ o.before;
      owner = o.owner;
      rest = o.rest;
      is = ap (λ (x : List Entry). e ∷ x) o.is;
      low = omega (arith, o.low);
      high = omega (arith, o.high);
    })
    (λ (l : m < e.count). record { before = []; owner = e; rest = es; is = refl; low = omega arith; high = omega arith })
    (le_or_lt e.count m)

-- ---- the list of rows

row_from : (es : List Entry) (i n j : ℕ) → j < n → get_or (rows_from es i n) j no_row ≡ row_of es (i + j)
unfolding rows_from
row_from es i zero j h = absurd (nothing h)
  where
    nothing : j < 0 → ⊥
    nothing z = omega arith
row_from es i (suc n) zero h = ap (row_of es) (omega arith)
row_from es i (suc n) (suc j) h = row_from es (suc i) n j (omega arith) ∙ ap (row_of es) (omega arith)

pub row_at : (es : List Entry) (j : ℕ) → j < length es → get_or (rows_from es 0 (length es)) j no_row ≡ row_of es j
row_at es j h = row_from es 0 (length es) j h ∙ ap (row_of es) (omega arith)

pub rows_long : (es : List Entry) (i n : ℕ) → length (rows_from es i n) ≡ n
unfolding rows_from
rows_long es i zero = refl
rows_long es i (suc n) = ap suc (rows_long es (suc i) n)

pub same_length : (f : Forest) → length (breadth f) ≡ length (rows f)
unfolding rows
same_length f = sym (rows_long (breadth f) 0 (length (breadth f)))
