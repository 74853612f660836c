-- The cells: what one says, which one is a pair's, and how many are settled or marked.
--     verd_write, bit_write, write_small                        a mark that is written over another
--     verd_settle, bit_settle, settle_small, settle_fits        a verdict that is written over none
--     settled_as_some, settled_as_read                          the verdict of a settled pair, and reading it back
--     whole, zero_verd, zero_bit                                a cell is its verdict and its mark
--     same_row, same_rule                                       the row and the schema that a cell is of
--     settled-le, -room, -set, -same, -blank                    how many pairs are settled
--     Counted, counted_none, counted_more, counted_end          how many rows are marked, as a loop counts them
--     cleared_more, cleared_end                                 cells that are cleared one after the other
-- Assumes nothing.
use mathlib.Core.Bool.{Bool, true, false}
use mathlib.Core.List.{List, [], ◌∷◌}
use mathlib.Core.Logic.{⊎_elim}
use mathlib.Core.Path.{◌≡◌, refl, sym, ap, ◌∙◌}
use Prim.Native.Nat.{ℕ, zero, suc, ◌+◌, ◌*◌, ◌-◌, ◌/◌, ◌%◌, ◌≤◌, ◌<◌}
use native.Mathlib.Omega.{arith}
use lib.Dec.{eqb}
use lib.ListN.{length, get_or, set, get_or-eq_default}
use lib.Seq.{get_or-set_same, get_or-set_other}
use borrow.Author.Count.{below_more}
use borrow.Author.Tests.{eq-eqb, ne_eqb, lt-ltb, le-ltb}
use Rattle.laws.proofs.Tests.{le_or_lt, decide}
use Rattle.meaning.specs.Lists.{range, keep}
use Rattle.meaning.specs.Settling.{shown}
use Rattle.meaning.proofs.Words.{row_of, rule_of}
use Rattle.areas.specs.Cells.{cell_of, verd, bit, four, settled_as, column, marked_by, Cleared, plus}

-- ---- one cell

pub verd_write : (x : ℕ) (b : Bool) → verd (verd x + four b) ≡ verd x
unfolding verd four
verd_write x true = omega arith
verd_write x false = omega arith

pub bit_write : (x : ℕ) (b : Bool) → bit (verd x + four b) ≡ b
unfolding verd four bit
bit_write x true = lt-ltb 3 (x % 4 + 4) (omega arith)
bit_write x false = le-ltb 3 (x % 4 + 0) (omega arith)

pub write_small : (x : ℕ) (b : Bool) → verd x + four b < 8
unfolding verd four
write_small x true = omega arith
write_small x false = omega arith

pub verd_settle : (x : ℕ) (b : Bool) → verd x ≡ 0 → verd (x + settled_as b) ≡ settled_as b
unfolding verd settled_as
verd_settle x true e = omega arith
verd_settle x false e = omega arith

pub bit_settle : (x : ℕ) (b : Bool) → verd x ≡ 0 → bit (x + settled_as b) ≡ bit x
unfolding verd settled_as bit
bit_settle x b e = ⊎_elim (λ h. le-ltb 3 (x + settled_as b) (low b h) ∙ sym (le-ltb 3 x h)) (λ h. lt-ltb 3 (x + settled_as b) (omega arith) ∙ sym (lt-ltb 3 x h)) (le_or_lt x 3)
  where
    low : (b : Bool) → x ≤ 3 → x + settled_as b ≤ 3
    low true h = omega arith
    low false h = omega arith

pub settle_small : (x : ℕ) (b : Bool) → verd x ≡ 0 → x < 8 → x + settled_as b < 8
unfolding verd settled_as
settle_small x true e h = omega arith
settle_small x false e h = omega arith

-- whatever byte it was
pub settle_fits : (x : ℕ) (b : Bool) → verd x ≡ 0 → x < 256 → x + settled_as b < 256
unfolding verd settled_as
settle_fits x true e h = omega arith
settle_fits x false e h = omega arith

pub settled_as_some : (b : Bool) → settled_as b ≡ 0 → ⊥
unfolding settled_as
settled_as_some true e = omega arith
settled_as_some false e = omega arith

pub settled_as_read : (b : Bool) (x : ℕ) → x ≡ settled_as b → eqb x 1 ≡ b
unfolding settled_as
settled_as_read true x e = eq-eqb x 1 e
settled_as_read false x e = ne_eqb x 1 (λ z. omega arith)

pub whole : (x : ℕ) → x < 8 → x ≡ verd x + four (bit x)
unfolding verd four bit
whole x h = ⊎_elim (λ (g : x ≤ 3). rw (le-ltb 3 x g) (omega arith)) (λ (g : 3 < x). rw (lt-ltb 3 x g) (omega arith)) (le_or_lt x 3)

pub zero_verd : (x : ℕ) → x ≡ 0 → verd x ≡ 0
unfolding verd
zero_verd x e = omega arith

pub zero_bit : (x : ℕ) → x ≡ 0 → bit x ≡ false
unfolding bit
zero_bit x e = le-ltb 3 x (omega arith)

-- ---- the cell of a pair

module _ (m j s k t : ℕ) (g : s < m) (h : t < m) (e : cell_of m j s ≡ cell_of m k t) where
  pub same_row : j ≡ k
  same_row = sym (row_of m j s g) ∙ ap (λ (x : ℕ). x / m) e ∙ row_of m k t h

  pub same_rule : s ≡ t
  same_rule = sym (rule_of m j s g) ∙ ap (λ (x : ℕ). x % m) e ∙ rule_of m k t h

-- ---- how many are settled

pub settled_le : (l : List ℕ) → shown l ≤ length l
unfolding shown verd
settled_le [] = omega arith
settled_le (x ∷ l) = let h = settled_le l in ⊎_elim (λ e. rw e (omega arith)) (λ e. rw e (omega arith)) (decide (eqb (verd x) 0))

-- while one is not, there is room for it among as many
pub settled_room : (l : List ℕ) (k : ℕ) → k < length l → verd (get_or l k 0) ≡ 0 → shown l < length l
unfolding shown verd
settled_room [] k h e = omega arith
settled_room (x ∷ l) zero h e = let g = settled_le l in rw (eq-eqb (verd x) 0 e) (omega arith)
settled_room (x ∷ l) (suc k) h e =
    let g = settled_room l k (omega arith) e in
    ⊎_elim (λ d. rw d (omega arith)) (λ d. rw d (omega arith)) (decide (eqb (verd x) 0))

pub settled_set : (l : List ℕ) (k v : ℕ) → k < length l → verd (get_or l k 0) ≡ 0 → (verd v ≡ 0 → ⊥) → shown (set l k v) ≡ shown l + 1
unfolding shown verd
settled_set [] k v h e f = omega arith
settled_set (x ∷ l) zero v h e f = rw (eq-eqb (verd x) 0 e, ne_eqb (verd v) 0 f) (omega arith)
settled_set (x ∷ l) (suc k) v h e f = let g = settled_set l k v (omega arith) e f in omega arith

-- the verdicts alone say it
pub settled_same : (l l' : List ℕ) → length l ≡ length l' → ((i : ℕ) → verd (get_or l i 0) ≡ verd (get_or l' i 0)) → shown l ≡ shown l'
unfolding shown verd
settled_same [] [] e f = refl
settled_same [] (x ∷ l') e f = omega arith
settled_same (x ∷ l) [] e f = omega arith
settled_same (x ∷ l) (y ∷ l') e f =
    let a : verd x ≡ verd y = f 0 in
    rw (a, settled_same l l' (omega arith) (λ i. f (suc i)))

pub settled_blank : (l : List ℕ) → ((i : ℕ) → get_or l i 0 ≡ 0) → shown l ≡ 0
unfolding shown verd
settled_blank [] f = refl
settled_blank (x ∷ l) f = let z : x ≡ 0 = f 0 in rw (z, settled_blank l (λ i. f (suc i)))

-- ---- how many are marked

-- n were counted among the first i of the rows: with those that are left they are all
pub record Counted (m : ℕ) (cells : List ℕ) (first many i n : ℕ) : Type 0 where
  pub most : n ≤ i
  pub rest : n + marked_by m cells (first + i) (many - i) ≡ marked_by m cells first many

module _ (m : ℕ) (cells : List ℕ) (first many : ℕ) where
  pub counted_none : Counted m cells first many 0 0
  counted_none = let a : first + 0 ≡ first = omega arith in let b : many - 0 ≡ many = omega arith in record { most = omega arith; rest = rw (a, b) (omega arith) }

  step : (i n : ℕ) (b : Bool) → i < many → column m cells 0 (first + i) ≡ b → n + marked_by m cells (first + i) (many - i) ≡ plus n b + marked_by m cells (first + (i + 1)) (many - (i + 1))
  unfolding marked_by range keep plus
  step i n true h e =
      let a : many - i ≡ suc (many - (i + 1)) = omega arith in
      let d : first + (i + 1) ≡ suc (first + i) = omega arith in
      rw (a, d, e) (omega arith)
  step i n false h e =
      let a : many - i ≡ suc (many - (i + 1)) = omega arith in
      let d : first + (i + 1) ≡ suc (first + i) = omega arith in
      rw (a, d, e)

  plus_most : (n i : ℕ) (b : Bool) → n ≤ i → plus n b ≤ i + 1
  unfolding plus
  plus_most n i true h = omega arith
  plus_most n i false h = omega arith

  pub counted_more : {i n r x : ℕ} (b : Bool) → Counted m cells first many i n → i < many → x ≡ cell_of m (first + i) 0 → b ≡ bit (get_or cells x 0) → r ≡ plus n b → Counted m cells first many (i + 1) r
  counted_more {i} {n} b c h e d p =
      let here : column m cells 0 (first + i) ≡ b = sym (d ∙ ap (λ (y : ℕ). bit (get_or cells y 0)) e) in
      rw p (record { most = plus_most n i b c.most; rest = sym (step i n b h here) ∙ c.rest })

  pub counted_end : {i n : ℕ} → Counted m cells first many i n → many ≤ i → n ≡ marked_by m cells first many
  unfolding marked_by range keep
  counted_end {i} {n} c h = let a : many - i ≡ 0 = omega arith in let b = rw a at c.rest in omega arith

-- ---- clearing

pub cleared_more : (cells : List ℕ) (i : ℕ) → i < length cells → ((k : ℕ) → k < i → get_or cells k 0 ≡ 0) → (k : ℕ) → k < i + 1 → get_or (set cells i 0) k 0 ≡ 0
cleared_more cells i h f = below_more (λ k. get_or (set cells i 0) k 0 ≡ 0) i (λ k l. get_or-set_other cells i k 0 0 (λ e. omega arith) ∙ f k l) (get_or-set_same cells i 0 0 h)

pub cleared_end : {cells₀ cells : List ℕ} {i : ℕ} → length cells ≡ length cells₀ → length cells ≤ i → ((k : ℕ) → k < i → get_or cells k 0 ≡ 0) → Cleared cells₀ cells
cleared_end {cells = cells} {i} e h f =
    record {
      len = e;
      blank = λ k. ⊎_elim (λ (g : i ≤ k). get_or-eq_default cells 0 (omega arith)) (λ (g : k < i). f k g) (le_or_lt i k);
    }
