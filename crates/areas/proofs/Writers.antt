-- The writers of marks: what is left where one mark after the other is written.
--     marked_write, mark_fits               one mark, which is a byte
--     marked_same, marked_none              nothing is written, or nothing is to be
--     marked_more, marked_later             one row more, and a row that was not reached
--     marked_as                             the same marks in other words
--     merged_marked, merged_unmarked, merged_later, unmarked, one_row     one row's marks in both columns, and in one, as they were read
--     cell_below, writes_one, writes_row    one of the rows that may be written
-- Assumes nothing.
use mathlib.Core.Bool.{Bool, true, false, ◌||◌, or-true, or-false}
use mathlib.Core.List.{List}
use mathlib.Core.Path.{◌≡◌, refl, sym, ap, ◌∙◌}
use Prim.Native.Nat.{ℕ, ◌+◌, ◌*◌, ◌≤◌, ◌<◌}
use native.Mathlib.Decide.{ℕ_discrete}
use native.Mathlib.Omega.{arith}
use lib.ListN.{length, get_or, set, length-set}
use lib.Seq.{get_or-set_same, get_or-set_other}
use Rattle.meaning.specs.Rules.{Marks}
use Rattle.areas.specs.Cells.{cell_of, verd, bit, four, column}
use Rattle.areas.specs.Writers.{Writes, Marked, merged}
use Rattle.areas.proofs.Cells.{verd_write, bit_write, write_small, same_row, same_rule}

-- ---- one mark

module _ (m row s k : ℕ) (on : Bool) (cells : List ℕ) (g : s < m) (e : k ≡ cell_of m row s) (h : k < length cells) where
  marked_one : Marked m row 1 s (λ x. on) cells (set cells k (verd (get_or cells k 0) + four on))
  marked_one =
      let after = set cells k (verd (get_or cells k 0) + four on) in
      let now : get_or after k 0 ≡ verd (get_or cells k 0) + four on = get_or-set_same cells k _ 0 h in
      record {
        len = length-set cells k _;
        verdicts = λ i. elim (ℕ_discrete i k) [
          | yes d ↦ rw (d, now) (verd_write (get_or cells k 0) on)
          | no d ↦ ap verd (get_or-set_other cells k i _ 0 d)
        ];
        small = λ f i. elim (ℕ_discrete i k) [
          | yes d ↦ rw (d, now) (write_small (get_or cells k 0) on)
          | no d ↦ rw (get_or-set_other cells k i (verd (get_or cells k 0) + four on) 0 d) (f i)
        ];
        here = λ x a b.
            let d : x ≡ row = omega arith in
            let q : x * m + s ≡ k = ap (λ (y : ℕ). y * m + s) d ∙ sym e in
            ap (λ (y : ℕ). bit (get_or after y 0)) q ∙ ap bit now ∙ bit_write (get_or cells k 0) on;
        there = λ x t l n. get_or-set_other cells k (x * m + t) _ 0 (λ d.
            let q = same_row m x t row s l g (d ∙ e) in
            let r = same_rule m x t row s l g (d ∙ e) in
            n r (omega arith) (omega arith));
      }

  pub marked_write : {x f : ℕ} → x ≡ verd (get_or cells k 0) → f ≡ four on → Marked m row 1 s (λ x. on) cells (set cells k (x + f))
  marked_write a b = rw (a, b) marked_one

-- a verdict and a mark are far from a byte's end
pub mark_fits : (x : ℕ) (on : Bool) {y f : ℕ} → y ≡ verd x → f ≡ four on → y + f < 8
mark_fits x on a b = let z = write_small x on in omega arith

-- ---- many

pub marked_same : {m first many s : ℕ} {to : Marks} (cells : List ℕ) → ((k : ℕ) → first ≤ k → k < first + many → column m cells s k ≡ to k) → Marked m first many s to cells cells
marked_same cells f = record { len = refl; verdicts = λ i. refl; small = λ g. g; here = f; there = λ k t l n. refl }

pub marked_none : (m first s : ℕ) (to : Marks) (cells : List ℕ) → Marked m first 0 s to cells cells
marked_none m first s to cells = marked_same cells (λ k a b. absurd (omega arith))

pub marked_more : {m first i s : ℕ} {to : Marks} {c₀ c₁ c₂ : List ℕ} {k : ℕ} {on : Bool} → Marked m first i s to c₀ c₁ → s < m → k ≡ first + i → on ≡ to k → Marked m k 1 s (λ x. on) c₁ c₂ → Marked m first (i + 1) s to c₀ c₂
marked_more {m} {first} {i} {s} {to} {c₀} {c₁} {c₂} {k} p g e d q =
    record {
      len = q.len ∙ p.len;
      verdicts = λ j. q.verdicts j ∙ p.verdicts j;
      small = λ f. q.small (p.small f);
      here = λ x a b. elim (ℕ_discrete x k) [
        | yes h ↦ q.here x (omega arith) (omega arith) ∙ d ∙ ap to (sym h)
        | no n ↦ ap bit (q.there x s g (λ r u v. n (omega arith))) ∙ p.here x a (omega (arith, n))
      ];
      there = λ x t l n. q.there x t l (λ r u v. n r (omega arith) (omega arith)) ∙ p.there x t l (λ r u v. n r u (omega arith));
    }

pub marked_later : {m first i s : ℕ} {to : Marks} {c₀ c₁ : List ℕ} → Marked m first i s to c₀ c₁ → (k t : ℕ) → t < m → first + i ≤ k → get_or c₁ (cell_of m k t) 0 ≡ get_or c₀ (cell_of m k t) 0
marked_later p k t l h = p.there k t l (λ r u v. omega arith)

pub marked_as : {m first many s : ℕ} {to to' : Marks} {c₀ c₁ : List ℕ} → Marked m first many s to c₀ c₁ → ((k : ℕ) → first ≤ k → k < first + many → to k ≡ to' k) → Marked m first many s to' c₀ c₁
marked_as p f = record { len = p.len; verdicts = p.verdicts; small = p.small; here = λ k a b. p.here k a b ∙ f k a b; there = p.there }

-- ---- what is written

-- a row is marked in column s too if it is in column `from`
module _ (m k s from : ℕ) (c₀ : List ℕ) {b : Bool} (v : b ≡ bit (get_or c₀ (cell_of m k from) 0)) where
  here_from : (x : ℕ) → k ≤ x → x < k + 1 → column m c₀ from x ≡ b
  here_from x l h = let e : x ≡ k = omega arith in ap (λ (t : ℕ). bit (get_or c₀ (cell_of m t from) 0)) e ∙ sym v

  pub merged_marked : {c₁ : List ℕ} → b ≡ true → Marked m k 1 s (λ x. true) c₀ c₁ → Marked m k 1 s (merged m c₀ s from) c₀ c₁
  unfolding merged
  merged_marked t M = marked_as M (λ x l h. sym (rw (here_from x l h, t) (or-true (column m c₀ s x))))

  pub merged_unmarked : b ≡ false → Marked m k 1 s (merged m c₀ s from) c₀ c₀
  unfolding merged
  merged_unmarked t = marked_same c₀ (λ x l h. sym (rw (here_from x l h, t) (or-false (column m c₀ s x))))

pub merged_later : {m first i s : ℕ} {to : Marks} {c₀ c₁ : List ℕ} {from k : ℕ} → Marked m first i s to c₀ c₁ → s < m → from < m → k ≡ first + i
    → merged m c₁ s from k ≡ merged m c₀ s from k
unfolding merged
merged_later {m} {s = s} {from = from} {k = k} p g h q =
    rw (ap bit (marked_later p k s g (omega arith)), ap bit (marked_later p k from h (omega arith)))

-- a row without a mark has none to lose
pub unmarked : (m k s : ℕ) (cells : List ℕ) {b : Bool} → b ≡ bit (get_or cells (cell_of m k s) 0) → b ≡ false → Marked m k 1 s (λ x. false) cells cells
unmarked m k s cells v t = marked_same cells (λ x l h. here_from m k s s cells v x l h ∙ t)

-- one row's marks, wherever it stands among them
pub one_row : {m k s : ℕ} {to : Marks} {c₀ c₁ : List ℕ} → Marked m k 1 s to c₀ c₁ → Marked m k 1 s (λ x. to k) c₀ c₁
one_row {k = k} {to = to} M = marked_as M (λ x l h. let e : x ≡ k = omega arith in ap to e)

-- ---- what may be written

module _ {m first many s from : ℕ} {cells : List ℕ} (w : Writes m first many s from cells) where
  pub cell_below : (i : ℕ) → i < many → (t : ℕ) → t < m → cell_of m (first + i) t < length cells
  cell_below i h t g = let a = w.rows_in (first + i) (omega arith) (omega arith) in omega arith

  pub writes_one : {k : ℕ} {after : List ℕ} → length after ≡ length cells → first ≤ k → k < first + many → Writes m k 1 s from after
  writes_one e a b =
      record {
        rule_in = w.rule_in;
        from_in = w.from_in;
        rows_in = λ x u v. let z = w.rows_in x (omega arith) (omega arith) in omega arith;
      }

  pub writes_row : {k : ℕ} {after : List ℕ} → length after ≡ length cells → first ≤ k → k < first + many → Writes m k 1 s s after
  writes_row {k} {after} e a b =
      let one : Writes m k 1 s from after = writes_one e a b in
      record { rule_in = w.rule_in; from_in = w.rule_in; rows_in = one.rows_in }
