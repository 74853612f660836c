-- An accepted record is well formed: children, owners, names and levels are as 01 says.
--     well_formed       the theorem
-- Assumes nothing.
use mathlib.Core.Bool.{Bool, true, false}
use mathlib.Core.List.{List}
use mathlib.Core.Logic.{⊎_elim}
use mathlib.Core.Path.{◌≡◌, refl, sym, ap, ◌∙◌}
use Prim.Native.Nat.{ℕ, zero, suc, ◌+◌, ◌-◌, ◌≤◌, ◌<◌}
use native.Mathlib.Nat.{eq-zero-or-pos}
use native.Mathlib.Omega.{arith}
use borrow.Author.Tests.{eqb-false, not-false}
use Rattle.names.specs.Names.{repeats_by}
use Rattle.names.proofs.Repeats.{names_differ}
use Rattle.laws.specs.Lowest.{lowest_from}
use Rattle.sheet.specs.Kinds.{kind_of, is_object_kind}
use Rattle.sheet.specs.Refusals.{accepted}
use Rattle.sheet.specs.Doc.{Child, level}
use Rattle.sheet.specs.Record.{rows_word, form_of, row_at, owner_at, doc_of}
use Rattle.sheet.specs.Faults.{row_ok, at_fault, repeated, not_utf8, too_deep, level_refused, record_outcome}
use Rattle.sheet.specs.Accepted.{Laid, WellFormed}
use Rattle.laws.proofs.Searches.{clear_below}
use Rattle.sheet.proofs.Levels.{level_root, level_under}
use Rattle.sheet.proofs.Trailers.{trailer_facts}
use Rattle.sheet.proofs.Owners.{Under, under, child, children_of, owner_is, placed_at, before_it, object_kind}
use Rattle.sheet.proofs.Siblings.{repeated_at}
use Rattle.sheet.proofs.Readable.{readable, name_readable}
use Rattle.sheet.proofs.Checks.{words_in_order}
use Rattle.sheet.proofs.Acceptance.{AcceptedFacts, accepted_facts}

module _ (ws ts : List ℕ) (n : ℕ) (f : AcceptedFacts ws ts n) where
  -- what a search through all the rows did not find is nowhere
  nowhere : (test : ℕ → Bool) → rows_word ws ≤ lowest_from test (rows_word ws) 0 → (j : ℕ) → j < n → test j ≡ false
  nowhere test none j h =
      let e = f.count_is in
      clear_below test (rows_word ws) 0 j (omega arith) (omega arith) (omega arith)

  passes : (j : ℕ) → j < n → row_ok ws j ≡ true
  passes j h = not-false (row_ok ws j) (nowhere (at_fault ws) f.no_fault j h)

  -- ---- names

  laid : Laid ws (form_of ws)
  unfolding form_of
  laid =
      record {
        formed = record { trailer = words_in_order ws ts f.trailer_good; same_form = refl };
        rows_ok = λ (j : ℕ) (h : j < rows_word ws). passes j (omega (arith, f.count_is));
      }

  names_apart : (j k l : ℕ) → j < n → is_object_kind (kind_of (row_at ws j).kind) ≡ true → Under ws j k → Under ws j l → k < l
      → (doc_of ws ts).name k ≡ (doc_of ws ts).name l → ⊥
  names_apart j k l h t u v lt e =
      let first = (row_at ws j).first in
      let count = (row_at ws j).count in
      let below : (i : ℕ) → i < count → repeats_by (λ x. (doc_of ws ts).name (first + x)) i ≡ false =
      λ i g. sym (repeated_at ws ts (form_of ws) laid j (omega (arith, f.count_is)) t i g)
      ∙ nowhere (repeated (doc_of ws ts)) f.no_name (first + i) (children_of ws ts n f.count_is passes j (first + i) h (record { holds = u.holds; low = omega arith; high = omega arith })).1 in
      let p : first + (k - first) ≡ k = omega (arith, u.low) in
      let q : first + (l - first) ≡ l = omega (arith, v.low) in
      names_differ (λ x. (doc_of ws ts).name (first + x)) count below (k - first) (l - first) (omega (arith, u.low)) (omega (arith, v.low, v.high))
      (rw (p, q) e)

  -- ---- levels

  under_owner : (k : ℕ) → 0 < k → k < n → level (owner_at ws) k ≡ level (owner_at ws) (owner_at ws k) + 1
  under_owner k p h = level_under (owner_at ws) k (before_it ws ts n f.count_is passes k p h)

  not_refused : (k : ℕ) → k < n → level (owner_at ws) k ≡ level_refused → ⊥
  not_refused k h = eqb-false (level (owner_at ws) k) level_refused (nowhere (too_deep ws) f.no_level k h)

  -- by the rows below m
  shallow_below : (m k : ℕ) → k < m → k < n → level (owner_at ws) k < level_refused
  shallow_below zero k l h = absurd (nothing l)
    where
      nothing : k < 0 → ⊥
      nothing z = omega arith
  shallow_below (suc m) k l h =
      ⊎_elim
      (λ (e : k ≡ 0). rw e (rw (level_root (owner_at ws)) (omega arith)))
      (λ (p : 0 < k).
      let b = before_it ws ts n f.count_is passes k p h in
      let up = shallow_below m (owner_at ws k) (omega arith) (omega arith) in
      omega (arith, under_owner k p h, not_refused k h))
      (eq-zero-or-pos k)

pub well_formed : (ws ts : List ℕ) (n : ℕ) → record_outcome ws ts ≡ accepted n → WellFormed (doc_of ws ts) n
unfolding doc_of
well_formed ws ts n ok =
    let f = accepted_facts ws ts n ok in
    let t = trailer_facts ws (words_in_order ws ts f.trailer_good) in
    record {
      some = omega (arith, t.some, f.count_is);
      few = omega (arith, t.few, f.count_is);
      child_after = λ j k h c. (children_of ws ts n f.count_is (passes ws ts n f) j k h (under ws ts n f.count_is (passes ws ts n f) j k h c)).0;
      child_inside = λ j k h c. (children_of ws ts n f.count_is (passes ws ts n f) j k h (under ws ts n f.count_is (passes ws ts n f) j k h c)).1;
      child_owner = λ j k h c. owner_is ws ts n f.count_is (passes ws ts n f) j k h (under ws ts n f.count_is (passes ws ts n f) j k h c);
      placed = λ k p h. let g = placed_at ws ts n f.count_is (passes ws ts n f) k p h in child ws ts n f.count_is (passes ws ts n f) (owner_at ws k) k g.0 g.1;
      owner_before = before_it ws ts n f.count_is (passes ws ts n f);
      names_differ =
          λ j k l h t u v lt.
          names_apart ws ts n f j k l h (object_kind ws ts n f.count_is (passes ws ts n f) j h t) (under ws ts n f.count_is (passes ws ts n f) j k h u) (under ws ts n f.count_is (passes ws ts n f) j l h v) lt;
      name_readable = λ j h. name_readable (doc_of ws ts) j (nowhere ws ts n f (not_utf8 (doc_of ws ts)) f.no_text j h);
      readable = λ j h. readable (doc_of ws ts) j (nowhere ws ts n f (not_utf8 (doc_of ws ts)) f.no_text j h);
      root_level = level_root (owner_at ws);
      child_level =
          λ (j k : ℕ) (h : j < n) (c : Child (doc_of ws ts) j k).
          let u = under ws ts n f.count_is (passes ws ts n f) j k h c in
          let g = children_of ws ts n f.count_is (passes ws ts n f) j k h u in
          under_owner ws ts n f k (omega arith) g.1 ∙ ap (λ (i : ℕ). level (owner_at ws) i + 1) (owner_is ws ts n f.count_is (passes ws ts n f) j k h u);
      shallow = λ k h. shallow_below ws ts n f (suc k) k (omega arith) h;
    }
