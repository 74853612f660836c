-- Chains of names by their places.
--     latest_le, latest_at, latest_none    the last name of a place, and that none after it has the place
--     chains_none, chains_more             the chains of no names, and of one name more
--     Walk                                 what holds where the walk along a chain has come to a name
-- Assumes nothing.
use mathlib.Core.Bool.{true, false}
use mathlib.Core.List.{List}
use mathlib.Core.Logic.{⊎_elim}
use mathlib.Core.Path.{◌≡◌, refl, sym, ◌∙◌}
use Prim.Native.Nat.{ℕ, zero, suc, ◌+◌, ◌-◌, ◌≤◌, ◌<◌}
use native.Mathlib.Nat.{eq-or-lt_of_le}
use native.Mathlib.Numerals.{add-one}
use native.Mathlib.Omega.{arith}
use lib.Dec.{eqb}
use lib.ListN.{length, get_or, set, length-set}
use lib.Seq.{get_or-set_same, get_or-set_other}
use borrow.Author.Count.{below_more}
use borrow.Author.Tests.{eqb-true, eqb-false, eq-eqb, ne_eqb}
use Rattle.laws.proofs.Tests.{decide, le_or_lt}
use Rattle.ways.specs.Tree.{latest, Chains}

module _ (place : ℕ → ℕ) (p : ℕ) where
  last_here : (i : ℕ) → place i ≡ p → latest place p (suc i) ≡ suc i
  unfolding latest
  last_here i e = rw (eq-eqb (place i) p e)

  last_before : (i : ℕ) → (place i ≡ p → ⊥) → latest place p (suc i) ≡ latest place p i
  unfolding latest
  last_before i e = rw (ne_eqb (place i) p e)

  pub latest_le : (i : ℕ) → latest place p i ≤ i
  unfolding latest
  latest_le zero = omega arith
  latest_le (suc i) =
      ⊎_elim
      (λ (t : eqb (place i) p ≡ true). omega (arith, last_here i (eqb-true _ _ t)))
      (λ (f : eqb (place i) p ≡ false). omega (arith, last_before i (eqb-false _ _ f), latest_le i))
      (decide (eqb (place i) p))

  pub latest_at : (i : ℕ) → 0 < latest place p i → place (latest place p i - 1) ≡ p
  unfolding latest
  latest_at zero h = absurd (none h)
    where
      none : 0 < 0 → ⊥
      none l = omega arith
  latest_at (suc i) h =
      ⊎_elim
      (λ (t : eqb (place i) p ≡ true).
      let e : latest place p (suc i) - 1 ≡ i = omega (arith, last_here i (eqb-true _ _ t)) in
      rw e (eqb-true _ _ t))
      (λ (f : eqb (place i) p ≡ false).
      let e = last_before i (eqb-false _ _ f) in
      rw e (latest_at i (rw e at h)))
      (decide (eqb (place i) p))

  -- behind the last of them none has the place
  pub latest_none : (i k : ℕ) → latest place p i ≤ k → k < i → place k ≡ p → ⊥
  latest_none zero k low high e = omega arith
  latest_none (suc i) k low high e =
      ⊎_elim
      (λ (q : k ≡ i). let here = last_here i (rw q at e) in omega arith)
      (λ (l : k < i).
      ⊎_elim
      (λ (t : eqb (place i) p ≡ true). let here = last_here i (eqb-true _ _ t) in omega arith)
      (λ (f : eqb (place i) p ≡ false). latest_none i k (rw (last_before i (eqb-false _ _ f)) at low) l e)
      (decide (eqb (place i) p)))
      (eq-or-lt_of_le (below high))
    where
      below : k < suc i → k ≤ i
      below l = omega arith

-- the chains of names whose places are the same are
pub latest_alike : (f g : ℕ → ℕ) (p i : ℕ) → ((k : ℕ) → k < i → f k ≡ g k) → latest f p i ≡ latest g p i
unfolding latest
latest_alike f g p zero same = refl
latest_alike f g p (suc i) same = rw (same i (omega arith), latest_alike f g p i (λ k h. same k (omega arith)))

pub chains_none : (place : ℕ → ℕ) (heads next : List ℕ) → ((p : ℕ) → get_or heads p 0 ≡ 0) → Chains place heads next 0
unfolding latest
chains_none place heads next clear = record { heads_are = λ p h. clear p; next_are = λ k h. absurd (nothing k h) }
  where
    nothing : (k : ℕ) → k < 0 → ⊥
    nothing k h = omega arith

-- name i is put in front of the chain of its place
module _ {place after : ℕ → ℕ} {heads next : List ℕ} {i : ℕ} (c : Chains place heads next i) (same : (k : ℕ) → k < i → after k ≡ place k)
    (h : i < length next) (low : after i < length heads) where
  before : (p : ℕ) → p < length heads → get_or heads p 0 ≡ latest after p i
  before p l = c.heads_are p l ∙ sym (latest_alike after place p i same)

  head : (p : ℕ) → p < length heads → get_or (set heads (after i) (i + 1)) p 0 ≡ latest after p (i + 1)
  head p l =
      rw (add-one i)
      (⊎_elim
      (λ (t : eqb (after i) p ≡ true).
      let e = eqb-true (after i) p t in
      rw e (get_or-set_same heads p (suc i) 0 l) ∙ sym (last_here after p i e))
      (λ (f : eqb (after i) p ≡ false).
      let e = eqb-false (after i) p f in
      get_or-set_other heads (after i) p (suc i) 0 (λ q. e (sym q)) ∙ before p l ∙ sym (last_before after p i e))
      (decide (eqb (after i) p)))

  pub chains_more : Chains after (set heads (after i) (i + 1)) (set next i (get_or heads (after i) 0)) (i + 1)
  chains_more =
      record {
        heads_are = λ p l. head p (rw length-set at l);
        next_are =
            below_more (λ (k : ℕ). get_or (set next i (get_or heads (after i) 0)) k 0 ≡ latest after (after k) k) i
            (λ k l.
            get_or-set_other next i k (get_or heads (after i) 0) 0 (λ z. omega arith)
            ∙ c.next_are k l
            ∙ sym (latest_alike after place (place k) k (λ j g. same j (omega arith)))
            ∙ rw (same k l))
            (get_or-set_same next i (get_or heads (after i) 0) 0 h ∙ before (after i) low);
      }

-- what holds where the walk along the chain of place p has come to c, which is one more than a name's number or 0
pub record Walk (place : ℕ → ℕ) (p : ℕ) (hit : ℕ → Type 0) (i c : ℕ) : Type 0 where
  pub within : c ≤ i
  pub there : (k : ℕ) → k < i → hit k → place k ≡ p
  pub at : 0 < c → place (c - 1) ≡ p
  pub passed : (k : ℕ) → c ≤ k → k < i → hit k → ⊥

pub begin : {place : ℕ → ℕ} {p : ℕ} {hit : ℕ → Type 0} {i c head : ℕ} → ((k : ℕ) → k < i → hit k → place k ≡ p)
    → c ≡ head → head ≡ latest place p i → Walk place p hit i c
begin {place} {p} {hit} {i} there q e =
    record {
      within = omega (arith, latest_le place p i);
      there = there;
      at = rw (q, e) (latest_at place p i);
      passed = λ k low high h. latest_none place p i k (omega arith) high (there k high h);
    }

pub shorter : (place : ℕ → ℕ) (p : ℕ) {c d next : ℕ} → 0 < c → d ≡ next → next ≡ latest place p (c - 1) → d < c
shorter place p {c} some q e = omega (arith, latest_le place p (c - 1))

module _ {place : ℕ → ℕ} {p : ℕ} {hit : ℕ → Type 0} {i c : ℕ} (w : Walk place p hit i c) where
  -- the name before is none, and is passed
  pub on : {d next : ℕ} → 0 < c → (hit (c - 1) → ⊥) → d ≡ next → next ≡ latest place (place (c - 1)) (c - 1) → Walk place p hit i d
  on {d} some miss l e =
      let q : d ≡ latest place p (c - 1) = l ∙ e ∙ rw (w.at some) in
      record {
        within = omega (arith, latest_le place p (c - 1));
        there = w.there;
        at = rw q (latest_at place p (c - 1));
        passed = λ k low high h.
            ⊎_elim
            (λ (l : c ≤ k). w.passed k l high h)
            (λ (l : k < c).
            ⊎_elim
            (λ (s : k ≡ c - 1). miss (rw s at h))
            (λ (s : k < c - 1). latest_none place p (c - 1) k (omega arith) s (w.there k high h))
            (eq-or-lt_of_le (before k l)))
            (le_or_lt c k);
      }
    where
      before : (k : ℕ) → k < c → k ≤ c - 1
      before k l = omega arith
