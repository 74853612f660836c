-- The table of chain lengths.
--     blank_told                     a table of zeros tells nothing
--     raised_none, raised_more       a length by steps to one schema more
--     noted_none, noted_more, note_yes, note_no     marks
--     raised_chain                   a length that was raised is that of a chain
--     Deep, deep_none, deep_more, deep_all     no chain of up to n steps is longer than told
--     right                          then the table tells which schemas start a chain of 33
-- Assumes nothing.
use mathlib.Core.Bool.{Bool, true, false}
use mathlib.Core.List.Memᴰ.{append_cases as in_split}
use mathlib.Core.List.Memᴰ.{append_left as in_left}
use mathlib.Core.List.Memᴰ.{append_right as in_right}
use mathlib.Core.List.Memᴰ.{eq_of_singleton as in_one}
use mathlib.Core.List.Memᴰ.{head as at_head}
use mathlib.Core.List.Memᴰ.{not-nil as in_none}
use mathlib.Core.List.{List, [], ◌∷◌, ◌++◌, Memᴰ as In}
use mathlib.Core.Logic.{inl, inr, ⊎_elim}
use mathlib.Core.Path.{◌≡◌, refl, sym, ◌∙◌, subst}
use Prim.Native.Nat.{ℕ, zero, suc, ◌+◌, ◌≤◌, ◌<◌}
use native.Mathlib.Decide.{ℕ_discrete}
use native.Mathlib.Numerals.{add-one}
use native.Mathlib.Omega.{arith}
use lib.ListN.{length, get_or, set}
use lib.Seq.{get_or-set_same, get_or-set_other}
use borrow.Author.Tests.{le-leb, lt-leb}
use Rattle.laws.proofs.Tests.{decide, le_or_lt}
use Rattle.unguarded.specs.Graph.{chain_steps, chain}
use Rattle.unguarded.specs.Worklist.{Marked}
use Rattle.unguarded.specs.Lengths.{Longer, Raised, Noted, Told, Over, Lengths}
use Rattle.unguarded.proofs.Lists.{any_in, any_out, not_both}
use Rattle.unguarded.proofs.Paths.{fewer}

-- ---- one length

pub raised_none : (table : List ℕ) (most : ℕ) → most ≤ chain_steps → Raised [] table most most
raised_none table most h = record { more = omega arith; full = h; above = λ t i. absurd (in_none i); by = inl refl }

pub raised_more : {ts table : List ℕ} {most r q : ℕ} (t : ℕ) → Raised ts table most r → Longer r (get_or table t 0) q → Raised (ts ++ (t ∷ [])) table most q
raised_more {ts} {table} {most} {r} {q} t f l =
    record {
      more = omega (arith, f.more, l.more);
      full = l.full;
      above = λ u i (h : q < chain_steps).
          ⊎_elim
          (λ j. omega (arith, l.more, f.above u j (omega (arith, l.more))))
          (λ (j : In u (t ∷ [])). rw (in_one j) (l.above h))
          (in_split ts i);
      by =
          ⊎_elim
          (λ (e : q ≡ r). ⊎_elim (λ (g : r ≡ most). inl (e ∙ g)) (λ g. inr (g.0, (in_left (t ∷ []) g.1.0, omega (arith, g.1.1)))) f.by)
          (λ g. inr (t, (in_right ts (at_head refl), g)))
          l.by;
    }

-- ---- marks

pub noted_none : (s : ℕ) (late : List Bool) → Noted s [] late late
noted_none s late = record { kept = λ t h. h; marked = λ t i. absurd (in_none i) }

pub noted_more : {s : ℕ} {ts us : List ℕ} {a b c : List Bool} → Noted s ts a b → Noted s us b c → Noted s (ts ++ us) a c
noted_more {ts = ts} f g =
    record {
      kept = λ t h. g.kept t (f.kept t h);
      marked = λ t i l. ⊎_elim (λ j. g.kept t (f.marked t j l)) (λ j. g.marked t j l) (in_split ts i);
    }

module _ (s t : ℕ) (late : List Bool) where
  pub note_yes : t < length late → Noted s (t ∷ []) late (set late t true)
  note_yes h =
      record {
        kept = λ u m. elim (ℕ_discrete u t) [ yes e ↦ rw e now | no e ↦ rw (get_or-set_other late t u true false e) m ];
        marked = λ u i l. rw (in_one i) now;
      }
    where
      now : Marked (set late t true) t
      now = get_or-set_same late t true false h

  pub note_no : s < t → Noted s (t ∷ []) late late
  note_no h = record { kept = λ u m. m; marked = λ u i (l : u ≤ s). absurd (omega (arith, in_one i)) }

-- ---- the table

module _ (m : ℕ) (next : ℕ → List ℕ) where
  pub blank_told : (table : List ℕ) → m ≤ length table → ((t : ℕ) → get_or table t 0 ≡ 0) → Told m next table
  unfolding chain
  blank_told table room none =
      record { room = room; low = λ s. omega (arith, none s); has = λ s. rw (none s) }

  pub raised_chain : {ts table : List ℕ} {most r s : ℕ} → Told m next table → ((t : ℕ) → In t ts → In t (next s)) → chain next most s ≡ true
      → Raised ts table most r → chain next r s ≡ true
  unfolding chain
  raised_chain {table = table} {r = r} {s = s} told inside had f =
      ⊎_elim
      (λ e. rw e had)
      (λ g. fewer next (suc (get_or table g.0 0)) r s (omega (arith, g.1.1)) (any_in (chain next (get_or table g.0 0)) (inside g.0 g.1.0) (told.has g.0)))
      f.by

  -- no chain of up to n steps is longer than told
  pub record Deep (n : ℕ) (table : List ℕ) : Type 0 where
    pub reaches : (k s : ℕ) → k ≤ n → chain next k s ≡ true → k ≤ get_or table s 0

  pub deep_none : (table : List ℕ) → Deep 0 table
  deep_none table = record { reaches = λ k s l c. omega arith }

  pub deep_more : {low high : List ℕ} {n : ℕ} → n < chain_steps → Over m next low high → Deep n low → Deep (n + 1) high
  unfolding chain
  deep_more {low} {high} {n} few over deep = record { reaches = further }
    where
      further : (k s : ℕ) → k ≤ n + 1 → chain next k s ≡ true → k ≤ get_or high s 0
      further zero s l c = omega arith
      further (suc k) s l c =
          let a = any_out (chain next k) (next s) c in
          let h = deep.reaches k a.0 (omega arith) a.1.1 in
          ⊎_elim
          (λ (full : chain_steps ≤ get_or high s 0). omega arith)
          (λ (g : get_or high s 0 < chain_steps). omega (arith, over.rises s a.0 a.1.0 g))
          (le_or_lt chain_steps (get_or high s 0))

  pub deep_all : {table : List ℕ} → Over m next table table → (n : ℕ) → n ≤ chain_steps → Deep n table
  deep_all {table} over zero h = deep_none table
  deep_all {table} over (suc n) h = subst (λ (k : ℕ). Deep k table) (add-one n) (deep_more h over (deep_all over n (omega arith)))

  pub right : {table : List ℕ} → Told m next table → Deep chain_steps table → Lengths m next table
  right {table} told deep =
      record {
        room = told.room;
        right = λ s.
            ⊎_elim
            (λ (c : chain next chain_steps s ≡ true). le-leb chain_steps (get_or table s 0) (deep.reaches chain_steps s (omega arith) c) ∙ sym c)
            (λ (c : chain next chain_steps s ≡ false).
            ⊎_elim
            (λ (full : chain_steps ≤ get_or table s 0). absurd (not_both (chain next chain_steps s) (fewer next (get_or table s 0) chain_steps s full (told.has s)) c))
            (λ (g : get_or table s 0 < chain_steps). lt-leb chain_steps (get_or table s 0) g ∙ sym c)
            (le_or_lt chain_steps (get_or table s 0)))
            (decide (chain next chain_steps s));
      }
