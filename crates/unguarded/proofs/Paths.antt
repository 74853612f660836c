-- Paths of unguarded steps, and the functions that find them.
--     edge, reached_on                  paths are joined
--     via_reached, reached_via          what is reached by way of the schemas below m is all that is reached, if every step leads below m
--     chain_is, is_chain                the chains that are computed are all the chains
--     shorter, fewer                    a chain has shorter chains
--     loop_chain                        a loop has chains of every length
--     longest-low, -yes, -no            the longest chain of at most k steps
-- Assumes nothing.
use mathlib.Core.Bool.{Bool, true, false, ◌&&◌, ◌||◌, cond, or-true}
use mathlib.Core.List.Memᴰ.{cast}
use mathlib.Core.List.{List, Memᴰ as In}
use mathlib.Core.Logic.{⊎_elim}
use mathlib.Core.Path.{◌≡◌, refl, sym, subst}
use Prim.Native.Nat.{ℕ, zero, suc, ◌≤◌, ◌<◌}
use native.Mathlib.Nat.{eq-or-lt_of_le, le_of_suc-le-suc}
use native.Mathlib.Omega.{arith}
use lib.Dec.{eqb}
use borrow.Author.Tests.{eqb-true, eq-eqb}
use Rattle.laws.proofs.Tests.{left, right, either}
use Rattle.unguarded.specs.Graph.{Path, here, step, Reached, OnLoop, Chain, some_of, chain, via, longest}
use Rattle.unguarded.proofs.Lists.{any_in, any_out}

module _ (next : ℕ → List ℕ) where
  join : {t u s j k : ℕ} → Path next t j s → Path next u (suc k) t → Reached next s u
  join {k = k} here q = (k, q)
  join (step i p) q = let r = join p q in (suc r.0, step i r.1)

  then : {s t u : ℕ} → Reached next s t → Reached next t u → Reached next s u
  then p q = join p.1 q.1

  pub edge : {s t : ℕ} → In t (next s) → Reached next s t
  edge i = (0, step i here)

  pub reached_on : {s t u : ℕ} → Reached next s t → In u (next t) → Reached next s u
  reached_on p i = then p (edge i)

  -- ---- by way of the schemas below k

  edge_in : (s t : ℕ) → some_of (eqb t) (next s) ≡ true → In t (next s)
  edge_in s t e = let r = any_out (eqb t) (next s) e in cast (eqb-true t r.0 r.1.1) r.1.0

  pub via_reached : (k s t : ℕ) → via next k s t ≡ true → Reached next s t
  unfolding via
  via_reached zero s t e = edge (edge_in s t e)
  via_reached (suc k) s t e =
      ⊎_elim
      (λ h. via_reached k s t h)
      (λ h. then (via_reached k s k (left (via next k s k) (via next k k t) h)) (via_reached k k t (right (via next k s k) (via next k k t) h)))
      (either (via next k s t) (via next k s k && via next k k t) e)

  via_edge : (k s t : ℕ) → In t (next s) → via next k s t ≡ true
  unfolding via
  via_edge zero s t i = any_in (eqb t) i (eq-eqb t t refl)
  via_edge (suc k) s t i = rw (via_edge k s t i)

  -- what t reaches by way of those below k, s does too, if it has a step to t and t is below k
  via_more : (k s t u : ℕ) → t < k → In t (next s) → via next k t u ≡ true → via next k s u ≡ true
  unfolding via
  via_more zero s t u l i e = absurd (omega arith)
  via_more (suc k) s t u l i e =
      ⊎_elim (λ q. last q) (λ q. early (λ w h. via_more k s t w q i h)) (eq-or-lt_of_le (le_of_suc-le-suc l))
    where
      through : via next k k u ≡ true → via next k s k ≡ true → (via next k s u || via next k s k && via next k k u) ≡ true
      through a b = rw (a, b, or-true)

      last : t ≡ k → (via next k s u || via next k s k && via next k k u) ≡ true
      last q =
          through
          (⊎_elim (λ h. subst (λ x. via next k x u ≡ true) q h) (λ h. right (via next k t k) (via next k k u) h) (either (via next k t u) (via next k t k && via next k k u) e))
          (via_edge k s k (cast (sym q) i))

      early : ((w : ℕ) → via next k t w ≡ true → via next k s w ≡ true) → (via next k s u || via next k s k && via next k k u) ≡ true
      early more =
          ⊎_elim
          (λ h. rw (more u h))
          (λ h. through (right (via next k t k) (via next k k u) h) (more k (left (via next k t k) (via next k k u) h)))
          (either (via next k t u) (via next k t k && via next k k u) e)

  module _ (m : ℕ) (inside : (s t : ℕ) → In t (next s) → t < m) where
    via_path : (k s t : ℕ) → Path next t (suc k) s → via next m s t ≡ true
    via_path zero s t (step i here) = via_edge m s t i
    via_path (suc k) s t (step {t = u} i p) = via_more m s u t (inside s u i) i (via_path k u t p)

    pub reached_via : {s t : ℕ} → Reached next s t → via next m s t ≡ true
    reached_via {s} {t} p = via_path p.0 s t p.1

  -- ---- chains

  pub chain_is : (k s : ℕ) → chain next k s ≡ true → Chain next k s
  unfolding chain
  chain_is zero s e = (s, here)
  chain_is (suc k) s e =
      let a = any_out (chain next k) (next s) e in
      let c = chain_is k a.0 a.1.1 in
      (c.0, step a.1.0 c.1)

  path_chain : (k s t : ℕ) → Path next t k s → chain next k s ≡ true
  unfolding chain
  path_chain zero s t p = refl
  path_chain (suc k) s t (step {t = u} i p) = any_in (chain next k) i (path_chain k u t p)

  pub is_chain : (k s : ℕ) → Chain next k s → chain next k s ≡ true
  is_chain k s c = path_chain k s c.0 c.1

  pub shorter : (k s : ℕ) → chain next (suc k) s ≡ true → chain next k s ≡ true
  unfolding chain
  shorter zero s e = refl
  shorter (suc k) s e = let a = any_out (chain next (suc k)) (next s) e in any_in (chain next k) a.1.0 (shorter k a.0 a.1.1)

  pub fewer : (n k s : ℕ) → k ≤ n → chain next n s ≡ true → chain next k s ≡ true
  fewer zero k s l e = let q : k ≡ 0 = omega arith in rw q e
  fewer (suc n) k s l e = ⊎_elim (λ q. rw q e) (λ q. fewer n k s (le_of_suc-le-suc q) (shorter n s e)) (eq-or-lt_of_le l)

  -- the way to a loop can be walked on and on
  on : (j s z : ℕ) → OnLoop next z → Path next z (suc j) s → (u : ℕ) × (In u (next s) × Reached next u z)
  on zero s z l (step i here) = (z, (i, l))
  on (suc j) s z l (step {t = u} i p) = (u, (i, (j, p)))

  around : (k s z : ℕ) → OnLoop next z → Reached next s z → chain next k s ≡ true
  unfolding chain
  around zero s z l p = refl
  around (suc k) s z l p = let a = on p.0 s z l p.1 in any_in (chain next k) a.1.0 (around k a.0 z l a.1.1)

  pub loop_chain : (k s : ℕ) → OnLoop next s → chain next k s ≡ true
  loop_chain k s l = around k s s l l

  -- ---- the longest chain

  pub longest_low : (k s : ℕ) → longest next k s ≤ k
  unfolding longest
  longest_low zero s = omega arith
  longest_low (suc k) s = pick (chain next (suc k) s) (longest_low k s)
    where
      pick : (b : Bool) → longest next k s ≤ k → cond b (suc k) (longest next k s) ≤ suc k
      pick true h = omega arith
      pick false h = omega arith

  pub longest_yes : (k s : ℕ) → chain next (suc k) s ≡ true → longest next (suc k) s ≡ suc k
  unfolding longest
  longest_yes k s e = rw e

  pub longest_no : (k s : ℕ) → chain next (suc k) s ≡ false → longest next (suc k) s ≡ longest next k s
  unfolding longest
  longest_no k s e = rw e
