-- What is true of the unguarded steps of rules that are refused neither by 8 nor by 9.
--     none_looped        with no chain of 33 schemas there is no loop: the place of 8 is m if that of 9 is
--     grounded           where that of 9 is m, every chain is at most 32 schemas long, and the length of the longest chain falls along each step
-- Assumes nothing.
use mathlib.Core.Bool.{Bool, true, false}
use mathlib.Core.List.{List, [], Memᴰ as In}
use mathlib.Core.Logic.{⊎_elim}
use mathlib.Core.Path.{◌≡◌, refl, sym, subst}
use Prim.Native.Nat.{ℕ, zero, suc, ◌≤◌, ◌<◌}
use native.Mathlib.Nat.{eq-or-lt_of_le, le_of_suc-le-suc}
use native.Mathlib.Omega.{arith}
use Rattle.laws.specs.Lowest.{lowest}
use Rattle.laws.proofs.Tests.{decide, le_or_lt}
use Rattle.laws.proofs.Searches.{lowest_is}
use Rattle.unguarded.specs.Graph.{chain_steps, Chain, some_of, chain, longest, on_loop, Grounded}
use Rattle.unguarded.specs.Places.{loop_place, chain_place}
use Rattle.unguarded.proofs.Lists.{any_in, not_both}
use Rattle.unguarded.proofs.Paths.{is_chain, fewer, loop_chain, longest_low, longest_yes, longest_no}
use Rattle.unguarded.proofs.Agreement.{not_before, no_loop}

-- a search that ends at the end finds nothing
nowhere : (test : ℕ → Bool) (m : ℕ) → m ≤ lowest test m → (s : ℕ) → s < m → test s ≡ false
nowhere test m e s l = not_before test m s (omega arith)

module _ (next : ℕ → List ℕ) where
  -- ---- the longest chain

  -- there is a chain of that length
  has : (k s : ℕ) → chain next (longest next k s) s ≡ true
  unfolding longest chain
  has zero s = refl
  has (suc k) s =
      ⊎_elim
      (λ e. subst (λ n. chain next n s ≡ true) (sym (longest_yes next k s e)) e)
      (λ e. subst (λ n. chain next n s ≡ true) (sym (longest_no next k s e)) (has k s))
      (decide (chain next (suc k) s))

  -- and no longer one, of those up to k
  most : (k j s : ℕ) → j ≤ k → chain next j s ≡ true → j ≤ longest next k s
  most zero j s l e = omega arith
  most (suc k) j s l e =
      ⊎_elim
      (λ h. omega (arith, longest_yes next k s h))
      (λ h.
      ⊎_elim
      (λ q. absurd (not_both (chain next (suc k) s) (rw q at e) h))
      (λ q. omega (arith, longest_no next k s h, most k j s (le_of_suc-le-suc q) e))
      (eq-or-lt_of_le l))
      (decide (chain next (suc k) s))

  longer : (k s t : ℕ) → In t (next s) → chain next k t ≡ true → chain next (suc k) s ≡ true
  unfolding chain
  longer k s t i e = any_in (chain next k) i e

  -- ---- where no chain has k steps

  module _ (k : ℕ) (none : (s : ℕ) → chain next k s ≡ false) where
    below : (s : ℕ) → longest next k s < k
    below s =
        ⊎_elim
        (λ q. absurd (not_both (chain next k s) (subst (λ n. chain next n s ≡ true) q (has k s)) (none s)))
        (λ q. q)
        (eq-or-lt_of_le (longest_low next k s))

    falls : (s t : ℕ) → In t (next s) → longest next k t < longest next k s
    falls s t i = most k (suc (longest next k t)) s (below t) (longer (longest next k t) s t i (has k t))

    short : (j s : ℕ) → Chain next j s → j < k
    short j s c =
        ⊎_elim
        (λ (l : k ≤ j). absurd (not_both (chain next k s) (fewer next j k s l (is_chain next j s c)) (none s)))
        (λ (l : j < k). l)
        (le_or_lt k j)

  no_step : (k s : ℕ) → 0 < k → next s ≡ [] → chain next k s ≡ false
  unfolding chain some_of
  no_step zero s h e = absurd (omega arith)
  no_step (suc k) s h e = rw e

  module _ (m : ℕ) (outside : (s : ℕ) → m ≤ s → next s ≡ []) where
    -- past the schemas no chain starts either
    nobody : (k : ℕ) → 0 < k → ((s : ℕ) → s < m → chain next k s ≡ false) → (s : ℕ) → chain next k s ≡ false
    nobody k h none s = ⊎_elim (λ (l : m ≤ s). no_step k s h (outside s l)) (none s) (le_or_lt m s)

    pub grounded : m ≤ chain_place m next → Grounded next
    grounded e =
        let none = nobody chain_steps (omega arith) (nowhere (chain next chain_steps) m e) in
        record {
          no_loop = λ s l. not_both (chain next chain_steps s) (loop_chain next chain_steps s l) (none s);
          short = short chain_steps none;
          low = below chain_steps none;
          falls = falls chain_steps none;
        }

  pub none_looped : (m : ℕ) → m ≤ chain_place m next → m ≡ loop_place m next
  none_looped m e =
      lowest_is (on_loop m next) m m (omega arith)
      (λ s l. no_loop m next chain_steps s (nowhere (chain next chain_steps) m e s l))
      (λ (l : m < m). absurd (omega arith))
