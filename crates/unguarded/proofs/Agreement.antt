-- The computed forms agree with the rule, where every step leads below m; `chain_is` and `is_chain` of `Paths` say so of chains.
--     on_loop_lem, loop_on         `on_loop` finds the schemas on a loop, and no other
--     no_loop                      where no chain of k steps starts, there is no loop
--     loop_at, loop_first          the place of 8 is the lowest schema on a loop
--     chain_at, chain_first        the place of 9 is the lowest schema that starts a chain of 33
-- Assumes nothing.
use mathlib.Core.Bool.{Bool, true, false}
use mathlib.Core.List.{List, Memᴰ as In}
use mathlib.Core.Path.{◌≡◌}
use Prim.Native.Nat.{ℕ, ◌<◌}
use native.Mathlib.Omega.{arith}
use Rattle.laws.specs.Lowest.{lowest}
use Rattle.laws.proofs.Searches.{clear_below, holds_at, at_most_end}
use Rattle.unguarded.specs.Graph.{chain_steps, OnLoop, Chain, chain, on_loop}
use Rattle.unguarded.specs.Places.{loop_place, chain_place}
use Rattle.unguarded.proofs.Lists.{is_false, not_both}
use Rattle.unguarded.proofs.Paths.{via_reached, reached_via, chain_is, is_chain, loop_chain}

module _ (test : ℕ → Bool) (m : ℕ) where
  here : lowest test m < m → test (lowest test m) ≡ true
  here h = holds_at test m 0 (omega arith)

  pub not_before : (s : ℕ) → s < lowest test m → test s ≡ false
  not_before s h = clear_below test m 0 s (omega arith) (omega (arith, at_most_end test m 0)) h

module _ (m : ℕ) (next : ℕ → List ℕ) where
  pub on_loop_lem : (s : ℕ) → on_loop m next s ≡ true → OnLoop next s
  unfolding on_loop
  on_loop_lem s e = via_reached next m s s e

  pub no_loop : (k s : ℕ) → chain next k s ≡ false → on_loop m next s ≡ false
  no_loop k s e = is_false (on_loop m next s) (λ h. not_both (chain next k s) (loop_chain next k s (on_loop_lem s h)) e)

  pub loop_at : loop_place m next < m → OnLoop next (loop_place m next)
  loop_at h = on_loop_lem (loop_place m next) (here (on_loop m next) m h)

  pub chain_at : chain_place m next < m → Chain next chain_steps (chain_place m next)
  chain_at h = chain_is next chain_steps (chain_place m next) (here (chain next chain_steps) m h)

  pub chain_first : (s : ℕ) → s < chain_place m next → Chain next chain_steps s → ⊥
  chain_first s h c = not_both (chain next chain_steps s) (is_chain next chain_steps s c) (not_before (chain next chain_steps) m s h)

  module _ (inside : (s t : ℕ) → In t (next s) → t < m) where
    pub loop_on : (s : ℕ) → OnLoop next s → on_loop m next s ≡ true
    unfolding on_loop
    loop_on s l = reached_via next m inside l

    pub loop_first : (s : ℕ) → s < loop_place m next → OnLoop next s → ⊥
    loop_first s h l = not_both (on_loop m next s) (loop_on s l) (not_before (on_loop m next) m s h)
