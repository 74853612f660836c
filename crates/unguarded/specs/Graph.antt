-- Unguarded loops and chains (paper 01, the end of "Rules of judgement": a schema reaches another unguarded by 30 to 34, and a loop of such steps is
-- refused, even if the root never comes there; "Refusal table", 9: a chain of 33 schemas is refused). `next s` are the schemas that s reaches unguarded in
-- one step, and `In t (next s)` says that t is one of them. First the rule, with no algorithm in it; then the same as functions that compute; then what is
-- true where nothing is refused.
-- Assumes nothing.
use Rattle.std.specs.Prelude.{Bool, true, false, ◌&&◌, ◌||◌, cond, ℕ, zero, suc, ◌<◌, eqb}
use mathlib.Core.List.{List, [], ◌∷◌, Memᴰ as In}

-- the steps of a chain that is refused: it has 33 schemas
abbrev pub chain_steps : ℕ
chain_steps = 32

-- ---- the rule

-- a path of k unguarded steps that ends at u
pub data Path (next : ℕ → List ℕ) (u : ℕ) : ℕ → ℕ → Type 0 where
  here : Path next u 0 u
  step : {k s t : ℕ} → In t (next s) → Path next u k t → Path next u (suc k) s

-- t is reached from s by one step or more
abbrev pub Reached : (ℕ → List ℕ) → ℕ → ℕ → Type 0
Reached next s t = (k : ℕ) × Path next t (suc k) s

-- s is on a loop: it reaches itself. A schema that only leads into a loop is not on it
abbrev pub OnLoop : (ℕ → List ℕ) → ℕ → Type 0
OnLoop next s = Reached next s s

-- a chain of k steps, which has k + 1 schemas, starts at s
abbrev pub Chain : (ℕ → List ℕ) → ℕ → ℕ → Type 0
Chain next k s = (t : ℕ) × Path next t k s

-- ---- the same, computed

-- one of the numbers passes the test
unfoldable pub some_of : (ℕ → Bool) → List ℕ → Bool
some_of test [] = false
some_of test (x ∷ xs) = test x || some_of test xs

module _ (next : ℕ → List ℕ) where
  -- a chain of k steps starts at s
  unfoldable pub chain : ℕ → ℕ → Bool
  chain zero s = true
  chain (suc k) s = some_of (chain k) (next s)

  -- t is reached from s by way of schemas below k alone
  unfoldable pub via : ℕ → ℕ → ℕ → Bool
  via zero s t = some_of (eqb t) (next s)
  via (suc k) s t = via k s t || via k s k && via k k t

  -- the steps of the longest chain that starts at s, of those with at most k steps
  unfoldable pub longest : ℕ → ℕ → ℕ
  longest zero s = 0
  longest (suc k) s = let shorter = longest k s in cond (chain (suc k) s) (suc k) shorter

-- s is on a loop of a graph of m schemas
unfoldable pub on_loop : ℕ → (ℕ → List ℕ) → ℕ → Bool
on_loop m next s = via next m s s

-- ---- where nothing is refused

-- no loop, no chain of 33 schemas, and for each schema a number that falls along every unguarded step
pub record Grounded (next : ℕ → List ℕ) : Type 0 where
  pub no_loop : (s : ℕ) → OnLoop next s → ⊥
  pub short : (k s : ℕ) → Chain next k s → k < chain_steps
  pub low : (s : ℕ) → longest next chain_steps s < chain_steps
  pub falls : (s t : ℕ) → In t (next s) → longest next chain_steps t < longest next chain_steps s
