-- Refusals 8 and 9 of a rule sheet (paper 01, "Refusal table"): 8 is an unguarded loop, and its place the lowest schema on one, reachable from schema 0 or
-- not; 9 is an unguarded chain of 33 schemas, and its place the lowest schema that starts one. 8 comes before 9. A place that is the number of schemas says
-- that there is none.
-- Assumes nothing.
use Rattle.std.specs.Prelude.{List, ◌≡◌, ℕ}
use Rattle.laws.specs.Lowest.{lowest}
use Rattle.rulesheet.specs.Sheet.{schemas_word, next_of}
use Rattle.unguarded.specs.declared.Unguarded.{Unguarded}
use Rattle.unguarded.specs.Graph.{chain_steps, chain, on_loop}

-- the place of 8 in a graph of m schemas, or m
abbrev pub loop_place : ℕ → (ℕ → List ℕ) → ℕ
loop_place m next = lowest (on_loop m next) m

-- the place of 9, or m
abbrev pub chain_place : ℕ → (ℕ → List ℕ) → ℕ
chain_place m next = lowest (chain next chain_steps) m

-- what the check of a sheet gives
pub record Placed (ws : List ℕ) (r : Unguarded) : Type 0 where
  pub looped_is : r.looped ≡ loop_place (schemas_word ws) (next_of ws)
  pub long_is : r.long ≡ chain_place (schemas_word ws) (next_of ws)
