-- Samples 9 and 10 of paper 01, at the level of unguarded steps: schema 0 reaches itself; schema 1 does, and schema 0 reaches nothing. Then a chain of 33
-- schemas, and one of 32, which is just inside.
-- Assumes nothing.
use mathlib.Core.Bool.{cond}
use mathlib.Core.List.{List, [], ◌∷◌}
use mathlib.Core.Path.{◌≡◌, refl}
use Prim.Native.Nat.{ℕ, suc}
use lib.Dec.{eqb, ltb}
use Rattle.laws.specs.Lowest.{lowest_from}
use Rattle.unguarded.specs.Graph.{some_of, chain, via, on_loop}
use Rattle.unguarded.specs.Places.{loop_place, chain_place}

-- only schema s has a step: to itself
abbrev to_itself : ℕ → ℕ → List ℕ
to_itself s u = cond (eqb u s) (s ∷ []) []

pub sample9 : loop_place 1 (to_itself 0) ≡ 0
unfolding some_of via on_loop lowest_from
sample9 = refl

pub sample10 : loop_place 2 (to_itself 1) ≡ 1
unfolding some_of via on_loop lowest_from
sample10 = refl

-- a chain from schema 0 to schema n
abbrev up_to : ℕ → ℕ → List ℕ
up_to n u = cond (ltb u n) (suc u ∷ []) []

pub chain_of_33 : chain_place 33 (up_to 32) ≡ 0
unfolding some_of chain lowest_from
chain_of_33 = refl

pub chain_of_32 : chain_place 32 (up_to 31) ≡ 32
unfolding some_of chain lowest_from
chain_of_32 = refl
