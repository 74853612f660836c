-- `follow::follow` meets its contract. The loop's invariant: what is left, from the state on, comes to what there was.
-- Assumes nothing.
use Prim.Native.Nat.{◌<◌}
use Rattle.jsontext.specs.Automaton.{at}
use Rattle.grammar.specs.Codes.{place_at}
use Rattle.brackets.specs.Brackets.{brackets, Fits}
use Rattle.follow.proofs.Going.{Going}
use Rattle.follow.proofs.follow.Given as goal

abbrev pub invariant-loop-at : goal.invariant-loop-at
invariant-loop-at l =
    Going l.json l.from (at (place_at l.place) (brackets l.initial.o)) l.at (at (place_at l.p) (brackets l.o)) × (l.p < 50) × Fits l.o
