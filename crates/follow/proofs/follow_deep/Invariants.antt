-- `follow::follow_deep` meets its contract. The loop's invariant: what is left, from the state on, comes to what there was.
-- Assumes nothing.
use mathlib.Core.Path.{◌≡◌}
use Prim.Native.Nat.{◌≤◌, ◌<◌}
use Rattle.jsontext.specs.Automaton.{at}
use Rattle.grammar.specs.Codes.{place_at}
use lib.ListN.{length}
use Rattle.brackets.specs.Brackets.{brackets, Fits}
use Rattle.follow.specs.Following.{all_open}
use Rattle.follow.proofs.Going.{Going}
use Rattle.follow.proofs.follow_deep.Given as goal

abbrev pub invariant-loop-at : goal.invariant-loop-at
invariant-loop-at l =
    Going l.json l.from (at (place_at l.place) (brackets l.initial.s.opened)) l.at (at (place_at l.p) (all_open l.table l.s)) × (l.p < 50) × Fits l.s.opened × (l.s.more ≤ l.at) × (length l.table ≡ 65_536)
