-- A sample, computed.
-- Assumes nothing.
use mathlib.Core.Bool.{true}
use mathlib.Core.List.{[], ◌∷◌}
use mathlib.Core.Path.{◌≡◌, refl}
use Rattle.text.specs.Part.{part}
use Rattle.utf8.specs.Automaton.{is_utf8, automaton_computes}
use Rattle.utf8range.specs.Places.{continues, inside}

-- An empty part is UTF-8 also where it stands inside a character.
empty_inside : (inside (0xC5 ∷ 0xBB ∷ []) 1 ≡ true) × (is_utf8 (part (0xC5 ∷ 0xBB ∷ []) (record { start = 1; length = 0 })) ≡ true)
unfolding inside continues part automaton_computes
empty_inside = (refl, refl)
