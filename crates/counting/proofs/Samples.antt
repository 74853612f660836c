-- A sample, computed.
-- Assumes nothing.
use mathlib.Core.List.{[], ◌∷◌}
use mathlib.Core.Path.{◌≡◌, refl}
use Rattle.counting.specs.Counting.{lead_length, count_after, count}

-- a Polish name of four letters in seven bytes
four_letters : count (0xC5 ∷ 0xBB ∷ 0xC3 ∷ 0xB3 ∷ 0x6C ∷ 0xC4 ∷ 0x87 ∷ []) ≡ 4
unfolding count count_after lead_length
four_letters = refl
