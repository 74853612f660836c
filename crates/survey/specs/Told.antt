-- What the first pass tells of a text: the number of the first fault, or 0, and how many bytes are left from its start on.
-- Assumes nothing.
use Rattle.std.specs.Prelude.{List, [], ◌∷◌, ℕ, length}
use Rattle.std.proofs.Math.Option.{Option, none, some}
use Rattle.jsontext.specs.Sightings.{What, a_value, a_name, an_escape}
use Rattle.jsontext.specs.Starts.{Start}
use Rattle.reader.specs.Faults.{Fault}

pub record Told : Type 0 where
  pub number : ℕ
  pub left : ℕ

unfoldable pub told : Option Fault → Told
told none = record { number = 0; left = 0 }
told (some f) = record { number = f.number; left = length f.behind }

abbrev pub unless_name : What → Start → List Start → List Start
unless_name a_value s ss = s ∷ ss
unless_name a_name s ss = ss
unless_name an_escape s ss = s ∷ ss

-- the starts of values and escapes: names are not asked
unfoldable pub unnamed : List Start → List Start
unnamed [] = []
unnamed (s ∷ ss) = unless_name s.seen.what s (unnamed ss)
