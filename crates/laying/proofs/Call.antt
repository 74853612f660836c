-- From the first pass to the call, and from its end to what the whole call gives (reader/specs/Call.antt).
--     countable    a text whose bytes were counted
--     reads        what is answered for it
-- Assumes nothing.
use mathlib.Core.List.{List}
use mathlib.Core.Option.{none, some}
use mathlib.Core.Path.{◌≡◌, subst}
use Prim.Native.Nat.{ℕ, ◌≤◌}
use lib.ListN.{length}
use Rattle.sheet.specs.Kinds.{number_max}
use Rattle.jsontext.specs.Text.{Text, bytes}
use Rattle.jsontext.specs.Starts.{text_starts}
use Rattle.jsontext.specs.Automaton.{start}
use Rattle.jsontext.specs.Along.{along}
use Rattle.reader.specs.Faults.{first_fault}
use Rattle.reader.specs.Call.{input_max, Reads, is_text}
use Rattle.tally.specs.declared.Units.{Units}
use Rattle.tally.specs.Tallying.{no_tally, tally_of, tallying}
use Rattle.tally.proofs.Tallied.{Tallied, tallied}
use Rattle.std.specs.Prelude.{Result}
use Rattle.laying.specs.declared.Refused.{Refused}
use Rattle.laying.specs.Laying.{outcome_of, Countable, Laid}

pub countable : (t : Text) {json : List ℕ} → bytes t ≡ json → first_fault 0 (text_starts number_max t) ≡ none
    → (u : Units) (values texts : List ℕ) → along tallying json (some start) no_tally ≡ tally_of u values texts → Countable json values texts
countable t e clean u values texts h =
    record {
      of = t;
      spelled = e;
      clean = clean;
      units = u;
      counted = subst (Tallied t) h (rw e at (tallied t));
    }

pub reads : (t : Text) {json words room words' room' : List ℕ} {r : Result ℕ Refused} → length json ≤ input_max → bytes t ≡ json → Laid t words room r words' room'
    → Reads json words room (record { outcome = outcome_of r; words = words'; room = room' })
reads t {words = words} {room = room} l e h = rw (h.answered, h.words_are, h.room_is) (is_text t l e)
