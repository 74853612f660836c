-- Refusals 22 to 26 of a JSON text (02, #101): of all that is at fault, what starts first is given; at one byte, in the order of the table.
-- Assumes nothing.
use Rattle.std.specs.Prelude.{cond, List, [], ◌∷◌, ℕ, suc, eqb}
use Rattle.std.proofs.Math.Option.{Option, none, some}
use Rattle.sheet.specs.Record.{rows_max}
use Rattle.sheet.specs.Faults.{level_refused}
use Rattle.jsontext.specs.Sightings.{What, a_value, a_name, an_escape}
use Rattle.jsontext.specs.Starts.{Start}

-- 22 the 1,025th value, 23 a number too wide, 24 level 33
unfoldable pub value_fault : ℕ → Start → Option ℕ
value_fault before s =
    cond (eqb before rows_max) (some 22)
    (cond s.amiss (some 23)
    (cond (eqb s.seen.level level_refused) (some 24) none))

-- what is wrong with a value, a name or an escape that starts after so many values: 25 a name repeated, 26 a lone surrogate
abbrev pub fault_by : What → ℕ → Start → Option ℕ
fault_by a_value before s = value_fault before s
fault_by a_name before s = cond s.amiss (some 25) none
fault_by an_escape before s = cond s.amiss (some 26) none

-- how many values there are then
abbrev pub count_by : What → ℕ → ℕ
count_by a_value before = suc before
count_by a_name before = before
count_by an_escape before = before

-- the refusal's number, and the bytes from the fault's start on
pub record Fault : Type 0 where
  pub number : ℕ
  pub behind : List ℕ

abbrev pub or_else : Option ℕ → List ℕ → Option Fault → Option Fault
or_else none bs later = later
or_else (some n) bs later = some (record { number = n; behind = bs })

-- the first fault of what starts after so many values
unfoldable pub first_fault : ℕ → List Start → Option Fault
first_fault before [] = none
first_fault before (s ∷ ss) =
    or_else (fault_by s.seen.what before s) s.seen.behind (first_fault (count_by s.seen.what before) ss)
