-- The whole run, after both sheets were checked: what it asks, and what it leaves.
-- Assumes nothing.
use Rattle.std.specs.Prelude.{ℕ, ◌*◌, ◌≤◌, List, ◌≡◌, length, get_or}
use Rattle.meaning.specs.Answer.{Left, verdict, list_room, judged}
use Rattle.run.specs.declared.Verdict.{Verdict}
use Rattle.lent.specs.Lent.{Case, Fits}

-- areas of exactly n × m places; of the list none, if judging is cut
pub record Exact (T : Case) (cells list : List ℕ) : Type 0 where
  pub fit : Fits T
  pub cells_long : length cells ≡ T.n * T.m
  pub list_long : length list ≡ list_room T.way (T.n * T.m)

-- and every cell is 0
pub record Fresh (T : Case) (cells list : List ℕ) : Type 0 where
  pub exact : Exact T cells list
  pub blank : (k : ℕ) → get_or cells k 0 ≡ 0

-- areas of as many places or more
pub record Roomy (T : Case) (cells list : List ℕ) : Type 0 where
  pub fit : Fits T
  pub cells_long : T.n * T.m ≤ length cells
  pub list_long : list_room T.way (T.n * T.m) ≤ length list

-- a verdict and areas, as the specification of the whole call has them
abbrev pub left_by : Verdict → List ℕ → List ℕ → Left
left_by r cells list = record { answer = verdict r.ok r.count r.marked; cells = cells; list = list }

abbrev pub judged_of : Case → List ℕ → List ℕ → Left
judged_of T cells list = judged T.way T.doc T.rules T.n T.m cells list
