-- The table of chain lengths: for each schema the steps of a chain that starts there, raised in passes until no chain is longer. Lengths are told up to 32
-- steps; a chain of 32 steps is refused, however it goes on.
-- Assumes nothing.
use Rattle.std.specs.Prelude.{Bool, true, false, ◌⊎◌, ◌≡◌, ℕ, ◌+◌, ◌≤◌, ◌<◌, leb, length, get_or}
use mathlib.Core.List.{List, Memᴰ as In}
use Rattle.rulesheet.specs.declared.form.RuleForm.{RuleForm}
use Rattle.rulesheet.specs.Sheet.{schemas_word, clauses_word, schema_at, targets_of, next_of}
use Rattle.rulesheet.specs.Read.{RulesLaid}
use Rattle.unguarded.specs.Graph.{chain_steps, chain}
use Rattle.unguarded.specs.Worklist.{Marked}

-- ---- clauses

-- no clause from `from` up to `to` has a step
pub record Quiet (ws : List ℕ) (from to : ℕ) : Type 0 where
  pub low : from ≤ to
  pub none : (k : ℕ) → from ≤ k → k < to → length (targets_of ws k) ≡ 0

-- clause k is one of schema s
pub record Takes (ws : List ℕ) (s k : ℕ) : Type 0 where
  pub inside : s < schemas_word ws
  pub low : (schema_at ws s).first ≤ k
  pub high : k < (schema_at ws s).first + (schema_at ws s).count

-- the clauses of the schemas after s come after clause k
abbrev pub StartAfter : List ℕ → ℕ → ℕ → Type 0
StartAfter ws s k = (u : ℕ) → s < u → u < schemas_word ws → k < (schema_at ws u).first

-- ---- one length

-- r is `most`, or told by a step to a schema with a chain of `length` steps, if that is more
pub record Longer (most length r : ℕ) : Type 0 where
  pub more : most ≤ r
  pub full : r ≤ chain_steps
  pub above : r < chain_steps → length < r
  pub by : (r ≡ most) ⊎ (r ≤ length + 1)

-- the same of steps to all of ts
pub record Raised (ts table : List ℕ) (most r : ℕ) : Type 0 where
  pub more : most ≤ r
  pub full : r ≤ chain_steps
  pub above : (t : ℕ) → In t ts → r < chain_steps → get_or table t 0 < r
  pub by : (r ≡ most) ⊎ ((t : ℕ) × (In t ts × (r ≤ get_or table t 0 + 1)))

-- those of ts that do not come after s were marked
pub record Noted (s : ℕ) (ts : List ℕ) (late₀ late : List Bool) : Type 0 where
  pub kept : (t : ℕ) → Marked late₀ t → Marked late t
  pub marked : (t : ℕ) → In t ts → t ≤ s → Marked late t

-- ---- the table

module _ (m : ℕ) (next : ℕ → List ℕ) where
  -- no length is told that no chain has
  pub record Told (table : List ℕ) : Type 0 where
    pub room : m ≤ length table
    pub low : (s : ℕ) → get_or table s 0 ≤ chain_steps
    pub has : (s : ℕ) → chain next (get_or table s 0) s ≡ true

  -- along each step, `high` tells a longer chain than `low`, up to 32 steps
  pub record Over (low high : List ℕ) : Type 0 where
    pub rises : (s t : ℕ) → In t (next s) → get_or high s 0 < chain_steps → get_or low t 0 < get_or high s 0

  -- a pass is done; where it was not to be done again, no length is too short
  pub record Passed (table₀ table : List ℕ) (again : Bool) : Type 0 where
    pub told : Told table
    pub each : Over table₀ table
    pub all : again ≡ false → Over table table

  -- the table tells which schemas start a chain of 33
  pub record Lengths (table : List ℕ) : Type 0 where
    pub room : m ≤ length table
    pub right : (s : ℕ) → leb chain_steps (get_or table s 0) ≡ chain next chain_steps s

-- what a pass starts from: the clauses from `last` on have no step, no length is told that no chain has, and there is room for marks
pub record Ready (ws : List ℕ) (form : RuleForm) (last : ℕ) (table : List ℕ) (late : List Bool) : Type 0 where
  pub laid : RulesLaid ws form
  pub quiet : Quiet ws last (clauses_word ws)
  pub told : Told (schemas_word ws) (next_of ws) table
  pub room : schemas_word ws ≤ length late
