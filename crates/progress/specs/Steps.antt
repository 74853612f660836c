-- A pair in progress, and a clause of it between two of its steps.
-- Assumes nothing.
use Rattle.std.specs.Prelude.{Bool, false, not, ◌&&◌, List, ◌≡◌, ℕ, ◌+◌, ◌≤◌, ◌<◌}
use Rattle.meaning.specs.Rules.{Pair, Marks}
use Rattle.meaning.specs.Settling.{listed}
use Rattle.plan.specs.Folds.{tally_by, marks_by, done_by}
use Rattle.plan.specs.Plan.{counts_hits, branches, moved, steps_of, aim_of, go_of, way_of, stops_by}
use Rattle.lent.specs.Lent.{Case, Fits, InCase, clause_at, before_of}
use Rattle.progress.specs.State.{rank_of, truth_of, settle_of, bits_of, overlay, Areas, Quiet, WhereDone}

-- p is in progress: its marks are κ, and `done` are settled. No pair below p that is not settled has marks
pub record Going (T : Case) (p : Pair) (held : Pair → Marks) (l₀ : List ℕ) (done : List Pair) (κ : Marks) (cells list : List ℕ) (count : ℕ) : Type 0 where
  pub fit : Fits T
  pub inside : InCase T p
  pub areas : Areas T done (overlay p κ held) l₀ cells list count
  pub free : listed p done ≡ false
  pub quiet : Quiet T (rank_of T p) done held

-- ---- the steps of a clause

module _ (T : Case) (p : Pair) (cl : ℕ) where
  abbrev pub aims : ℕ → Pair
  aims i = aim_of T.doc p (before_of T p cl) (clause_at T p cl) i

  -- what is carried stops the clause; a step goes by the marks, at what is carried
  abbrev pub stopped : ℕ → Bool
  stopped t = stops_by (way_of T.way (clause_at T p cl)) t

  abbrev pub fresh : Marks → ℕ → ℕ → Bool
  fresh κ i t = go_of T.doc p (before_of T p cl) (clause_at T p cl) i (κ (aims i).row) t

  -- what is carried to step i, and whether it goes
  abbrev pub carries : Marks → ℕ → ℕ
  carries κ i = tally_by (truth_of T) (λ x t. not (stopped t) && fresh κ x t) aims (moved (counts_hits (clause_at T p cl)) (branches (clause_at T p cl))) i

  abbrev pub goes : Marks → ℕ → Bool
  goes κ i = not (stopped (carries κ i)) && fresh κ i (carries κ i)

  -- the clause keeps the marks of all that it applies, or of what holds
  abbrev pub keeps : Bool
  keeps = not (counts_hits (clause_at T p cl))

  abbrev pub many : ℕ
  many = steps_of T.doc p (before_of T p cl) (clause_at T p cl)

-- i steps of the clause were taken, and `tally` is carried
pub record Stepped (T : Case) (p : Pair) (cl : ℕ) (d₀ : List Pair) (c₀ l₀ : List ℕ) (i : ℕ) (cells list : List ℕ) (count tally : ℕ) : Type 0 where
  pub going :
      Going T p (bits_of T.m c₀) l₀ (done_by (settle_of T) (goes T p cl (bits_of T.m c₀ p)) (aims T p cl) d₀ i)
      (marks_by (truth_of T) p (keeps T p cl) (goes T p cl (bits_of T.m c₀ p)) (aims T p cl) (bits_of T.m c₀ p) i) cells list count
  pub carried : tally ≡ carries T p cl (bits_of T.m c₀ p) i

-- x of its steps are taken; none is left if what is carried has stopped it
pub record Standing (T : Case) (p : Pair) (cl : ℕ) (d₀ : List Pair) (c₀ l₀ : List ℕ) (x : ℕ) (cells list : List ℕ) (count tally : ℕ) : Type 0 where
  pub steps : Stepped T p cl d₀ c₀ l₀ x cells list count tally
  pub low : x ≤ many T p cl
  pub unstopped : x < many T p cl → stopped T p cl tally ≡ false

-- x of its steps are taken from where judging it began, and so many pairs more are settled, none of which failed
abbrev pub StandsAt : Case → Pair → ℕ → (cells₀ list₀ : List ℕ) → (count₀ x : ℕ) → (cells list : List ℕ) → Type 0
StandsAt T p cl cells₀ list₀ count₀ x cells list = WhereDone T cells₀ list₀ count₀ (λ d. Standing T p cl d cells₀ list₀ x cells list (count₀ + x) 0)
