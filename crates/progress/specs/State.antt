-- What the areas show while a record is judged, and what the judging functions ask and leave.
-- Assumes nothing.
use Rattle.std.specs.Prelude.{ℕ, ◌*◌, ◌<◌, false, cond, List, [], ◌∷◌, map, ◌≡◌, length, get_or}
use Rattle.meaning.specs.Rules.{Pair, Marks, ◌∪◌, Result, answer, applied, clause, depth, truth}
use Rattle.meaning.specs.Settling.{same_pair, listed, in_turn, settle, shown}
use Rattle.meaning.specs.Fit.{rank}
use Rattle.areas.specs.Cells.{cell_at, verd, Unsettled, bit, settled_as, column}
use Rattle.told.specs.Read.{NamesOnly}
use Rattle.steps.specs.Turns.{NamesMarked}
use Rattle.lent.specs.Lent.{Case, Fits, InCase, Kid, clause_at, before_of}
use Rattle.progress.specs.declared.Done.{Done}

abbrev pub rank_of : Case → Pair → ℕ
rank_of T p = rank T.doc T.rules p

abbrev pub truth_of : Case → Pair → Result
truth_of T p = truth T.doc T.rules p

-- the pairs settled once p is applied, where `done` were before
unfoldable pub settle_of : Case → Pair → List Pair → List Pair
settle_of T p done = settle T.doc T.rules T.way depth p done

-- ---- the areas

-- the marks of a pair, as they stand in the cells
unfoldable pub bits_of : ℕ → List ℕ → Pair → Marks
bits_of m cells q k = column m cells q.rule k

-- `held`, but for the pair p, whose marks are κ
unfoldable pub overlay : Pair → Marks → (Pair → Marks) → Pair → Marks
overlay p κ held q k = cond (same_pair q p) (κ k) (held q k)

-- words written over the first of a list, as far as it has places: over one of no places none is
unfoldable pub written : List ℕ → List ℕ → List ℕ
written [] list = list
written (w ∷ ws) [] = []
written (w ∷ ws) (x ∷ list) = w ∷ written ws list

-- The cells show that the pairs `done` are settled and no other; of a pair that is not settled the marks are those of `held`. The list has them in this
-- order, as far as it has places, and is after them as in list₀.
pub record Areas (T : Case) (done : List Pair) (held : Pair → Marks) (list₀ cells list : List ℕ) (count : ℕ) : Type 0 where
  pub long : length cells ≡ T.n * T.m
  pub counts : count ≡ length done
  pub counted : shown cells ≡ count
  pub small : (i : ℕ) → get_or cells i 0 < 8
  pub said : (p : Pair) → InCase T p → verd (get_or cells (cell_at T.m p) 0) ≡ cond (listed p done) (settled_as (truth_of T p).holds) 0
  pub shown : (p : Pair) (k : ℕ) → InCase T p → Kid T p.row k
      → column T.m cells p.rule k ≡ cond (listed p done) ((truth_of T p).marks k) (held p k)
  pub top : (s : ℕ) → s < T.m → bit (get_or cells s 0) ≡ false
  pub lists : list ≡ written (map (cell_at T.m) done) list₀

-- no pair below the rank t has marks before it is settled
unfoldable pub Quiet : Case → ℕ → List Pair → (Pair → Marks) → Type 0
Quiet T t done held = (q : Pair) (k : ℕ) → InCase T q → rank_of T q < t → listed q done ≡ false → Kid T q.row k → held q k ≡ false

-- ---- what the judging functions ask and leave

pub record Ready (T : Case) (t : ℕ) (p : Pair) (cells list : List ℕ) (count : ℕ) : Type 0 where
  pub fit : Fits T
  pub inside : InCase T p
  pub done : List Pair
  pub areas : Areas T done (bits_of T.m cells) list cells list count
  pub quiet : Quiet T t done (bits_of T.m cells)

-- where the clauses before clause i of p mark no member but those that they name, the marks of p tell which those are
abbrev pub Named : Case → Pair → ℕ → List ℕ → Type 0
Named T p i cells = NamesOnly (before_of T p i) → NamesMarked T.doc p (before_of T p i) 0 (column T.m cells p.rule)

-- P of whichever pairs the areas show settled, in an order of theirs: of a list without places the cells alone show them
abbrev pub WhereDone : Case → (cells list : List ℕ) → ℕ → (List Pair → Type 0) → Type 0
WhereDone T cells list count P = (done : List Pair) → Areas T done (bits_of T.m cells) list cells list count → P done

-- what applying a pair leaves, and judging it: the pair settled, with those that it applies, and the areas otherwise as they were
pub record Judged (T : Case) (p : Pair) (cells₀ list₀ : List ℕ) (count₀ : ℕ) (cells list : List ℕ) (count : ℕ) : Type 0 where
  pub areas : WhereDone T cells₀ list₀ count₀ (λ done. Areas T (settle_of T p done) (bits_of T.m cells₀) list₀ cells list count)
  pub settled : verd (get_or cells (cell_at T.m p) 0) ≡ settled_as (truth_of T p).holds

-- what judging clause i of p leaves, at the marks of p that stood in the cells
pub record ClauseJudged (T : Case) (p : Pair) (i : ℕ) (cells₀ list₀ : List ℕ) (count₀ : ℕ) (cells list : List ℕ) (r : Done) : Type 0 where
  pub areas :
      let κ = bits_of T.m cells₀ p in
      let J = clause T.doc T.way p (before_of T p i) κ (clause_at T p i) in
      WhereDone T cells₀ list₀ count₀
      (λ done. Areas T (in_turn (settle_of T) (applied (truth_of T) J) done) (overlay p (κ ∪ (answer (truth_of T) J).marks) (bits_of T.m cells₀)) list₀ cells list r.count)
  pub said : r.ok ≡ (answer (truth_of T) (clause T.doc T.way p (before_of T p i) (bits_of T.m cells₀ p) (clause_at T p i))).holds
  pub free : Unsettled T.m p cells
