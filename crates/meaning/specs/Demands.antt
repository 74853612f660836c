-- The three demands, in the order and the words of the letter, said of one call, full or for the verdict only: of its answer, of the cells and of the list
-- that it leaves. The theorems are `demands` (`proofs/Demands.antt`), of the answer that the specification gives; `judge_demands` (crate `judge`), of every call of the judge; and
-- `number_demands` (crate `hub`), of the number that C gets.
-- Assumes nothing.
use Rattle.std.specs.Prelude.{ℕ, ◌+◌, ◌*◌, ◌≤◌, ◌<◌, Bool, true, false, ◌↔◌, ◌≡◌, length, get_or, take, drop}
use mathlib.Core.List.{List, [], ◌∷◌, ◌++◌, map, Memᴰ as In}
use Rattle.utf8.specs.Encoding.{Utf8}
use Rattle.utf8.specs.Automaton.{is_utf8}
use Rattle.sheet.specs.Refusals.{Line}
use Rattle.sheet.specs.Doc.{Doc, first_child, child_count, Child}
use Rattle.sheet.specs.Record.{rows_word, doc_of}
use Rattle.rulesheet.specs.Ruleset.{Clause, Ruleset, next}
use Rattle.rulesheet.specs.Sheet.{schemas_word, rules_of}
use Rattle.unguarded.specs.Graph.{chain_steps, OnLoop, Chain}
use Rattle.meaning.specs.Lists.{range, keep}
use Rattle.meaning.specs.Rules.{Pair, Marks, Result, Way, whole, cut}
use Rattle.meaning.specs.Derivation.{Schema}
use Rattle.meaning.specs.Keywords.{WellSpelled, Assertions, Reaches, Joinings}
use Rattle.meaning.specs.Settling.{root, shown}
use Rattle.meaning.specs.Once.{Distinct, Once, Cut}
use Rattle.meaning.specs.Answer.{refuses, verdict, Left, table}

-- ---- the words

-- `line` is the first of the lines that applies
pub record First (lines : List Line) (line : Line) : Type 0 where
  pub before : List Line
  pub after : List Line
  pub parted : lines ≡ before ++ line ∷ after
  pub passed : (l : Line) → In l before → l.applies ≡ false
  pub given : line.applies ≡ true

-- none of the lines applies
abbrev pub NoneOf : List Line → Type 0
NoneOf lines = (l : Line) → In l lines → l.applies ≡ false

-- none of the lines that stand before one of number k applies
abbrev pub NoneBefore : ℕ → List Line → Type 0
NoneBefore k lines = (before after : List Line) (line : Line) → lines ≡ before ++ line ∷ after → line.number ≡ k → NoneOf before

-- s is the lowest of m schemas that P is true of
abbrev pub LowestOf : (ℕ → Type 0) → ℕ → ℕ → Type 0
LowestOf P m s = (s < m) × P s × ((t : ℕ) → t < s → P t → ⊥)

-- the children of a row, and how many of them are marked
abbrev pub children_of : Doc → ℕ → List ℕ
children_of D j = range (first_child (D.value j)) (child_count (D.value j))

abbrev pub marked_of : Doc → ℕ → Marks → ℕ
marked_of D j κ = length (keep κ (children_of D j))

-- 0 if the pair p was not settled, 1 if it held, 2 if it failed: r is its result
pub data Shows (settled : List Pair) (p : Pair) (r : Result) : ℕ → Type 0 where
  unsettled : (In p settled → ⊥) → Shows settled p r 0
  held : In p settled → r.holds ≡ true → Shows settled p r 1
  failed : In p settled → r.holds ≡ false → Shows settled p r 2

-- 4 if row j is above 0, the pair `up` of its owner was settled, and its marks include j, and else 0: r is the result of `up`
pub data Adds (settled : List Pair) (j : ℕ) (up : Pair) (r : Result) : ℕ → Type 0 where
  marked : 0 < j → In up settled → r.marks j ≡ true → Adds settled j up r 4
  at_root : j ≡ 0 → Adds settled j up r 0
  owner_unsettled : (In up settled → ⊥) → Adds settled j up r 0
  unmarked : r.marks j ≡ false → Adds settled j up r 0

-- a cell is what it shows of its pair and what it adds for its row
pub record CellIs (settled : List Pair) (own up : Pair) (t : Pair → Result) (cell : ℕ) : Type 0 where
  pub verdict_part : ℕ
  pub mark_part : ℕ
  pub shows : Shows settled own (t own) verdict_part
  pub adds : Adds settled own.row up (t up) mark_part
  pub together : cell ≡ verdict_part + mark_part

-- ---- the demands

module _ (w : Way) (ws ts rs us cells₀ list₀ : List ℕ) where
  abbrev lines : List Line
  lines = table w ws ts rs us cells₀ list₀

  abbrev D : Doc
  D = doc_of ws ts

  abbrev R : Ruleset
  R = rules_of rs us

  abbrev n : ℕ
  n = rows_word ws

  abbrev m : ℕ
  m = schemas_word rs

  -- 1. "What is refused, with which number and place, is exactly the table; a refused call leaves the areas as they were." That a call ends, stays within
  -- what it is lent and relies on no check by the caller is what it is for a function of Rattle to have a proved contract that requires nothing
  pub record Total (left : Left) : Type 0 where
    -- the first line that applies, the areas as they were
    pub refused : (line : Line) → First lines line → left ≡ record { answer = refuses line.number line.place; cells = cells₀; list = list₀ }
    -- and no other
    pub only_refused : (number place : ℕ) → left.answer ≡ refuses number place → (line : Line) × First lines line × (line.number ≡ number) × (line.place ≡ place)
    -- 8 and 9, where no line before them applies: the lowest schema on an unguarded loop, and the lowest that starts an unguarded chain of 33 schemas
    pub loop : NoneBefore 8 lines → (p : ℕ) → (left.answer ≡ refuses 8 p) ↔ LowestOf (OnLoop (next R)) m p
    pub chain : NoneBefore 9 lines → (p : ℕ) → (left.answer ≡ refuses 9 p) ↔ LowestOf (Chain (next R) chain_steps) m p
    -- 13 asks of bytes whether they are those of a list of code points
    pub text : (bytes : List ℕ) → (is_utf8 bytes ≡ true) ↔ Utf8 bytes

  -- 2. "Otherwise the verdict and the marked children are those that the rules derive, for the root and for every pair settled on the way." t is what the
  -- rules derive of each pair
  pub record Right (left : Left) (t : Pair → Result) (settled : List Pair) : Type 0 where
    pub verdict_is : left.answer ≡ verdict (t root).holds (length settled) (marked_of D 0 (t root).marks)
    pub cell_is : (j s : ℕ) → j < n → s < m
        → CellIs settled (record { row = j; rule = s }) (record { row = D.owner j; rule = s }) t (get_or left.cells (j * m + s) 0)
    pub cells_after : drop (n * m) left.cells ≡ drop (n * m) cells₀
    pub cells_long : length left.cells ≡ length cells₀

  -- 3. "The settling list holds each pair the derivation applies, the root included, once and no other, each after all those it applies; the count is the
  -- list's length, at most record rows × rule rows." The count is that of `verdict_is`. This is said of the full call only
  pub record Listed (left : Left) (settled : List Pair) : Type 0 where
    pub words : take (length settled) left.list ≡ map (λ p. p.row * m + p.rule) settled
    pub words_after : drop (length settled) left.list ≡ drop (length settled) list₀
    pub words_distinct : Distinct (take (length settled) left.list)
    pub pairs : Once D R n m settled

  -- of the call for the verdict only: the pairs settled are those that cut judgements reach, the count is the number of settled cells, and no list is written
  pub record Reaching (left : Left) (settled : List Pair) : Type 0 where
    pub cells_counted : shown (take (n * m) left.cells) ≡ length settled
    pub no_list : left.list ≡ list₀
    pub pairs : Cut D R n m settled

  abbrev pub Settles : Way → Left → List Pair → Type 0
  Settles whole left settled = Listed left settled
  Settles cut left settled = Reaching left settled

  -- what a call that is not refused leaves, whatever derivations of the pairs are looked at
  abbrev pub Judged : Left → Type 0
  Judged left = (settled : List Pair) × Settles w left settled × ((t : Pair → Result) → ((p : Pair) → Schema D R p (t p)) → Right left t settled)

  -- every pair has a derivation, all of them give one result, and its marks are of children, none if it fails
  pub record Derived (p : Pair) : Type 0 where
    pub result : Result
    pub tree : Schema D R p result
    pub one_result : (r : Result) → Schema D R p r → r ≡ result
    pub of_children : (k : ℕ) → result.marks k ≡ true → Child D p.row k
    pub none_failed : result.holds ≡ false → (k : ℕ) → result.marks k ≡ false

  pub record Demands (left : Left) : Type 0 where
    pub total : Total left
    -- the rules are those of document 000: schemas and lists of keywords are the trees' constructors, and each keyword's rule in words is
    pub assertions : Assertions D
    -- every string of a record that is judged has a length
    pub readable : NoneOf lines → (j : ℕ) → WellSpelled (D.value j)
    pub reaches : (p : Pair) (before : List Clause) (κ : Marks) → Reaches D p before κ
    pub joinings : Joinings
    pub derived : NoneOf lines → (p : Pair) → Derived p
    pub judged : NoneOf lines → Judged left
