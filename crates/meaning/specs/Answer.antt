-- A call (paper 01, "What the judge does", "What is left in the areas", "Refusal table"): a record sheet and a rule sheet with their texts, the
-- cells and the list, and what becomes of them. The full call judges in whole; the call for the verdict only (paper 02, #105) judges cut, and has no list.
-- Assumes nothing.
use Rattle.std.specs.Prelude.{ℕ, ◌+◌, ◌*◌, Bool, true, false, List, [], ◌∷◌, ◌++◌, ltb, length, drop}
use Rattle.sheet.specs.Refusals.{Outcome, accepted, refused, Line, first_line}
use Rattle.sheet.specs.Doc.{Doc}
use Rattle.sheet.specs.Record.{rows_word, doc_of}
use Rattle.sheet.specs.Faults.{record_lines}
use Rattle.rulesheet.specs.Ruleset.{Ruleset}
use Rattle.rulesheet.specs.Sheet.{schemas_word, rules_of}
use Rattle.rules.specs.Check.{rule_lines}
use Rattle.meaning.specs.Rules.{Way, whole, cut, truth}
use Rattle.meaning.specs.Settling.{root, settled, list, cells, marked}

-- the verdict, with the number of settled pairs and that of marked children of the root; or a refusal's number and place
pub data Answer : Type 0 where
  valid invalid refuses : ℕ → ℕ → Answer

abbrev pub verdict : Bool → ℕ → ℕ → Answer
verdict true count marks = valid count marks
verdict false count marks = invalid count marks

-- an answer but for its count: valid or invalid with the marked children, or the refusal
abbrev pub uncounted : Answer → Answer
uncounted (valid count marks) = valid 0 marks
uncounted (invalid count marks) = invalid 0 marks
uncounted (refuses number place) = refuses number place

-- the number for C: the lowest byte tells the case, the rest is the count or the place
abbrev pub number_for_c : Answer → ℕ
number_for_c (valid count marks) = count * 256
number_for_c (invalid count marks) = count * 256 + 1
number_for_c (refuses number place) = place * 256 + (10 + number)

-- what a call gives, and what it leaves in the areas
pub record Left : Type 0 where
  pub answer : Answer
  pub cells : List ℕ
  pub list : List ℕ

-- how many places of the list are asked: a cut call has no list
abbrev pub list_room : Way → ℕ → ℕ
list_room whole size = size
list_room cut size = 0

-- the table's last two lines, for areas of these lengths of which `size` places are asked
abbrev pub area_lines : Way → ℕ → ℕ → ℕ → List Line
area_lines w size cells_long list_long =
    record { number = 10; applies = ltb cells_long size; place = size } ∷ record { number = 11; applies = ltb list_long (list_room w size); place = size } ∷ []

-- as many words of the list are written as there are settled pairs; a cut call writes none
abbrev pub list_left : Way → Doc → Ruleset → ℕ → ℕ → List ℕ → List ℕ
list_left whole D R n m ls = list D R n m ++ drop (length (settled D R whole)) ls
list_left cut D R n m ls = ls

-- a judgement writes the first n × m cells, and the list
unfoldable pub judged : Way → Doc → Ruleset → ℕ → ℕ → List ℕ → List ℕ → Left
judged w D R n m cs ls =
    record {
      answer = verdict (truth D R root).holds (length (settled D R w)) (marked D R n m);
      cells = cells D R n m w ++ drop (n * m) cs;
      list = list_left w D R n m ls;
    }

-- a refused call changes nothing
abbrev pub unless : Outcome → List ℕ → List ℕ → Left → Left
unless (accepted rows) cs ls left = left
unless (refused number place) cs ls left = record { answer = refuses number place; cells = cs; list = ls }

-- the refusal table
abbrev pub table : Way → (ws ts rs us cs ls : List ℕ) → List Line
table w ws ts rs us cs ls = record_lines ws ts ++ (rule_lines rs us ++ area_lines w (rows_word ws * schemas_word rs) (length cs) (length ls))

unfoldable pub judge : Way → (ws ts rs us cs ls : List ℕ) → Left
judge w ws ts rs us cs ls =
    let left = judged w (doc_of ws ts) (rules_of rs us) (rows_word ws) (schemas_word rs) cs ls in
    unless (first_line (table w ws ts rs us cs ls) 0) cs ls left

-- opens this module to a computation
unfoldable pub answer_computes : Unit {0}
unfolding first_line judged judge
answer_computes = tt
