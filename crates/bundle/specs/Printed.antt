-- What the bench program prints (paper 01, "The bench program"), in this order: `bad bundle`; the refusal of a sheet, with number and place; `too large`
-- for more than 128 rows or schemas; else the verdict, how many pairs were settled and how many children of the root are marked, and a line for each
-- settled pair, in settling order: record row, rule row, and whether it held.
-- Assumes nothing.
use Rattle.std.specs.Prelude.{Bool, false, cond, Option, Some, None, Result, Ok, Err, ◌||◌, List, map, ◌≡◌, ℕ, ◌+◌, ◌*◌, ◌/◌, ◌%◌, ◌≤◌, ◌<◌, eqb, ltb, length, get_or, take, drop}
use Rattle.sheet.specs.Refusals as S
use Rattle.sheet.specs.Refusals.{refusal_number, Outcome, accepted}
use Rattle.sheet.specs.Doc.{Doc}
use Rattle.sheet.specs.Record.{doc_of}
use Rattle.sheet.specs.Faults.{record_outcome}
use Rattle.rulesheet.specs.Ruleset.{Ruleset}
use Rattle.rulesheet.specs.Sheet.{rules_of}
use Rattle.rules.specs.Check.{rules_outcome}
use Rattle.meaning.specs.Lists.{range}
use Rattle.meaning.specs.Rules.{Pair, whole, truth}
use Rattle.meaning.specs.Settling.{root, settled, marked}
use Rattle.meaning.specs.Answer as A
use Rattle.areas.specs.Cells.{verd}
use Rattle.parts.specs.declared.Parts.{Parts}
use Rattle.bundle.specs.declared.Line.{Line}
use Rattle.bundle.specs.declared.Judgement.{Judgement}
use Rattle.bundle.specs.declared.Unjudged.{Unjudged}
use Rattle.bundle.specs.declared.Unjudged.TheVariants.{BadBundle, Refused, TooLarge}
use Rattle.parts.specs.Bundle.{words_of, parts_of}

-- the most rows and the most schemas that are judged
abbrev pub side_max : ℕ
side_max = 128

abbrev pub is_too_large : ℕ → ℕ → Bool
is_too_large n m = ltb side_max n || ltb side_max m

-- of a judgement: the verdict, the number of schemas (by which the words of the list are read; it is not printed), the marked children of the root, and
-- a line for each settled pair; how many lines there are is printed besides
pub data Printed : Type 0 where
  bad_bundle too_large : Printed
  refused : ℕ → ℕ → Printed
  judged : Bool → ℕ → ℕ → List Line → Printed

-- what is printed, and what is left in the areas
pub record Told : Type 0 where
  pub printed : Printed
  pub cells : List ℕ
  pub list : List ℕ

-- ---- what a bundle gets

unfoldable pub line_of : Doc → Ruleset → Pair → Line
line_of D R p = record { row = p.row; schema = p.rule; held = (truth D R p).holds }

-- the areas are those that judging leaves
unfoldable pub told_judged : Doc → Ruleset → ℕ → ℕ → (cs ls : List ℕ) → Told
told_judged D R n m cs ls =
    record {
      printed = judged (truth D R root).holds m (marked D R n m) (map (line_of D R) (settled D R whole));
      cells = (A.judged whole D R n m cs ls).cells;
      list = (A.judged whole D R n m cs ls).list;
    }

abbrev pub unless_refused : Outcome → (Printed → Told) → (ℕ → Told) → Told
unless_refused (accepted rows) unchanged more = more rows
unless_refused (S.refused number place) unchanged more = unchanged (refused number place)

-- unless it is judged, nothing is written to the areas
unfoldable pub told_sheets : (ws ts rs us cs ls : List ℕ) → Told
told_sheets ws ts rs us cs ls =
    let unchanged : Printed → Told = λ p. record { printed = p; cells = cs; list = ls } in
    unless_refused (record_outcome ws ts) unchanged
    (λ n.
    unless_refused (rules_outcome rs us) unchanged
    (λ m. cond (is_too_large n m) (unchanged too_large) (told_judged (doc_of ws ts) (rules_of rs us) n m cs ls)))

unfoldable pub told_parts : (bs cs ls : List ℕ) → Option Parts → Told
told_parts bs cs ls None = record { printed = bad_bundle; cells = cs; list = ls }
told_parts bs cs ls (Some parts) =
    let a = parts.of_record in
    let b = parts.of_rules in
    let text = a.words in
    let rules = text + a.text in
    let rule_text = rules + b.words in
    told_sheets (words_of (take a.words bs)) (take a.text (drop text bs)) (words_of (take b.words (drop rules bs))) (take b.text (drop rule_text bs)) cs ls

abbrev pub told_of : (bs cs ls : List ℕ) → Told
told_of bs cs ls = told_parts bs cs ls (parts_of bs)

-- ---- what the program's reply says

-- line i, as the areas have it: a word of the list is row × schemas + schema, and the number of the pair's cell
unfoldable pub line_at : (cells list : List ℕ) → ℕ → ℕ → Line
line_at cells list schemas i =
    let word = get_or list i 0 in
    record { row = word / schemas; schema = word % schemas; held = eqb (verd (get_or cells word 0)) 1 }

abbrev pub Reply : Type 0
Reply = Result Judgement Unjudged

abbrev pub printed_by : Reply → (cells list : List ℕ) → Printed
printed_by (Err BadBundle) cells list = bad_bundle
printed_by (Err (Refused r)) cells list = refused (refusal_number r.refusal) r.place
printed_by (Err TooLarge) cells list = too_large
printed_by (Ok j) cells list = judged j.valid j.schemas j.marked (map (line_at cells list j.schemas) (range 0 j.pairs))

-- areas for as many rows and schemas as are judged
pub record Roomy (cells list : List ℕ) : Type 0 where
  pub cells_long : side_max * side_max ≤ length cells
  pub list_long : side_max * side_max ≤ length list

-- both sheets are in order, with n rows and m schemas, not too many of either, and there is room
pub record InOrder (ws ts rs us cells list : List ℕ) (n m : ℕ) : Type 0 where
  pub record_good : record_outcome ws ts ≡ accepted n
  pub rules_good : rules_outcome rs us ≡ accepted m
  pub small : is_too_large n m ≡ false
  pub room : Roomy cells list

-- line i can be read
pub record LineIn (cells list : List ℕ) (schemas i : ℕ) : Type 0 where
  pub some : 0 < schemas
  pub listed : i < length list
  pub inside : get_or list i 0 < length cells

-- the lines of a judgement can all be read
abbrev pub Readable : Reply → (cells list : List ℕ) → Type 0
Readable (Err unjudged) cells list = Unit {0}
Readable (Ok j) cells list = (i : ℕ) → i < j.pairs → LineIn cells list j.schemas i

-- a reply that tells this
pub record Replies (told : Told) (r : Reply) (cells list : List ℕ) : Type 0 where
  pub tells : ◌≡◌ {A = Told} (record { printed = printed_by r cells list; cells = cells; list = list }) told
  pub readable : Readable r cells list
