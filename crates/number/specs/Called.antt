-- The number that a caller gets (paper 01, "What the judge does"; paper 02, #103, #105 and #107): one 64-bit number for the answer of every call, by one definition
-- (`number_for_c` in crate `meaning`), and of judging the specification's areas besides.
--
-- Of judging, in whole or for the verdict only, any two outcomes that it allows are equal (`outcome_one` in `proofs/Calls.antt`): the number, the cells and the list are each said to be one value, of
-- the words, texts and areas at entry.
-- Assumes nothing.
use Rattle.std.specs.Prelude.{List, ◌≡◌, ℕ}
use Rattle.sheet.specs.Refusals.{Outcome, accepted, refused}
use Rattle.meaning.specs.Rules.{Way}
use Rattle.meaning.specs.Answer.{Answer, valid, invalid, refuses, number_for_c, judge}

-- what a call gives that judges nothing itself, as an answer: what it has counted is told as valid is, with the number of rows or records where the count stands
abbrev pub outcome_answer : Outcome → Answer
outcome_answer (accepted rows) = valid rows 0
outcome_answer (refused number place) = refuses number place

-- the settled pairs that an answer counts; a refusal counts none
abbrev pub counted : Answer → ℕ
counted (valid count marks) = count
counted (invalid count marks) = count
counted (refuses number place) = 0

-- the promise of judging, answered by a number
pub record Called (w : Way) (ws ts rs us cells₀ list₀ cells list : List ℕ) (r : ℕ) : Type 0 where
  pub number_is : r ≡ number_for_c (judge w ws ts rs us cells₀ list₀).answer
  pub cells_are : cells ≡ (judge w ws ts rs us cells₀ list₀).cells
  pub list_is : list ≡ (judge w ws ts rs us cells₀ list₀).list
