-- The samples of 01, and some of ours, as whole calls: with the areas, in which cells hold 9 and list words 77 before the call, one place more than asked
-- where nothing else is said.
--     samples       the twelve of 01
--     further       not, marks of other schemas, items without and with prefixItems, marks passed on by a clause that fails, short areas,
--                   additionalProperties beside marks, the mark of a pair that was never settled, unevaluatedItems, a length in characters,
--                   text that is not UTF-8
-- Assumes nothing.
use Prim.Native.Nat.{ℕ}
use mathlib.Core.Path.{◌≡◌, refl}
use mathlib.Core.List.{List, [], ◌∷◌, map}
use lib.ListN.{replicate}
use Rattle.laws.specs.Lowest.{lowest_from}
use Rattle.text.specs.Part
use Rattle.utf8.specs.Automaton
use Rattle.decimal.specs.Value
use Rattle.names.specs.Names.{repeats_by}
use Rattle.sheet.specs.Kinds.{kind_of}
use Rattle.sheet.specs.Doc.{levels, level}
use Rattle.sheet.specs.Record as D
use Rattle.sheet.specs.Faults as F
use Rattle.rulesheet.specs.Ruleset as R
use Rattle.rulesheet.specs.Codes.{line_in}
use Rattle.rulesheet.specs.Sheet as S
use Rattle.rulesheet.specs.Faults as C
use Rattle.unguarded.specs.Graph.{some_of, chain, via, on_loop}
use Rattle.meaning.specs.Lists
use Rattle.meaning.specs.Tests
use Rattle.meaning.specs.Rules
use Rattle.meaning.specs.Settling
use Rattle.meaning.specs.Answer
use Rattle.meaning.specs.Answer.{valid, invalid, refuses, Left, judge}

pub record Sample : Type 0 where
  pub words : List ℕ
  pub text : List ℕ
  pub rule_words : List ℕ
  pub rule_text : List ℕ
  pub cells : ℕ
  pub list : ℕ
  pub leaves : Left

abbrev A-rules : List ℕ
A-rules = 0 ∷ 2 ∷ 2 ∷ 1 ∷ 3 ∷ 1 ∷ 40 ∷ 0 ∷ 1 ∷ 60 ∷ 2 ∷ 0 ∷ 2 ∷ 4 ∷ 0 ∷ 1 ∷ 0 ∷ 0 ∷ 0 ∷ 1 ∷ 1 ∷ 3 ∷ 4 ∷ 1 ∷ 21 ∷ 1 ∷ 2 ∷ []

-- {"p":7}
abbrev s1 : Sample
s1 =
    record {
      words = 6 ∷ 1 ∷ 1 ∷ 0 ∷ 0 ∷ 0 ∷ 3 ∷ 7 ∷ 0 ∷ 0 ∷ 0 ∷ 1 ∷ 2 ∷ 12 ∷ 1 ∷ 1 ∷ [];
      text = 112 ∷ [];
      rule_words = A-rules;
      rule_text = 112 ∷ [];
      cells = 7;
      list = 7;
      leaves = record { answer = valid 2 1; cells = 1 ∷ 0 ∷ 0 ∷ 4 ∷ 1 ∷ 0 ∷ 9 ∷ []; list = 4 ∷ 0 ∷ 77 ∷ 77 ∷ 77 ∷ 77 ∷ 77 ∷ [] };
    }

-- {"p":7,"q":8}
abbrev s2 : Sample
s2 =
    record {
      words = 6 ∷ 1 ∷ 2 ∷ 0 ∷ 0 ∷ 0 ∷ 3 ∷ 7 ∷ 0 ∷ 0 ∷ 0 ∷ 1 ∷ 3 ∷ 8 ∷ 0 ∷ 0 ∷ 1 ∷ 1 ∷ 3 ∷ 18 ∷ 2 ∷ 1 ∷ [];
      text = 112 ∷ 113 ∷ [];
      rule_words = A-rules;
      rule_text = 112 ∷ [];
      cells = 10;
      list = 10;
      leaves = record { answer = invalid 3 0; cells = 2 ∷ 0 ∷ 0 ∷ 0 ∷ 1 ∷ 0 ∷ 0 ∷ 0 ∷ 2 ∷ 9 ∷ []; list = 4 ∷ 8 ∷ 0 ∷ 77 ∷ 77 ∷ 77 ∷ 77 ∷ 77 ∷ 77 ∷ 77 ∷ [] };
    }

-- {}
abbrev s3 : Sample
s3 =
    record {
      words = 6 ∷ 0 ∷ 0 ∷ 0 ∷ 0 ∷ 0 ∷ 1 ∷ 6 ∷ 0 ∷ 1 ∷ [];
      text = [];
      rule_words = A-rules;
      rule_text = 112 ∷ [];
      cells = 4;
      list = 4;
      leaves = record { answer = valid 1 0; cells = 1 ∷ 0 ∷ 0 ∷ 9 ∷ []; list = 0 ∷ 77 ∷ 77 ∷ 77 ∷ [] };
    }

-- the number 7
abbrev s4 : Sample
s4 =
    record {
      words = 3 ∷ 7 ∷ 0 ∷ 0 ∷ 0 ∷ 0 ∷ 1 ∷ 6 ∷ 0 ∷ 1 ∷ [];
      text = [];
      rule_words = A-rules;
      rule_text = 112 ∷ [];
      cells = 4;
      list = 4;
      leaves = record { answer = valid 1 0; cells = 1 ∷ 0 ∷ 0 ∷ 9 ∷ []; list = 0 ∷ 77 ∷ 77 ∷ 77 ∷ [] };
    }

-- type integer: 10/10, 15/10
abbrev s5 : Sample
s5 =
    record {
      words = 3 ∷ 10 ∷ 1 ∷ 0 ∷ 0 ∷ 0 ∷ 1 ∷ 6 ∷ 0 ∷ 1 ∷ [];
      text = [];
      rule_words = 0 ∷ 1 ∷ 2 ∷ 4 ∷ 0 ∷ 1 ∷ 1 ∷ 0 ∷ 5 ∷ 0 ∷ 2 ∷ [];
      rule_text = [];
      cells = 2;
      list = 2;
      leaves = record { answer = valid 1 0; cells = 1 ∷ 9 ∷ []; list = 0 ∷ 77 ∷ [] };
    }

abbrev s6 : Sample
s6 =
    record {
      words = 3 ∷ 15 ∷ 1 ∷ 0 ∷ 0 ∷ 0 ∷ 1 ∷ 6 ∷ 0 ∷ 1 ∷ [];
      text = [];
      rule_words = 0 ∷ 1 ∷ 2 ∷ 4 ∷ 0 ∷ 1 ∷ 1 ∷ 0 ∷ 5 ∷ 0 ∷ 2 ∷ [];
      rule_text = [];
      cells = 2;
      list = 2;
      leaves = record { answer = invalid 1 0; cells = 2 ∷ 9 ∷ []; list = 0 ∷ 77 ∷ [] };
    }

-- multipleOf 4 on -6
abbrev s7 : Sample
s7 =
    record {
      words = 3 ∷ 4294967290 ∷ 0 ∷ 0 ∷ 0 ∷ 0 ∷ 1 ∷ 6 ∷ 0 ∷ 1 ∷ [];
      text = [];
      rule_words = 0 ∷ 1 ∷ 14 ∷ 4 ∷ 0 ∷ 1 ∷ 1 ∷ 0 ∷ 5 ∷ 0 ∷ 2 ∷ [];
      rule_text = [];
      cells = 2;
      list = 2;
      leaves = record { answer = invalid 1 0; cells = 2 ∷ 9 ∷ []; list = 0 ∷ 77 ∷ [] };
    }

-- oneOf [1, 1], 1 empty, on the number 7
abbrev s8 : Sample
s8 =
    record {
      words = 3 ∷ 7 ∷ 0 ∷ 0 ∷ 0 ∷ 0 ∷ 1 ∷ 6 ∷ 0 ∷ 1 ∷ [];
      text = [];
      rule_words = 0 ∷ 1 ∷ 1 ∷ 0 ∷ 32 ∷ 0 ∷ 2 ∷ 1 ∷ 0 ∷ 0 ∷ 1 ∷ 0 ∷ 0 ∷ 2 ∷ 1 ∷ 2 ∷ 13 ∷ 0 ∷ 2 ∷ [];
      rule_text = [];
      cells = 3;
      list = 3;
      leaves = record { answer = invalid 2 0; cells = 2 ∷ 1 ∷ 9 ∷ []; list = 1 ∷ 0 ∷ 77 ∷ [] };
    }

-- schema 0 is ref 0
abbrev s9 : Sample
s9 =
    record {
      words = 3 ∷ 7 ∷ 0 ∷ 0 ∷ 0 ∷ 0 ∷ 1 ∷ 6 ∷ 0 ∷ 1 ∷ [];
      text = [];
      rule_words = 0 ∷ 1 ∷ 34 ∷ 0 ∷ 0 ∷ 1 ∷ 1 ∷ 0 ∷ 5 ∷ 0 ∷ 2 ∷ [];
      rule_text = [];
      cells = 2;
      list = 2;
      leaves = record { answer = refuses 8 0; cells = 9 ∷ 9 ∷ []; list = 77 ∷ 77 ∷ [] };
    }

-- 0 empty, 1 is ref 1: the root never comes there
abbrev s10 : Sample
s10 =
    record {
      words = 3 ∷ 7 ∷ 0 ∷ 0 ∷ 0 ∷ 0 ∷ 1 ∷ 6 ∷ 0 ∷ 1 ∷ [];
      text = [];
      rule_words = 0 ∷ 0 ∷ 0 ∷ 1 ∷ 34 ∷ 1 ∷ 0 ∷ 2 ∷ 1 ∷ 0 ∷ 7 ∷ 0 ∷ 2 ∷ [];
      rule_text = [];
      cells = 3;
      list = 3;
      leaves = record { answer = refuses 8 1; cells = 9 ∷ 9 ∷ 9 ∷ []; list = 77 ∷ 77 ∷ 77 ∷ [] };
    }

-- properties p is 0; {"p":{"p":{}}}
abbrev s11 : Sample
s11 =
    record {
      words = 6 ∷ 1 ∷ 1 ∷ 0 ∷ 0 ∷ 0 ∷ 6 ∷ 2 ∷ 1 ∷ 0 ∷ 0 ∷ 1 ∷ 6 ∷ 0 ∷ 0 ∷ 1 ∷ 0 ∷ 1 ∷ 3 ∷ 18 ∷ 1 ∷ 1 ∷ [];
      text = 112 ∷ [];
      rule_words = 0 ∷ 1 ∷ 40 ∷ 0 ∷ 1 ∷ 0 ∷ 1 ∷ 0 ∷ 1 ∷ 1 ∷ 1 ∷ 8 ∷ 1 ∷ 2 ∷ [];
      rule_text = 112 ∷ [];
      cells = 4;
      list = 4;
      leaves = record { answer = valid 3 1; cells = 1 ∷ 5 ∷ 5 ∷ 9 ∷ []; list = 2 ∷ 1 ∷ 0 ∷ 77 ∷ [] };
    }

-- 0 (anyOf 1, 2; unevaluatedProperties 3), 1 (required r; properties q is 2), 2 empty, 3 never; {"q":1}
abbrev s12 : Sample
s12 =
    record {
      words = 6 ∷ 1 ∷ 1 ∷ 0 ∷ 0 ∷ 0 ∷ 3 ∷ 1 ∷ 0 ∷ 0 ∷ 0 ∷ 1 ∷ 2 ∷ 12 ∷ 1 ∷ 1 ∷ [];
      text = 113 ∷ [];
      rule_words = 0 ∷ 2 ∷ 2 ∷ 2 ∷ 4 ∷ 0 ∷ 4 ∷ 1 ∷ 31 ∷ 0 ∷ 2 ∷ 60 ∷ 3 ∷ 0 ∷ 26 ∷ 2 ∷ 1 ∷ 40 ∷ 3 ∷ 1 ∷ 1 ∷ 0 ∷ 0 ∷ 1 ∷ 0 ∷ 0 ∷ 2 ∷ 0 ∷ 0 ∷ 0 ∷ 1 ∷ 0 ∷ 1 ∷ 1 ∷ 2 ∷ 4 ∷ 5 ∷ 4 ∷ 35 ∷ 2 ∷ 2 ∷ [];
      rule_text = 114 ∷ 113 ∷ [];
      cells = 9;
      list = 9;
      leaves = record { answer = invalid 5 0; cells = 2 ∷ 2 ∷ 1 ∷ 0 ∷ 0 ∷ 0 ∷ 1 ∷ 2 ∷ 9 ∷ []; list = 6 ∷ 1 ∷ 2 ∷ 7 ∷ 0 ∷ 77 ∷ 77 ∷ 77 ∷ 77 ∷ [] };
    }

-- not 1, 1 empty, on the number 7: 1 holds, so not fails
abbrev t1 : Sample
t1 =
    record {
      words = 3 ∷ 7 ∷ 0 ∷ 0 ∷ 0 ∷ 0 ∷ 1 ∷ 6 ∷ 0 ∷ 1 ∷ [];
      text = [];
      rule_words = 0 ∷ 1 ∷ 1 ∷ 0 ∷ 33 ∷ 1 ∷ 0 ∷ 2 ∷ 1 ∷ 0 ∷ 7 ∷ 0 ∷ 2 ∷ [];
      rule_text = [];
      cells = 3;
      list = 3;
      leaves = record { answer = invalid 2 0; cells = 2 ∷ 1 ∷ 9 ∷ []; list = 1 ∷ 0 ∷ 77 ∷ [] };
    }

-- not 1, 1 never: 1 fails, so not holds
abbrev t2 : Sample
t2 =
    record {
      words = 3 ∷ 7 ∷ 0 ∷ 0 ∷ 0 ∷ 0 ∷ 1 ∷ 6 ∷ 0 ∷ 1 ∷ [];
      text = [];
      rule_words = 0 ∷ 1 ∷ 1 ∷ 1 ∷ 33 ∷ 1 ∷ 0 ∷ 1 ∷ 0 ∷ 0 ∷ 2 ∷ 2 ∷ 0 ∷ 10 ∷ 0 ∷ 2 ∷ [];
      rule_text = [];
      cells = 3;
      list = 3;
      leaves = record { answer = valid 2 0; cells = 1 ∷ 2 ∷ 9 ∷ []; list = 1 ∷ 0 ∷ 77 ∷ [] };
    }

-- 0 (allOf 1, 2), 1 (properties p is 3), 2 (unevaluatedProperties 4), 3 empty, 4 never; {"p":7}: that 1 marks p does not matter to 2
abbrev t3 : Sample
t3 =
    record {
      words = 6 ∷ 1 ∷ 1 ∷ 0 ∷ 0 ∷ 0 ∷ 3 ∷ 7 ∷ 0 ∷ 0 ∷ 0 ∷ 1 ∷ 2 ∷ 12 ∷ 1 ∷ 1 ∷ [];
      text = 112 ∷ [];
      rule_words = 0 ∷ 1 ∷ 1 ∷ 1 ∷ 2 ∷ 1 ∷ 3 ∷ 0 ∷ 3 ∷ 1 ∷ 30 ∷ 0 ∷ 2 ∷ 40 ∷ 2 ∷ 1 ∷ 60 ∷ 4 ∷ 0 ∷ 1 ∷ 0 ∷ 0 ∷ 1 ∷ 0 ∷ 0 ∷ 2 ∷ 0 ∷ 0 ∷ 0 ∷ 1 ∷ 3 ∷ 5 ∷ 4 ∷ 3 ∷ 31 ∷ 1 ∷ 2 ∷ [];
      rule_text = 112 ∷ [];
      cells = 11;
      list = 11;
      leaves = record { answer = invalid 5 0; cells = 2 ∷ 1 ∷ 2 ∷ 0 ∷ 0 ∷ 0 ∷ 4 ∷ 0 ∷ 1 ∷ 2 ∷ 9 ∷ []; list = 8 ∷ 1 ∷ 9 ∷ 2 ∷ 0 ∷ 77 ∷ 77 ∷ 77 ∷ 77 ∷ 77 ∷ 77 ∷ [] };
    }

-- 0 (allOf 1; items 2), 1 (prefixItems 3), 2 never, 3 empty; [7]: 43 stands in another schema, so 44 takes all
abbrev t4 : Sample
t4 =
    record {
      words = 5 ∷ 1 ∷ 1 ∷ 0 ∷ 0 ∷ 0 ∷ 3 ∷ 7 ∷ 0 ∷ 0 ∷ 0 ∷ 0 ∷ 2 ∷ 12 ∷ 0 ∷ 1 ∷ [];
      text = [];
      rule_words = 0 ∷ 2 ∷ 2 ∷ 1 ∷ 3 ∷ 1 ∷ 4 ∷ 0 ∷ 30 ∷ 0 ∷ 1 ∷ 44 ∷ 2 ∷ 0 ∷ 43 ∷ 1 ∷ 1 ∷ 1 ∷ 0 ∷ 0 ∷ 1 ∷ 0 ∷ 0 ∷ 3 ∷ 0 ∷ 0 ∷ 4 ∷ 4 ∷ 2 ∷ 26 ∷ 0 ∷ 2 ∷ [];
      rule_text = [];
      cells = 9;
      list = 9;
      leaves = record { answer = invalid 4 0; cells = 2 ∷ 1 ∷ 0 ∷ 0 ∷ 0 ∷ 4 ∷ 2 ∷ 1 ∷ 9 ∷ []; list = 7 ∷ 1 ∷ 6 ∷ 0 ∷ 77 ∷ 77 ∷ 77 ∷ 77 ∷ 77 ∷ [] };
    }

-- 0 (prefixItems 1; items 2), 1 empty, 2 never; [7,8]: 44 takes what stands after the entries of 43
abbrev t5 : Sample
t5 =
    record {
      words = 5 ∷ 1 ∷ 2 ∷ 0 ∷ 0 ∷ 0 ∷ 3 ∷ 7 ∷ 0 ∷ 0 ∷ 0 ∷ 0 ∷ 3 ∷ 8 ∷ 0 ∷ 0 ∷ 0 ∷ 0 ∷ 3 ∷ 18 ∷ 0 ∷ 1 ∷ [];
      text = [];
      rule_words = 0 ∷ 2 ∷ 2 ∷ 0 ∷ 2 ∷ 1 ∷ 43 ∷ 0 ∷ 1 ∷ 44 ∷ 2 ∷ 0 ∷ 1 ∷ 0 ∷ 0 ∷ 1 ∷ 0 ∷ 0 ∷ 3 ∷ 3 ∷ 1 ∷ 18 ∷ 0 ∷ 2 ∷ [];
      rule_text = [];
      cells = 10;
      list = 10;
      leaves = record { answer = invalid 3 0; cells = 2 ∷ 0 ∷ 0 ∷ 0 ∷ 1 ∷ 0 ∷ 0 ∷ 0 ∷ 2 ∷ 9 ∷ []; list = 4 ∷ 8 ∷ 0 ∷ 77 ∷ 77 ∷ 77 ∷ 77 ∷ 77 ∷ 77 ∷ 77 ∷ [] };
    }

-- 0 (oneOf 1, 2; unevaluatedProperties 3), 1 (properties p is 4), 2 empty, 3 never, 4 empty; {"p":7}: oneOf fails and passes on the mark of p
abbrev t6 : Sample
t6 =
    record {
      words = 6 ∷ 1 ∷ 1 ∷ 0 ∷ 0 ∷ 0 ∷ 3 ∷ 7 ∷ 0 ∷ 0 ∷ 0 ∷ 1 ∷ 2 ∷ 12 ∷ 1 ∷ 1 ∷ [];
      text = 112 ∷ [];
      rule_words = 0 ∷ 2 ∷ 2 ∷ 1 ∷ 3 ∷ 0 ∷ 3 ∷ 1 ∷ 4 ∷ 0 ∷ 32 ∷ 0 ∷ 2 ∷ 60 ∷ 3 ∷ 0 ∷ 40 ∷ 2 ∷ 1 ∷ 1 ∷ 0 ∷ 0 ∷ 1 ∷ 0 ∷ 0 ∷ 2 ∷ 0 ∷ 0 ∷ 0 ∷ 1 ∷ 4 ∷ 5 ∷ 4 ∷ 3 ∷ 31 ∷ 1 ∷ 2 ∷ [];
      rule_text = 112 ∷ [];
      cells = 11;
      list = 11;
      leaves = record { answer = invalid 4 0; cells = 2 ∷ 1 ∷ 1 ∷ 0 ∷ 0 ∷ 0 ∷ 4 ∷ 0 ∷ 0 ∷ 1 ∷ 9 ∷ []; list = 9 ∷ 1 ∷ 2 ∷ 0 ∷ 77 ∷ 77 ∷ 77 ∷ 77 ∷ 77 ∷ 77 ∷ 77 ∷ [] };
    }

-- one cell too few: refused 10; both areas too short: 10 comes first; one word of the list too few: refused 11
abbrev t7 : Sample
t7 =
    record {
      words = 6 ∷ 1 ∷ 1 ∷ 0 ∷ 0 ∷ 0 ∷ 3 ∷ 7 ∷ 0 ∷ 0 ∷ 0 ∷ 1 ∷ 2 ∷ 12 ∷ 1 ∷ 1 ∷ [];
      text = 112 ∷ [];
      rule_words = A-rules;
      rule_text = 112 ∷ [];
      cells = 5;
      list = 6;
      leaves = record { answer = refuses 10 6; cells = 9 ∷ 9 ∷ 9 ∷ 9 ∷ 9 ∷ []; list = 77 ∷ 77 ∷ 77 ∷ 77 ∷ 77 ∷ 77 ∷ [] };
    }

abbrev t8 : Sample
t8 =
    record {
      words = 6 ∷ 1 ∷ 1 ∷ 0 ∷ 0 ∷ 0 ∷ 3 ∷ 7 ∷ 0 ∷ 0 ∷ 0 ∷ 1 ∷ 2 ∷ 12 ∷ 1 ∷ 1 ∷ [];
      text = 112 ∷ [];
      rule_words = A-rules;
      rule_text = 112 ∷ [];
      cells = 5;
      list = 5;
      leaves = record { answer = refuses 10 6; cells = 9 ∷ 9 ∷ 9 ∷ 9 ∷ 9 ∷ []; list = 77 ∷ 77 ∷ 77 ∷ 77 ∷ 77 ∷ [] };
    }

abbrev t9 : Sample
t9 =
    record {
      words = 6 ∷ 1 ∷ 1 ∷ 0 ∷ 0 ∷ 0 ∷ 3 ∷ 7 ∷ 0 ∷ 0 ∷ 0 ∷ 1 ∷ 2 ∷ 12 ∷ 1 ∷ 1 ∷ [];
      text = 112 ∷ [];
      rule_words = A-rules;
      rule_text = 112 ∷ [];
      cells = 6;
      list = 5;
      leaves = record { answer = refuses 11 6; cells = 9 ∷ 9 ∷ 9 ∷ 9 ∷ 9 ∷ 9 ∷ []; list = 77 ∷ 77 ∷ 77 ∷ 77 ∷ 77 ∷ [] };
    }

-- 0 (allOf 1; additionalProperties 2), 1 (properties p is 3), 2 never, 3 empty; {"p":7}: 40 stands in another schema, so 42 takes p, marked or not
abbrev t10 : Sample
t10 =
    record {
      words = 6 ∷ 1 ∷ 1 ∷ 0 ∷ 0 ∷ 0 ∷ 3 ∷ 7 ∷ 0 ∷ 0 ∷ 0 ∷ 1 ∷ 2 ∷ 12 ∷ 1 ∷ 1 ∷ [];
      text = 112 ∷ [];
      rule_words = 0 ∷ 2 ∷ 2 ∷ 1 ∷ 3 ∷ 1 ∷ 4 ∷ 0 ∷ 30 ∷ 0 ∷ 1 ∷ 42 ∷ 2 ∷ 0 ∷ 40 ∷ 1 ∷ 1 ∷ 1 ∷ 0 ∷ 0 ∷ 1 ∷ 0 ∷ 0 ∷ 0 ∷ 1 ∷ 3 ∷ 4 ∷ 4 ∷ 2 ∷ 26 ∷ 1 ∷ 2 ∷ [];
      rule_text = 112 ∷ [];
      cells = 9;
      list = 9;
      leaves = record { answer = invalid 4 0; cells = 2 ∷ 1 ∷ 0 ∷ 0 ∷ 0 ∷ 4 ∷ 2 ∷ 1 ∷ 9 ∷ []; list = 7 ∷ 1 ∷ 6 ∷ 0 ∷ 77 ∷ 77 ∷ 77 ∷ 77 ∷ 77 ∷ [] };
    }

-- 0 (properties p is 1), 1 (properties p is 0); {"p":7}: 1 would mark p, but was never applied to the root, so the cell of p and 1 has no 4
abbrev t11 : Sample
t11 =
    record {
      words = 6 ∷ 1 ∷ 1 ∷ 0 ∷ 0 ∷ 0 ∷ 3 ∷ 7 ∷ 0 ∷ 0 ∷ 0 ∷ 1 ∷ 2 ∷ 12 ∷ 1 ∷ 1 ∷ [];
      text = 112 ∷ [];
      rule_words = 0 ∷ 1 ∷ 1 ∷ 1 ∷ 40 ∷ 0 ∷ 1 ∷ 40 ∷ 1 ∷ 1 ∷ 0 ∷ 1 ∷ 1 ∷ 0 ∷ 1 ∷ 0 ∷ 2 ∷ 2 ∷ 2 ∷ 16 ∷ 1 ∷ 2 ∷ [];
      rule_text = 112 ∷ [];
      cells = 5;
      list = 5;
      leaves = record { answer = valid 2 1; cells = 1 ∷ 0 ∷ 4 ∷ 1 ∷ 9 ∷ []; list = 3 ∷ 0 ∷ 77 ∷ 77 ∷ 77 ∷ [] };
    }

-- 0 (allOf 1; unevaluatedItems 2), 1 (prefixItems 3), 2 never, 3 empty; [7]: 61 takes no element that allOf passed on as marked
abbrev t12 : Sample
t12 =
    record {
      words = 5 ∷ 1 ∷ 1 ∷ 0 ∷ 0 ∷ 0 ∷ 3 ∷ 7 ∷ 0 ∷ 0 ∷ 0 ∷ 0 ∷ 2 ∷ 12 ∷ 0 ∷ 1 ∷ [];
      text = [];
      rule_words = 0 ∷ 2 ∷ 2 ∷ 1 ∷ 3 ∷ 1 ∷ 4 ∷ 0 ∷ 30 ∷ 0 ∷ 1 ∷ 61 ∷ 2 ∷ 0 ∷ 43 ∷ 1 ∷ 1 ∷ 1 ∷ 0 ∷ 0 ∷ 1 ∷ 0 ∷ 0 ∷ 3 ∷ 0 ∷ 0 ∷ 4 ∷ 4 ∷ 2 ∷ 26 ∷ 0 ∷ 2 ∷ [];
      rule_text = [];
      cells = 9;
      list = 9;
      leaves = record { answer = valid 3 1; cells = 1 ∷ 1 ∷ 0 ∷ 0 ∷ 4 ∷ 4 ∷ 0 ∷ 1 ∷ 9 ∷ []; list = 7 ∷ 1 ∷ 0 ∷ 77 ∷ 77 ∷ 77 ∷ 77 ∷ 77 ∷ 77 ∷ [] };
    }

-- 0 (prefixItems 1; unevaluatedItems 2), 1 and 2 empty; [7,8]: 61 takes what 43 did not, and marks it
abbrev t13 : Sample
t13 =
    record {
      words = 5 ∷ 1 ∷ 2 ∷ 0 ∷ 0 ∷ 0 ∷ 3 ∷ 7 ∷ 0 ∷ 0 ∷ 0 ∷ 0 ∷ 3 ∷ 8 ∷ 0 ∷ 0 ∷ 0 ∷ 0 ∷ 3 ∷ 18 ∷ 0 ∷ 1 ∷ [];
      text = [];
      rule_words = 0 ∷ 2 ∷ 2 ∷ 0 ∷ 2 ∷ 0 ∷ 43 ∷ 0 ∷ 1 ∷ 61 ∷ 2 ∷ 0 ∷ 1 ∷ 0 ∷ 0 ∷ 3 ∷ 2 ∷ 1 ∷ 15 ∷ 0 ∷ 2 ∷ [];
      rule_text = [];
      cells = 10;
      list = 10;
      leaves = record { answer = valid 3 2; cells = 1 ∷ 0 ∷ 0 ∷ 4 ∷ 1 ∷ 0 ∷ 4 ∷ 0 ∷ 1 ∷ 9 ∷ []; list = 4 ∷ 8 ∷ 0 ∷ 77 ∷ 77 ∷ 77 ∷ 77 ∷ 77 ∷ 77 ∷ 77 ∷ [] };
    }

-- 0 (maxLength 1); "ż" in two bytes
abbrev t14 : Sample
t14 =
    record {
      words = 4 ∷ 0 ∷ 2 ∷ 0 ∷ 0 ∷ 0 ∷ 1 ∷ 6 ∷ 2 ∷ 1 ∷ [];
      text = 197 ∷ 188 ∷ [];
      rule_words = 0 ∷ 1 ∷ 21 ∷ 1 ∷ 0 ∷ 1 ∷ 1 ∷ 0 ∷ 5 ∷ 0 ∷ 2 ∷ [];
      rule_text = [];
      cells = 2;
      list = 2;
      leaves = record { answer = valid 1 0; cells = 1 ∷ 9 ∷ []; list = 0 ∷ 77 ∷ [] };
    }

-- the same text, and a string that ends inside the character
abbrev t15 : Sample
t15 =
    record {
      words = 4 ∷ 0 ∷ 1 ∷ 0 ∷ 0 ∷ 0 ∷ 1 ∷ 6 ∷ 2 ∷ 1 ∷ [];
      text = 197 ∷ 188 ∷ [];
      rule_words = 0 ∷ 1 ∷ 21 ∷ 1 ∷ 0 ∷ 1 ∷ 1 ∷ 0 ∷ 5 ∷ 0 ∷ 2 ∷ [];
      rule_text = [];
      cells = 2;
      list = 2;
      leaves = record { answer = refuses 13 0; cells = 9 ∷ 9 ∷ []; list = 77 ∷ 77 ∷ [] };
    }

-- two members of one name that is not UTF-8: 3 is asked first
abbrev t16 : Sample
t16 =
    record {
      words = 6 ∷ 1 ∷ 2 ∷ 0 ∷ 0 ∷ 0 ∷ 3 ∷ 7 ∷ 0 ∷ 0 ∷ 0 ∷ 1 ∷ 3 ∷ 8 ∷ 0 ∷ 0 ∷ 0 ∷ 1 ∷ 3 ∷ 18 ∷ 1 ∷ 1 ∷ [];
      text = 255 ∷ [];
      rule_words = 0 ∷ 1 ∷ 21 ∷ 1 ∷ 0 ∷ 1 ∷ 1 ∷ 0 ∷ 5 ∷ 0 ∷ 2 ∷ [];
      rule_text = [];
      cells = 1;
      list = 1;
      leaves = record { answer = refuses 3 2; cells = 9 ∷ []; list = 77 ∷ [] };
    }

-- 0 (required, of a name that is not UTF-8; ref 0); null: 13 is asked before 8
abbrev t17 : Sample
t17 =
    record {
      words = 0 ∷ 0 ∷ 0 ∷ 0 ∷ 0 ∷ 0 ∷ 1 ∷ 6 ∷ 0 ∷ 1 ∷ [];
      text = [];
      rule_words = 0 ∷ 2 ∷ 26 ∷ 0 ∷ 1 ∷ 34 ∷ 0 ∷ 0 ∷ 0 ∷ 1 ∷ 0 ∷ 1 ∷ 2 ∷ 1 ∷ 11 ∷ 1 ∷ 2 ∷ [];
      rule_text = 128 ∷ [];
      cells = 1;
      list = 1;
      leaves = record { answer = refuses 13 3; cells = 9 ∷ []; list = 77 ∷ [] };
    }

abbrev pub left_of : Sample → Left
left_of s = judge Rules.whole s.words s.text s.rule_words s.rule_text (replicate s.cells 9) (replicate s.list 77)

unfoldable pub samples_compute : Unit {0}
unfolding lowest_from Part.part_computes Value.value_computes repeats_by kind_of levels level D.form_of D.row_at D.doc_of F.words_ok F.owns_ok F.place_ok F.row_ok F.repeated F.not_utf8 Automaton.automaton_computes R.steps line_in S.form_of S.schema_at S.clause_at S.entry_at S.run S.clause_of S.rules_of C.words_ok C.schema_start C.schema_fine C.schema_over C.rises C.list_start C.list_ok C.clause_fine_in C.clause_fine C.list_over C.entry_fine C.repeated C.not_utf8 some_of chain via on_loop Lists.lists_computes Tests.tests_computes Rules.rules_computes Settling.settling_computes Answer.answer_computes
samples_compute = tt

abbrev twelve : List Sample
twelve = s1 ∷ s2 ∷ s3 ∷ s4 ∷ s5 ∷ s6 ∷ s7 ∷ s8 ∷ s9 ∷ s10 ∷ s11 ∷ s12 ∷ []

pub samples : map left_of twelve ≡ map (λ s. s.leaves) twelve
unfolding samples_compute
samples = refl

abbrev ours : List Sample
ours = t1 ∷ t2 ∷ t3 ∷ t4 ∷ t5 ∷ t6 ∷ t7 ∷ t8 ∷ t9 ∷ t10 ∷ t11 ∷ t12 ∷ t13 ∷ t14 ∷ t15 ∷ t16 ∷ t17 ∷ []

pub further : map left_of ours ≡ map (λ s. s.leaves) ours
unfolding samples_compute
further = refl
