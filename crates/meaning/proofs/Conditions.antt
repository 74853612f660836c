-- Samples of 36, 37 and 45 (request #106), as whole calls: with the areas, in which cells hold 9 and list words 77 before the call.
--     conditions     what each leaves is what the specification computes
-- Assumes nothing.
use mathlib.Core.Path.{◌≡◌, refl}
use mathlib.Core.List.{List, [], ◌∷◌, map}
use Rattle.meaning.specs.Answer.{valid, invalid, refuses, Left}
use Rattle.meaning.proofs.Samples.{Sample, left_of, samples_compute}

-- 36: 7 is an integer, so the branch `then` is taken, and `else` is not applied: its pair (0, 3) stands in no cell and not in the list
abbrev c1 : Sample
c1 =
    record {
      words = 3 ∷ 7 ∷ 0 ∷ 0 ∷ 0 ∷ 0 ∷ 1 ∷ 6 ∷ 0 ∷ 1 ∷ [];
      text = [];
      rule_words = 0 ∷ 1 ∷ 1 ∷ 1 ∷ 2 ∷ 1 ∷ 3 ∷ 1 ∷ 36 ∷ 0 ∷ 3 ∷ 2 ∷ 4 ∷ 0 ∷ 10 ∷ 5 ∷ 0 ∷ 1 ∷ 0 ∷ 0 ∷ 1 ∷ 0 ∷ 0 ∷ 2 ∷ 0 ∷ 0 ∷ 3 ∷ 0 ∷ 0 ∷ 4 ∷ 4 ∷ 3 ∷ 29 ∷ 0 ∷ 2 ∷ [];
      rule_text = [];
      cells = 5;
      list = 5;
      leaves = record { answer = valid 3 0; cells = 1 ∷ 1 ∷ 1 ∷ 0 ∷ 9 ∷ []; list = 1 ∷ 2 ∷ 0 ∷ 77 ∷ 77 ∷ [] };
    }

-- the same, where the condition fails: 36 holds by its branch `else`, whatever the condition says
abbrev c2 : Sample
c2 =
    record {
      words = 5 ∷ 0 ∷ 0 ∷ 0 ∷ 0 ∷ 0 ∷ 1 ∷ 6 ∷ 0 ∷ 1 ∷ [];
      text = [];
      rule_words = 0 ∷ 1 ∷ 1 ∷ 1 ∷ 2 ∷ 1 ∷ 3 ∷ 1 ∷ 36 ∷ 0 ∷ 3 ∷ 2 ∷ 4 ∷ 0 ∷ 1 ∷ 0 ∷ 0 ∷ 2 ∷ 32 ∷ 0 ∷ 1 ∷ 0 ∷ 0 ∷ 2 ∷ 0 ∷ 0 ∷ 3 ∷ 0 ∷ 0 ∷ 4 ∷ 4 ∷ 3 ∷ 29 ∷ 0 ∷ 2 ∷ [];
      rule_text = [];
      cells = 5;
      list = 5;
      leaves = record { answer = valid 3 0; cells = 1 ∷ 2 ∷ 0 ∷ 1 ∷ 9 ∷ []; list = 1 ∷ 3 ∷ 0 ∷ 77 ∷ 77 ∷ [] };
    }

-- 36: a condition that fails passes no marks, so the member is unevaluated
abbrev c3 : Sample
c3 =
    record {
      words = 6 ∷ 1 ∷ 1 ∷ 0 ∷ 0 ∷ 0 ∷ 3 ∷ 1 ∷ 0 ∷ 0 ∷ 0 ∷ 1 ∷ 2 ∷ 12 ∷ 1 ∷ 1 ∷ [];
      text = 97 ∷ [];
      rule_words = 0 ∷ 2 ∷ 2 ∷ 1 ∷ 3 ∷ 0 ∷ 3 ∷ 0 ∷ 3 ∷ 1 ∷ 36 ∷ 0 ∷ 3 ∷ 60 ∷ 4 ∷ 0 ∷ 40 ∷ 3 ∷ 1 ∷ 1 ∷ 0 ∷ 0 ∷ 1 ∷ 0 ∷ 0 ∷ 2 ∷ 0 ∷ 0 ∷ 3 ∷ 0 ∷ 0 ∷ 0 ∷ 1 ∷ 4 ∷ 5 ∷ 4 ∷ 4 ∷ 34 ∷ 1 ∷ 2 ∷ [];
      rule_text = 97 ∷ [];
      cells = 11;
      list = 11;
      leaves = record { answer = invalid 4 0; cells = 2 ∷ 2 ∷ 0 ∷ 1 ∷ 0 ∷ 0 ∷ 0 ∷ 0 ∷ 0 ∷ 2 ∷ 9 ∷ []; list = 9 ∷ 1 ∷ 3 ∷ 0 ∷ 77 ∷ 77 ∷ 77 ∷ 77 ∷ 77 ∷ 77 ∷ 77 ∷ [] };
    }

-- 36: a condition that holds passes its marks on
abbrev c4 : Sample
c4 =
    record {
      words = 6 ∷ 1 ∷ 1 ∷ 0 ∷ 0 ∷ 0 ∷ 3 ∷ 1 ∷ 0 ∷ 0 ∷ 0 ∷ 1 ∷ 2 ∷ 12 ∷ 1 ∷ 1 ∷ [];
      text = 97 ∷ [];
      rule_words = 0 ∷ 2 ∷ 2 ∷ 1 ∷ 3 ∷ 0 ∷ 3 ∷ 0 ∷ 3 ∷ 1 ∷ 36 ∷ 0 ∷ 3 ∷ 60 ∷ 4 ∷ 0 ∷ 40 ∷ 3 ∷ 1 ∷ 1 ∷ 0 ∷ 0 ∷ 1 ∷ 0 ∷ 0 ∷ 2 ∷ 0 ∷ 0 ∷ 3 ∷ 0 ∷ 0 ∷ 0 ∷ 1 ∷ 3 ∷ 5 ∷ 4 ∷ 4 ∷ 34 ∷ 1 ∷ 2 ∷ [];
      rule_text = 97 ∷ [];
      cells = 11;
      list = 11;
      leaves = record { answer = valid 4 1; cells = 1 ∷ 1 ∷ 1 ∷ 0 ∷ 0 ∷ 4 ∷ 4 ∷ 0 ∷ 1 ∷ 0 ∷ 9 ∷ []; list = 8 ∷ 1 ∷ 2 ∷ 0 ∷ 77 ∷ 77 ∷ 77 ∷ 77 ∷ 77 ∷ 77 ∷ 77 ∷ [] };
    }

-- 37: the second name is missing, so its schema is not applied
abbrev c5 : Sample
c5 =
    record {
      words = 6 ∷ 1 ∷ 1 ∷ 0 ∷ 0 ∷ 0 ∷ 3 ∷ 1 ∷ 0 ∷ 0 ∷ 0 ∷ 1 ∷ 2 ∷ 12 ∷ 1 ∷ 1 ∷ [];
      text = 97 ∷ [];
      rule_words = 0 ∷ 1 ∷ 1 ∷ 1 ∷ 2 ∷ 1 ∷ 37 ∷ 0 ∷ 2 ∷ 24 ∷ 1 ∷ 0 ∷ 1 ∷ 0 ∷ 0 ∷ 0 ∷ 1 ∷ 1 ∷ 1 ∷ 1 ∷ 2 ∷ 3 ∷ 3 ∷ 2 ∷ 21 ∷ 2 ∷ 2 ∷ [];
      rule_text = 97 ∷ 98 ∷ [];
      cells = 7;
      list = 7;
      leaves = record { answer = valid 2 0; cells = 1 ∷ 1 ∷ 0 ∷ 0 ∷ 0 ∷ 0 ∷ 9 ∷ []; list = 1 ∷ 0 ∷ 77 ∷ 77 ∷ 77 ∷ 77 ∷ 77 ∷ [] };
    }

-- 37: both names are there, and the second schema is applied though the first fails
abbrev c6 : Sample
c6 =
    record {
      words = 6 ∷ 1 ∷ 2 ∷ 0 ∷ 0 ∷ 0 ∷ 3 ∷ 1 ∷ 0 ∷ 0 ∷ 0 ∷ 1 ∷ 3 ∷ 2 ∷ 0 ∷ 0 ∷ 1 ∷ 1 ∷ 3 ∷ 18 ∷ 2 ∷ 1 ∷ [];
      text = 97 ∷ 98 ∷ [];
      rule_words = 0 ∷ 1 ∷ 1 ∷ 1 ∷ 2 ∷ 1 ∷ 37 ∷ 0 ∷ 2 ∷ 1 ∷ 0 ∷ 0 ∷ 24 ∷ 1 ∷ 0 ∷ 0 ∷ 1 ∷ 1 ∷ 1 ∷ 1 ∷ 2 ∷ 3 ∷ 3 ∷ 2 ∷ 21 ∷ 2 ∷ 2 ∷ [];
      rule_text = 97 ∷ 98 ∷ [];
      cells = 10;
      list = 10;
      leaves = record { answer = invalid 3 0; cells = 2 ∷ 2 ∷ 1 ∷ 0 ∷ 0 ∷ 0 ∷ 0 ∷ 0 ∷ 0 ∷ 9 ∷ []; list = 1 ∷ 2 ∷ 0 ∷ 77 ∷ 77 ∷ 77 ∷ 77 ∷ 77 ∷ 77 ∷ 77 ∷ [] };
    }

-- 45: least 0 holds where no element does
abbrev c7 : Sample
c7 =
    record {
      words = 5 ∷ 1 ∷ 2 ∷ 0 ∷ 0 ∷ 0 ∷ 3 ∷ 1 ∷ 0 ∷ 0 ∷ 0 ∷ 0 ∷ 3 ∷ 2 ∷ 0 ∷ 0 ∷ 0 ∷ 0 ∷ 3 ∷ 18 ∷ 0 ∷ 1 ∷ [];
      text = [];
      rule_words = 0 ∷ 1 ∷ 1 ∷ 1 ∷ 45 ∷ 0 ∷ 1 ∷ 1 ∷ 0 ∷ 0 ∷ 1 ∷ 0 ∷ 4294967295 ∷ 2 ∷ 2 ∷ 1 ∷ 13 ∷ 0 ∷ 2 ∷ [];
      rule_text = [];
      cells = 7;
      list = 7;
      leaves = record { answer = valid 3 0; cells = 1 ∷ 0 ∷ 0 ∷ 2 ∷ 0 ∷ 2 ∷ 9 ∷ []; list = 3 ∷ 5 ∷ 0 ∷ 77 ∷ 77 ∷ 77 ∷ 77 ∷ [] };
    }

-- 45: least above most holds of no array
abbrev c8 : Sample
c8 =
    record {
      words = 5 ∷ 1 ∷ 1 ∷ 0 ∷ 0 ∷ 0 ∷ 3 ∷ 1 ∷ 0 ∷ 0 ∷ 0 ∷ 0 ∷ 2 ∷ 12 ∷ 0 ∷ 1 ∷ [];
      text = [];
      rule_words = 0 ∷ 1 ∷ 1 ∷ 0 ∷ 45 ∷ 0 ∷ 1 ∷ 1 ∷ 2 ∷ 1 ∷ 2 ∷ 1 ∷ 1 ∷ 10 ∷ 0 ∷ 2 ∷ [];
      rule_text = [];
      cells = 5;
      list = 5;
      leaves = record { answer = invalid 2 0; cells = 2 ∷ 0 ∷ 0 ∷ 1 ∷ 9 ∷ []; list = 3 ∷ 0 ∷ 77 ∷ 77 ∷ 77 ∷ [] };
    }

-- and of any other value
abbrev c9 : Sample
c9 =
    record {
      words = 3 ∷ 1 ∷ 0 ∷ 0 ∷ 0 ∷ 0 ∷ 1 ∷ 6 ∷ 0 ∷ 1 ∷ [];
      text = [];
      rule_words = 0 ∷ 1 ∷ 1 ∷ 0 ∷ 45 ∷ 0 ∷ 1 ∷ 1 ∷ 2 ∷ 1 ∷ 2 ∷ 1 ∷ 1 ∷ 10 ∷ 0 ∷ 2 ∷ [];
      rule_text = [];
      cells = 3;
      list = 3;
      leaves = record { answer = valid 1 0; cells = 1 ∷ 0 ∷ 9 ∷ []; list = 0 ∷ 77 ∷ 77 ∷ [] };
    }

-- 45: most 1, and two elements hold
abbrev c10 : Sample
c10 =
    record {
      words = 5 ∷ 1 ∷ 3 ∷ 0 ∷ 0 ∷ 0 ∷ 3 ∷ 1 ∷ 0 ∷ 0 ∷ 0 ∷ 0 ∷ 3 ∷ 7 ∷ 0 ∷ 0 ∷ 0 ∷ 0 ∷ 3 ∷ 2 ∷ 0 ∷ 0 ∷ 0 ∷ 0 ∷ 4 ∷ 24 ∷ 0 ∷ 1 ∷ [];
      text = [];
      rule_words = 0 ∷ 1 ∷ 1 ∷ 1 ∷ 45 ∷ 0 ∷ 1 ∷ 11 ∷ 5 ∷ 0 ∷ 1 ∷ 1 ∷ 1 ∷ 2 ∷ 2 ∷ 1 ∷ 13 ∷ 0 ∷ 2 ∷ [];
      rule_text = [];
      cells = 9;
      list = 9;
      leaves = record { answer = invalid 4 0; cells = 2 ∷ 0 ∷ 0 ∷ 1 ∷ 0 ∷ 2 ∷ 0 ∷ 1 ∷ 9 ∷ []; list = 3 ∷ 5 ∷ 7 ∷ 0 ∷ 77 ∷ 77 ∷ 77 ∷ 77 ∷ 77 ∷ [] };
    }

-- 45, then 61: the element that does not hold is not marked, so 61 takes it
abbrev c11 : Sample
c11 =
    record {
      words = 5 ∷ 1 ∷ 2 ∷ 0 ∷ 0 ∷ 0 ∷ 3 ∷ 1 ∷ 0 ∷ 0 ∷ 0 ∷ 0 ∷ 3 ∷ 7 ∷ 0 ∷ 0 ∷ 0 ∷ 0 ∷ 3 ∷ 18 ∷ 0 ∷ 1 ∷ [];
      text = [];
      rule_words = 0 ∷ 2 ∷ 2 ∷ 1 ∷ 3 ∷ 1 ∷ 45 ∷ 0 ∷ 1 ∷ 61 ∷ 2 ∷ 0 ∷ 11 ∷ 5 ∷ 0 ∷ 1 ∷ 0 ∷ 0 ∷ 1 ∷ 1 ∷ 4294967295 ∷ 3 ∷ 4 ∷ 1 ∷ 21 ∷ 0 ∷ 2 ∷ [];
      rule_text = [];
      cells = 10;
      list = 10;
      leaves = record { answer = invalid 4 0; cells = 2 ∷ 0 ∷ 0 ∷ 0 ∷ 1 ∷ 0 ∷ 0 ∷ 2 ∷ 2 ∷ 9 ∷ []; list = 4 ∷ 7 ∷ 8 ∷ 0 ∷ 77 ∷ 77 ∷ 77 ∷ 77 ∷ 77 ∷ 77 ∷ [] };
    }

-- 36 has exactly three entries
abbrev c12 : Sample
c12 =
    record {
      words = 3 ∷ 1 ∷ 0 ∷ 0 ∷ 0 ∷ 0 ∷ 1 ∷ 6 ∷ 0 ∷ 1 ∷ [];
      text = [];
      rule_words = 0 ∷ 1 ∷ 1 ∷ 0 ∷ 36 ∷ 0 ∷ 2 ∷ 1 ∷ 0 ∷ 0 ∷ 1 ∷ 0 ∷ 0 ∷ 2 ∷ 1 ∷ 2 ∷ 13 ∷ 0 ∷ 2 ∷ [];
      rule_text = [];
      cells = 3;
      list = 3;
      leaves = record { answer = refuses 6 2; cells = 9 ∷ 9 ∷ 9 ∷ []; list = 77 ∷ 77 ∷ 77 ∷ [] };
    }

-- all branches of 36 are unguarded steps
abbrev c13 : Sample
c13 =
    record {
      words = 3 ∷ 1 ∷ 0 ∷ 0 ∷ 0 ∷ 0 ∷ 1 ∷ 6 ∷ 0 ∷ 1 ∷ [];
      text = [];
      rule_words = 0 ∷ 1 ∷ 1 ∷ 0 ∷ 36 ∷ 0 ∷ 3 ∷ 1 ∷ 0 ∷ 0 ∷ 1 ∷ 0 ∷ 0 ∷ 0 ∷ 0 ∷ 0 ∷ 2 ∷ 1 ∷ 3 ∷ 16 ∷ 0 ∷ 2 ∷ [];
      rule_text = [];
      cells = 3;
      list = 3;
      leaves = record { answer = refuses 8 0; cells = 9 ∷ 9 ∷ 9 ∷ []; list = 77 ∷ 77 ∷ 77 ∷ [] };
    }

abbrev all : List Sample
all = c1 ∷ c2 ∷ c3 ∷ c4 ∷ c5 ∷ c6 ∷ c7 ∷ c8 ∷ c9 ∷ c10 ∷ c11 ∷ c12 ∷ c13 ∷ []

pub conditions : map left_of all ≡ map (λ s. s.leaves) all
unfolding samples_compute
conditions = refl
