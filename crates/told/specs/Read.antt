-- What is read of a clause before its steps are taken.
-- Assumes nothing.
use Rattle.std.specs.Prelude.{ℕ, ◌≤◌, ◌<◌, Bool, true, false, not, ◌||◌, List, [], map, ◌≡◌, length, get_or, take}
use Rattle.sheet.specs.Doc.{Doc}
use Rattle.rulesheet.specs.Ruleset as R
use Rattle.rulesheet.specs.Ruleset.{takes, additional_properties, items}
use Rattle.few.specs.Asked.{applies_any}
use Rattle.meaning.specs.Lists.{any, concat_map}
use Rattle.meaning.specs.Rules.{names_of, prefix_of, called}

-- whether a clause names members
unfoldable pub names_any : R.Clause → Bool
names_any (R.asserts t) = false
names_any (R.in_place m ss) = false
names_any (R.if_then_else i t e) = false
names_any (R.dependent_schemas es) = false
names_any (R.contains s least most) = false
names_any (takes (R.properties es)) = true
names_any (takes (additional_properties s)) = false
names_any (takes (R.prefix_items ss)) = false
names_any (takes (items s)) = false
names_any (takes (R.unevaluated_properties s)) = false
names_any (takes (R.unevaluated_items s)) = false

-- whether it marks no member but those that it names: a test marks none
unfoldable pub marks_named : R.Clause → Bool
marks_named c = not (applies_any c) || names_any c

-- the clauses before number `from` name no member
pub record NamesFrom (before : List R.Clause) (from : ℕ) : Type 0 where
  pub within : from ≤ length before
  pub none : concat_map names_of (take from before) ≡ []

-- each of them marks no member but those that it names
abbrev pub NamesOnly : List R.Clause → Type 0
NamesOnly before = (k : ℕ) → k < length before → marks_named (get_or before k (R.asserts R.never)) ≡ true

-- said in place of a number of clauses: they mark no member but those that they name, so the marks tell
abbrev pub by_marks : ℕ
by_marks = 4294967295

-- what the clauses before it tell a clause: `items` how many elements they speak of, `additionalProperties` from which of them on they name members, or that the
-- marks tell which members they name
pub record Started (before : List R.Clause) (c : R.Clause) (from : ℕ) : Type 0 where
  pub prefix_is : (s : ℕ) → c ≡ takes (items s) → from ≡ length (concat_map prefix_of before)
  pub names_from : (s : ℕ) → c ≡ takes (additional_properties s) → (from ≡ by_marks → ⊥) → NamesFrom before from
  pub names_only : (s : ℕ) → c ≡ takes (additional_properties s) → from ≡ by_marks → NamesOnly before

-- one of the names is that of row k
abbrev pub named_by : Doc → List (List ℕ) → ℕ → Bool
named_by D names k = any (map (λ n. called D n k) names)
