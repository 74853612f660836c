-- Rules as the rules of judgement see them: of each schema its clauses, each code a constructor that bears its keyword's name: of a
-- test, of a way to join schemas on the row itself, or of a reach among its children; those that do more than one of these are clauses of their own. That sheets are words is forgotten here.
-- Assumes nothing.
use Rattle.std.specs.Prelude.{List, [], ◌∷◌, ◌++◌, map, ℕ, ℤ}
use Rattle.sheet.specs.Doc.{Value}

-- numbers are how many billionths they are, names and strings their bytes, schemas their numbers

-- a test of the row's value alone
pub data Test : Type 0 where
  never : Test
  type : ℕ → Test
  enum : List Value → Test
  minimum maximum exclusive_minimum exclusive_maximum multiple_of : ℤ → Test
  min_length max_length min_items max_items min_properties max_properties : ℕ → Test
  required : List (List ℕ) → Test

-- how the results of schemas on the row itself are joined
pub data Mode : Type 0 where
  all_of any_of one_of not_of ref : Mode

-- which children of the row are taken, with which schemas
pub data Reach : Type 0 where
  properties : List (List ℕ × ℕ) → Reach
  additional_properties : ℕ → Reach
  prefix_items : List ℕ → Reach
  items : ℕ → Reach
  unevaluated_properties unevaluated_items : ℕ → Reach

pub data Clause : Type 0 where
  asserts : Test → Clause
  in_place : Mode → List ℕ → Clause
  -- the condition, and the schemas for where it holds and where it fails
  if_then_else : ℕ → ℕ → ℕ → Clause
  -- names, each with the schema for objects that have it
  dependent_schemas : List (List ℕ × ℕ) → Clause
  -- a schema for elements, and how many must hold at least and at most
  contains : ℕ → ℕ → ℕ → Clause
  takes : Reach → Clause

pub record Ruleset : Type 0 where
  pub clauses : ℕ → List Clause

-- the schemas that a clause applies to the row itself: its unguarded steps
abbrev pub unguarded : Clause → List ℕ
unguarded (asserts test) = []
unguarded (in_place mode schemas) = schemas
unguarded (if_then_else i t e) = i ∷ t ∷ e ∷ []
unguarded (dependent_schemas members) = map (λ m. m.1) members
unguarded (contains schema least most) = []
unguarded (takes reach) = []

-- those that it applies to children
abbrev pub guarded : Reach → List ℕ
guarded (properties members) = map (λ m. m.1) members
guarded (additional_properties schema) = schema ∷ []
guarded (prefix_items schemas) = schemas
guarded (items schema) = schema ∷ []
guarded (unevaluated_properties schema) = schema ∷ []
guarded (unevaluated_items schema) = schema ∷ []

-- all the schemas that a clause names
abbrev pub named : Clause → List ℕ
named (asserts test) = []
named (in_place mode schemas) = schemas
named (if_then_else i t e) = i ∷ t ∷ e ∷ []
named (dependent_schemas members) = map (λ m. m.1) members
named (contains schema least most) = schema ∷ []
named (takes reach) = guarded reach

-- the schemas that the clauses reach unguarded in one step
unfoldable pub steps : List Clause → List ℕ
steps [] = []
steps (clause ∷ clauses) = unguarded clause ++ steps clauses

abbrev pub next : Ruleset → ℕ → List ℕ
next rules s = steps (rules.clauses s)
