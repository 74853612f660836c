-- The steps of a clause on a row: how many there are, which pair each aims at, whether it is applied, what is carried from one to the next, and what the
-- clause says in the end. An assertion has no steps; a clause 30 to 34 has one for each schema; 36 has three, of which the condition and one branch are applied;
-- 37 has one for each entry, applied if its name is present; 40 has one for each entry, whose child is found by name; 43 has one for each entry that has a
-- child; 42, 44, 45, 60 and 61 have one for each child that they may take.
-- Assumes nothing.
use Rattle.std.specs.Prelude.{ℕ, ◌+◌, ◌-◌, min, Bool, true, false, not, cond, List, [], ◌∷◌, map, eqb, ltb, length, get_or}
use Rattle.laws.specs.Lowest.{lowest}
use Rattle.sheet.specs.Doc.{Value, null, bool, number, string, array, object, Doc, first_child}
use Rattle.rulesheet.specs.Ruleset.{Mode, all_of, any_of, one_of, not_of, ref, Reach, properties, additional_properties, prefix_items, items}
use Rattle.rulesheet.specs.Ruleset.{unevaluated_properties, unevaluated_items, Clause, asserts, in_place, if_then_else, dependent_schemas, contains, takes}
use Rattle.meaning.specs.Lists.{concat_map}
use Rattle.meaning.specs.Rules.{Pair, Way, whole, cut, way_in, none?, names_of, prefix_of, to, called, contained, passes}

-- how many members an object has, and how many elements an array: none of any other value
abbrev pub member_count : Value → ℕ
member_count null = 0
member_count (bool b) = 0
member_count (number z) = 0
member_count (string bytes) = 0
member_count (array first k) = 0
member_count (object first k) = k

abbrev pub element_count : Value → ℕ
element_count null = 0
element_count (bool b) = 0
element_count (number z) = 0
element_count (string bytes) = 0
element_count (array first k) = k
element_count (object first k) = 0

-- no name and no schema
abbrev pub no_member : List ℕ × ℕ
no_member = ([], 0)

-- what a clause says where `hits` of its n steps hold, or apply nothing
unfoldable pub finished_by : Mode → ℕ → ℕ → Bool
finished_by all_of hits n = eqb hits n
finished_by any_of hits n = ltb 0 hits
finished_by one_of hits n = eqb hits 1
finished_by not_of hits n = eqb hits 0
finished_by ref hits n = eqb hits n

-- ---- what is carried from step to step

-- the clause counts the steps whose pairs hold, and marks the rows of those alone; any other counts those whose pairs fail, and marks what it applies
unfoldable pub counts_hits : Clause → Bool
counts_hits (asserts t) = false
counts_hits (in_place m ss) = false
counts_hits (if_then_else i t e) = false
counts_hits (dependent_schemas es) = false
counts_hits (contains s least most) = true
counts_hits (takes c) = false

-- the clause has a condition, which chooses between two branches
unfoldable pub branches : Clause → Bool
branches (asserts t) = false
branches (in_place m ss) = false
branches (if_then_else i t e) = true
branches (dependent_schemas es) = false
branches (contains s least most) = false
branches (takes c) = false

-- step i moves what is carried by its verdict. Of branches it is 0 after a condition that holds and 1 after one that fails, and 2 after a branch that fails
unfoldable pub moved : Bool → Bool → ℕ → ℕ → Bool → ℕ
moved hits branch i t held =
    let more = t + 1 in
    let fails = cond branch (cond (eqb i 0) 1 2) more in
    cond hits (cond held more t) (cond held t fails)

-- step i of a clause with a condition goes: the condition, then the one branch or the other
unfoldable pub branch_goes : ℕ → ℕ → Bool
branch_goes i t = let branch = cond (eqb i 1) (eqb t 0) (eqb t 1) in cond (eqb i 0) true branch

-- the schema of step i of it
unfoldable pub branch_of : ℕ → ℕ → ℕ → ℕ → ℕ
branch_of i t e x = let branch = cond (eqb x 1) t e in cond (eqb x 0) i branch

-- whether a clause is cut, where judgements are
unfoldable pub way_of : Way → Clause → Way
way_of w (asserts t) = whole
way_of w (in_place m ss) = way_in w m
way_of w (if_then_else i t e) = whole
way_of w (dependent_schemas es) = whole
way_of w (contains s least most) = whole
way_of w (takes c) = whole

-- whether it stops by what is carried: of a clause that is cut that is how many of its pairs failed
unfoldable pub stops_by : Way → ℕ → Bool
stops_by whole tally = false
stops_by cut tally = not (eqb tally 0)

-- the step after step i of a clause that a failure stops if it is cut: past all of them if it is
unfoldable pub after_miss : Clause → ℕ → ℕ
after_miss (asserts t) i = i + 1
after_miss (in_place all_of ss) i = length ss
after_miss (in_place any_of ss) i = i + 1
after_miss (in_place one_of ss) i = i + 1
after_miss (in_place not_of ss) i = i + 1
after_miss (in_place ref ss) i = i + 1
after_miss (if_then_else a b c) i = i + 1
after_miss (dependent_schemas es) i = i + 1
after_miss (contains s least most) i = i + 1
after_miss (takes c) i = i + 1

module _ (D : Doc) (p : Pair) where
  abbrev pub own : Value
  own = D.value p.row

  -- child i of the row
  abbrev pub child_row : ℕ → ℕ
  child_row i = first_child own + i

  -- the first member of that name, or the number of members
  unfoldable pub child_named : List ℕ → ℕ
  child_named name = lowest (λ i. called D name (child_row i)) (member_count own)

  -- what a clause that applies schemas says in the end, by what is carried then
  unfoldable pub ends_by : Clause → ℕ → Bool
  ends_by (asserts t) tally = eqb tally 0
  ends_by (in_place all_of ss) tally = eqb tally 0
  ends_by (in_place any_of ss) tally = ltb tally (length ss)
  ends_by (in_place one_of ss) tally = eqb (length ss - tally) 1
  ends_by (in_place not_of ss) tally = eqb tally (length ss)
  ends_by (in_place ref ss) tally = eqb tally 0
  ends_by (if_then_else i t e) tally = ltb tally 2
  ends_by (dependent_schemas es) tally = eqb tally 0
  ends_by (contains s least most) tally = contained D p.row least most tally
  ends_by (takes c) tally = eqb tally 0

  -- what any clause says in the end
  unfoldable pub finish_of : Clause → ℕ → Bool
  finish_of (asserts t) tally = passes D p.row t
  finish_of (in_place m ss) tally = ends_by (in_place m ss) tally
  finish_of (if_then_else i t e) tally = ends_by (if_then_else i t e) tally
  finish_of (dependent_schemas es) tally = ends_by (dependent_schemas es) tally
  finish_of (contains s least most) tally = ends_by (contains s least most) tally
  finish_of (takes c) tally = ends_by (takes c) tally

  -- after the clauses `before` of the same schema
  module _ (before : List Clause) where
    -- how many elements the earlier `prefixItems` speaks of
    abbrev pub prefixed : ℕ
    prefixed = length (concat_map prefix_of before)

    -- no earlier `properties` names the row
    unfoldable pub unnamed : ℕ → Bool
    unnamed k = none? (map (λ n. called D n k) (concat_map names_of before))

    unfoldable pub steps_in : Reach → ℕ
    steps_in (properties es) = cond (eqb (member_count own) 0) 0 (length es)
    steps_in (additional_properties s) = member_count own
    steps_in (prefix_items ss) = min (element_count own) (length ss)
    steps_in (items s) = element_count own - prefixed
    steps_in (unevaluated_properties s) = member_count own
    steps_in (unevaluated_items s) = element_count own

    unfoldable pub aim_in : Reach → ℕ → Pair
    aim_in (properties es) i = to p (child_row (child_named (get_or es i no_member).0)) (get_or es i no_member).1
    aim_in (additional_properties s) i = to p (child_row i) s
    aim_in (prefix_items ss) i = to p (child_row i) (get_or ss i 0)
    aim_in (items s) i = to p (child_row (prefixed + i)) s
    aim_in (unevaluated_properties s) i = to p (child_row i) s
    aim_in (unevaluated_items s) i = to p (child_row i) s

    -- whether step i is applied, where the row that it aims at is marked or not
    unfoldable pub go_in : Reach → ℕ → Bool → Bool
    go_in (properties es) i marked = ltb (child_named (get_or es i no_member).0) (member_count own)
    go_in (additional_properties s) i marked = unnamed (child_row i)
    go_in (prefix_items ss) i marked = true
    go_in (items s) i marked = true
    go_in (unevaluated_properties s) i marked = not marked
    go_in (unevaluated_items s) i marked = not marked

    unfoldable pub steps_of : Clause → ℕ
    steps_of (asserts t) = 0
    steps_of (in_place m ss) = length ss
    steps_of (if_then_else i t e) = 3
    steps_of (dependent_schemas es) = length es
    steps_of (contains s least most) = element_count own
    steps_of (takes c) = steps_in c

    unfoldable pub aim_of : Clause → ℕ → Pair
    aim_of (asserts t) i = p
    aim_of (in_place m ss) i = to p p.row (get_or ss i 0)
    aim_of (if_then_else a b c) i = to p p.row (branch_of a b c i)
    aim_of (dependent_schemas es) i = to p p.row (get_or es i no_member).1
    aim_of (contains s least most) i = to p (child_row i) s
    aim_of (takes c) i = aim_in c i

    -- whether step i is applied, where the row that it aims at is marked or not, at what is carried
    unfoldable pub go_of : Clause → ℕ → Bool → ℕ → Bool
    go_of (asserts t) i marked tally = true
    go_of (in_place m ss) i marked tally = true
    go_of (if_then_else a b c) i marked tally = branch_goes i tally
    go_of (dependent_schemas es) i marked tally = ltb (child_named (get_or es i no_member).0) (member_count own)
    go_of (contains s least most) i marked tally = true
    go_of (takes c) i marked tally = go_in c i marked
