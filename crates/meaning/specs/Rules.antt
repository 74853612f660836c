-- The rules of judgement. Beside the line of a keyword stands 01's code, with the name that document 000 gives the rule. A judgement is whole, or it is cut
-- short after a failure (02, #105); what holds of a pair is said of whole ones.
-- Assumes nothing.
use Rattle.std.specs.Prelude.{ℕ, zero, suc, ◌+◌, ◌*◌, Bool, true, false, not, ◌&&◌, ◌||◌, cond, List, [], ◌∷◌, ◌++◌, map, eqb, leb, length, drop, ℤ}
use Rattle.std.specs.Int.Signed.{le_z, lt_z}
use Rattle.decimal.specs.Value.{is_multiple}
use Rattle.text.specs.Part.{same_bytes}
use Rattle.sheet.specs.Doc.{Value, Doc}
use Rattle.sheet.specs.Faults.{level_refused}
use Rattle.unguarded.specs.Graph.{chain_steps}
use Rattle.rulesheet.specs.Ruleset.{Test, never, type, enum, minimum, maximum, exclusive_minimum, exclusive_maximum, multiple_of}
use Rattle.rulesheet.specs.Ruleset.{min_length, max_length, min_items, max_items, min_properties, max_properties, required}
use Rattle.rulesheet.specs.Ruleset.{Mode, all_of, any_of, one_of, not_of, ref, Reach, properties, additional_properties, prefix_items, items}
use Rattle.rulesheet.specs.Ruleset.{unevaluated_properties, unevaluated_items, Clause, asserts, in_place, if_then_else, dependent_schemas, contains, takes, Ruleset}
use Rattle.meaning.specs.Lists.{all, any, count, elem, keep, concat_map}
use Rattle.meaning.specs.Tests.{number?, bytes?, elements?, members?, given, rows, length_of, at_least, at_most, typed, equal}

pub record Pair : Type 0 where
  pub row : ℕ
  pub rule : ℕ

-- ---- sets of rows

abbrev pub Marks : Type 0
Marks = ℕ → Bool

unfoldable pub nothing : Marks
nothing k = false

infixl 30 ◌∪◌
unfoldable pub ◌∪◌ : Marks → Marks → Marks
(κ ∪ μ) k = κ k || μ k

unfoldable pub these : List ℕ → Marks
these ks k = elem k ks

-- ---- what is found of a pair, and how: results asked for in order

pub record Result : Type 0 where
  pub holds : Bool
  pub marks : Marks

unfoldable pub unions : List Result → Marks
unions [] = nothing
unions (r ∷ rs) = r.marks ∪ unions rs

unfoldable pub verdicts : List Result → List Bool
verdicts rs = map (λ r. r.holds) rs

-- a judgement applies pairs one after the other and then knows its result
pub data Judgement : Type 0 where
  found : Result → Judgement
  apply : Pair → (Result → Judgement) → Judgement

unfoldable pub answer : (Pair → Result) → Judgement → Result
answer sub (found r) = r
answer sub (apply p k) = answer sub (k (sub p))

unfoldable pub applied : (Pair → Result) → Judgement → List Pair
applied sub (found r) = []
applied sub (apply p k) = p ∷ applied sub (k (sub p))

unfoldable pub and_then : Judgement → (Result → Judgement) → Judgement
and_then (found r) f = f r
and_then (apply p k) f = apply p (λ r. and_then (k r) f)

-- ---- whole or cut

pub data Way : Type 0 where
  whole cut : Way

-- a cut judgement stops at a result that fails
unfoldable pub stops : Way → Result → Bool
stops whole r = false
stops cut r = not r.holds

-- the pairs one after the other; a cut judgement applies none after the first that fails
unfoldable pub each : Way → List Pair → (List Result → Judgement) → Judgement
each w [] k = k []
each w (p ∷ ps) k = apply p (λ r. cond (stops w r) (k (r ∷ [])) (each w ps (λ rs. k (r ∷ rs))))

-- of the entries only those of all_of are cut
unfoldable pub way_in : Way → Mode → Way
way_in whole m = whole
way_in cut all_of = cut
way_in cut any_of = whole
way_in cut one_of = whole
way_in cut not_of = whole
way_in cut ref = whole

-- ---- what a clause says of a row

-- exactly one
unfoldable pub one? : List Bool → Bool
one? bs = eqb (count bs) 1

unfoldable pub none? : List Bool → Bool
none? bs = not (any bs)

-- no fewer and no more
unfoldable pub within : ℕ → ℕ → ℕ → Bool
within least most n = leb least n && leb n most

-- the verdicts of schemas on the row itself, joined
unfoldable pub joined : Mode → List Bool → Bool
joined all_of bs = all bs  -- 30 (all_of)
joined any_of bs = any bs  -- 31 (any_of)
joined one_of bs = one? bs  -- 32 (one_of)
joined not_of bs = none? bs  -- 33 (not)
joined ref bs = all bs  -- 34 ($ref)

-- the names of an earlier `properties`
unfoldable pub names_of : Clause → List (List ℕ)
names_of (asserts t) = []
names_of (in_place m ss) = []
names_of (if_then_else i t e) = []
names_of (dependent_schemas es) = []
names_of (contains s least most) = []
names_of (takes (properties es)) = map (λ e. e.0) es
names_of (takes (additional_properties s)) = []
names_of (takes (prefix_items ss)) = []
names_of (takes (items s)) = []
names_of (takes (unevaluated_properties s)) = []
names_of (takes (unevaluated_items s)) = []

-- the schemas of an earlier `prefixItems`
unfoldable pub prefix_of : Clause → List ℕ
prefix_of (asserts t) = []
prefix_of (in_place m ss) = []
prefix_of (if_then_else i t e) = []
prefix_of (dependent_schemas es) = []
prefix_of (contains s least most) = []
prefix_of (takes (properties es)) = []
prefix_of (takes (additional_properties s)) = []
prefix_of (takes (prefix_items ss)) = ss
prefix_of (takes (items s)) = []
prefix_of (takes (unevaluated_properties s)) = []
prefix_of (takes (unevaluated_items s)) = []

-- every pair that a pair p applies is made here: schema s on row k
unfoldable pub to : Pair → ℕ → ℕ → Pair
to p k s = record { row = k; rule = s }

-- each schema on the row itself
unfoldable pub here : Pair → List ℕ → List Pair
here p ss = map (λ s. to p p.row s) ss

-- the schema s on each row
unfoldable pub under : Pair → ℕ → List ℕ → List Pair
under p s ks = map (λ k. to p k s) ks

-- schemas on rows by place
unfoldable pub across : Pair → List ℕ → List ℕ → List Pair
across p [] ss = []
across p (k ∷ ks) [] = []
across p (k ∷ ks) (s ∷ ss) = to p k s ∷ across p ks ss

-- those of the pairs that hold
unfoldable pub holding : List Pair → List Result → List Pair
holding [] rs = []
holding (p ∷ ps) [] = []
holding (p ∷ ps) (r ∷ rs) = let rest = holding ps rs in cond r.holds (p ∷ rest) rest

module _ (D : Doc) where
  unfoldable pub called : List ℕ → ℕ → Bool
  called name k = same_bytes (D.name k) name

  unfoldable pub members_of : ℕ → List ℕ
  members_of j = rows (members? (D.value j))

  unfoldable pub elements_of : ℕ → List ℕ
  elements_of j = rows (elements? (D.value j))

  -- each name is the name of one of the rows
  unfoldable pub present : List (List ℕ) → List ℕ → Bool
  present names ks = all (map (λ n. any (map (λ k. called n k) ks)) names)

  -- a member of the row has the name
  unfoldable pub has_member : ℕ → List ℕ → Bool
  has_member j name = any (map (λ k. called name k) (members_of j))

  unfoldable pub passes : ℕ → Test → Bool
  passes j never = false  -- 1 (false)
  passes j (type mask) = typed mask (D.value j)  -- 2 (type)
  passes j (enum vs) = any (map (λ v. equal (D.value j) v) vs)  -- 3 (enum)
  passes j (minimum z) = given (number? (D.value j)) (λ y. le_z z y)  -- 10 (minimum)
  passes j (maximum z) = given (number? (D.value j)) (λ y. le_z y z)  -- 11 (maximum)
  passes j (exclusive_minimum z) = given (number? (D.value j)) (λ y. lt_z z y)  -- 12 (exclusiveMinimum)
  passes j (exclusive_maximum z) = given (number? (D.value j)) (λ y. lt_z y z)  -- 13 (exclusiveMaximum)
  passes j (multiple_of z) = given (number? (D.value j)) (λ y. is_multiple y z)  -- 14 (multipleOf)
  passes j (min_length k) = at_least length_of k (bytes? (D.value j))  -- 20 (minLength)
  passes j (max_length k) = at_most length_of k (bytes? (D.value j))  -- 21 (maxLength)
  passes j (min_items k) = at_least length k (elements? (D.value j))  -- 22 (minItems)
  passes j (max_items k) = at_most length k (elements? (D.value j))  -- 23 (maxItems)
  passes j (min_properties k) = at_least length k (members? (D.value j))  -- 24 (minProperties)
  passes j (max_properties k) = at_most length k (members? (D.value j))  -- 25 (maxProperties)
  passes j (required names) = given (members? (D.value j)) (present names)  -- 26 (required)

  -- the children that a clause takes, with their schemas, after the clauses `before` of the same schema, which mark κ
  unfoldable pub taken : Pair → List Clause → Marks → Reach → List Pair
  taken p before κ (properties es) = concat_map (λ e. under p e.1 (keep (called e.0) (members_of p.row))) es  -- 40 (properties)
  taken p before κ (additional_properties s) =  -- 42 (additionalProperties)
      under p s (keep (λ k. none? (map (λ n. called n k) (concat_map names_of before))) (members_of p.row))
  taken p before κ (prefix_items ss) = across p (elements_of p.row) ss  -- 43 (prefixItems)
  taken p before κ (items s) = under p s (drop (length (concat_map prefix_of before)) (elements_of p.row))  -- 44 (items)
  taken p before κ (unevaluated_properties s) = under p s (keep (λ k. not (κ k)) (members_of p.row))  -- 60 (unevaluatedProperties)
  taken p before κ (unevaluated_items s) = under p s (keep (λ k. not (κ k)) (elements_of p.row))  -- 61 (unevaluatedItems)

  -- each schema on the row itself whose name a member has
  unfoldable pub depended : Pair → List (List ℕ × ℕ) → List Pair
  depended p es = concat_map (λ e. cond (has_member p.row e.0) (to p p.row e.1 ∷ []) []) es

  -- of an array, whether so many elements are enough
  unfoldable pub contained : ℕ → ℕ → ℕ → ℕ → Bool
  contained j least most n = given (elements? (D.value j)) (λ ks. within least most n)

  -- ---- the rules

  -- J : K, after the clauses `before` of the same schema, which mark κ
  unfoldable pub clause : Way → Pair → List Clause → Marks → Clause → Judgement
  clause w p before κ (asserts t) = found (record { holds = passes p.row t; marks = nothing })
  clause w p before κ (in_place m ss) =
      each (way_in w m) (here p ss) (λ rs. found (record { holds = joined m (verdicts rs); marks = unions rs }))
  clause w p before κ (if_then_else i t e) =  -- 36 (if, then, else)
      apply (to p p.row i) (λ q.
      apply (to p p.row (cond q.holds t e)) (λ r.
      found (record { holds = r.holds; marks = q.marks ∪ r.marks })))
  clause w p before κ (dependent_schemas es) =  -- 37 (dependentSchemas)
      each whole (depended p es) (λ rs. found (record { holds = all (verdicts rs); marks = unions rs }))
  clause w p before κ (contains s least most) =  -- 45 (contains, minContains, maxContains)
      let ps = under p s (elements_of p.row) in
      each whole ps (λ rs. found (record { holds = contained p.row least most (count (verdicts rs)); marks = these (map (λ q. q.row) (holding ps rs)) }))
  clause w p before κ (takes c) =
      let ps = taken p before κ c in
      each whole ps (λ rs. found (record { holds = all (verdicts rs); marks = these (map (λ q. q.row) ps) }))

  -- J : K₁ … Kₙ, after the clauses `before`, which have the result r; a cut judgement judges none after the first that fails
  unfoldable pub clauses : Way → Pair → List Clause → Result → List Clause → Judgement
  clauses w p before r [] = found r
  clauses w p before r (c ∷ cs) =
      cond (stops w r) (found r)
      (and_then (clause w p before r.marks c)
      (λ q. clauses w p (before ++ c ∷ []) (record { holds = r.holds && q.holds; marks = r.marks ∪ q.marks }) cs))

-- levels × schemas of a chain: every pair of accepted sheets ranks below it (`rank` in Fit)
unfoldable pub depth : ℕ
depth = level_refused * suc chain_steps

module _ (D : Doc) (R : Ruleset) where
  -- J : S; a schema that fails has no marks
  unfoldable pub judgement : Way → Pair → Judgement
  judgement w p =
      and_then (clauses D w p [] (record { holds = true; marks = nothing }) (R.clauses p.rule))
      (λ r. found (record { holds = r.holds; marks = λ k. r.holds && r.marks k }))

  -- the derivation of a pair, at most f pairs deep
  unfoldable pub derive : ℕ → Pair → Result
  derive zero p = record { holds = false; marks = nothing }
  derive (suc f) p = answer (λ q. derive f q) (judgement whole p)

  -- what holds of a pair of accepted sheets
  unfoldable pub truth : Pair → Result
  truth p = derive depth p

  -- the pairs that a pair applies directly, in order
  unfoldable pub applies : Way → Pair → List Pair
  applies w p = applied truth (judgement w p)

-- opens this module to a computation
unfoldable pub rules_computes : Unit {0}
unfolding nothing ◌∪◌ these unions verdicts answer applied and_then stops each way_in one? none? within joined names_of prefix_of to here under across holding called members_of elements_of present has_member passes taken depended contained clause clauses depth judgement derive truth applies
rules_computes = tt
