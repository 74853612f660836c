-- Each keyword's rule in words, under the name that document 000 gives it in Figure 7 or in its tables; 01's code stands beside it. These are laws about
-- the lines of `passes`, `joined` and `taken` in `Rules`, which are the premises of the trees in `Derivation`: `figure-7` (`proofs/Keywords.antt`) shows
-- them for every record. The rules of schemas and of lists of keywords, (schema-true), (schema-false), (klist-0) and (klist-(n+1)), are constructors there, and so are the two of 36, (if-then) and (if-else).
-- Assumes nothing.
use Rattle.std.specs.Prelude.{Bool, true, false, ◌↔◌, ◌⊎◌, ◌≡◌, ℕ, ◌+◌, ◌*◌, ◌/◌, ◌%◌, ◌≤◌, ◌<◌, length, get_or, ℤ, nat_abs}
use mathlib.Core.List.{List, [], ◌∷◌, ◌++◌, Memᴰ as In}
use Rattle.std.specs.Int.Signed.{le_z, lt_z}
use Rattle.decimal.specs.Value.{one}
use Rattle.utf8.specs.Encoding.{Utf8, characters}
use Rattle.sheet.specs.Doc.{Value, null, bool, number, string, array, object, Doc}
use Rattle.rulesheet.specs.Ruleset.{never, type, enum, minimum, maximum, exclusive_minimum, exclusive_maximum, multiple_of}
use Rattle.rulesheet.specs.Ruleset.{min_length, max_length, min_items, max_items, min_properties, max_properties, required}
use Rattle.rulesheet.specs.Ruleset.{all_of, any_of, one_of, not_of, ref, Reach, properties, additional_properties, prefix_items, items}
use Rattle.rulesheet.specs.Ruleset.{unevaluated_properties, unevaluated_items, Clause, takes}
use Rattle.meaning.specs.Rules.{Pair, Marks, joined, within, under, elements_of, passes, taken, depended}

-- ---- the words

-- z is a whole number of times w, both as sizes; the sizes are in billionths
abbrev pub Times : ℤ → ℕ → Type 0
Times z w = (k : ℕ) × (nat_abs z ≡ k * w)

-- the sum of types has the type of this number
abbrev pub Among : ℕ → ℕ → Type 0
Among mask bit = mask / bit % 2 ≡ 1

-- the value's type is one of the sum; a whole number is an integer besides
abbrev pub TypeOf : ℕ → Value → Type 0
TypeOf mask null = Among mask 1
TypeOf mask (bool b) = Among mask 2
TypeOf mask (number z) = Among mask 8 ⊎ (Among mask 4 × Times z one)
TypeOf mask (string bytes) = Among mask 16
TypeOf mask (array first count) = Among mask 32
TypeOf mask (object first count) = Among mask 64

-- a value that an enum may have: no array and no object
abbrev pub Scalar : Value → Type 0
Scalar null = Unit {0}
Scalar (bool b) = Unit {0}
Scalar (number z) = Unit {0}
Scalar (string bytes) = Unit {0}
Scalar (array first count) = ⊥
Scalar (object first count) = ⊥

-- a string is UTF-8, which 13 asks of every row
abbrev pub WellSpelled : Value → Type 0
WellSpelled v = (bytes : List ℕ) → v ≡ string bytes → Utf8 bytes

-- k is one of the `count` rows from `first` on
abbrev pub Within : ℕ → ℕ → ℕ → Type 0
Within first count k = (first ≤ k) × (k < first + count)

-- the clauses have no `prefixItems`
abbrev pub NoPrefix : List Clause → Type 0
NoPrefix cs = (ss : List ℕ) → In (takes (prefix_items ss)) cs → ⊥

module _ (D : Doc) where
  -- row k is a member of the object in row j, or an element of the array in it
  pub record Member (j k : ℕ) : Type 0 where
    pub first : ℕ
    pub count : ℕ
    pub of_object : D.value j ≡ object first count
    pub within : Within first count k

  -- element number i
  pub record Element (j i k : ℕ) : Type 0 where
    pub first : ℕ
    pub count : ℕ
    pub of_array : D.value j ≡ array first count
    pub below : i < count
    pub place : k ≡ first + i

  -- an entry of a `properties` among the clauses has row k's name
  abbrev pub Named : List Clause → ℕ → Type 0
  Named cs k = (es : List (List ℕ × ℕ)) × (e : List ℕ × ℕ) × In (takes (properties es)) cs × In e es × (e.0 ≡ D.name k)

  -- ---- keywords that look at the value alone: one of another type passes, as in (minimumTriv)

  pub record Assertions : Type 0 where
    -- 1, (false)
    pub never_is : (j : ℕ) → passes D j never ≡ false
    -- 2, (type)
    pub type_is : (j mask : ℕ) → (passes D j (type mask) ≡ true) ↔ TypeOf mask (D.value j)
    -- 3, (enum): numbers are equal by value, strings by bytes
    pub enum_is : (j : ℕ) (vs : List Value) → ((v : Value) → In v vs → Scalar v) → (passes D j (enum vs) ≡ true) ↔ In (D.value j) vs
    -- 10 to 13, (minimum) and those like it
    pub minimum_is : (j : ℕ) (z : ℤ) → (passes D j (minimum z) ≡ true) ↔ ((y : ℤ) → D.value j ≡ number y → le_z z y ≡ true)
    pub maximum_is : (j : ℕ) (z : ℤ) → (passes D j (maximum z) ≡ true) ↔ ((y : ℤ) → D.value j ≡ number y → le_z y z ≡ true)
    pub exclusive_minimum_is : (j : ℕ) (z : ℤ) → (passes D j (exclusive_minimum z) ≡ true) ↔ ((y : ℤ) → D.value j ≡ number y → lt_z z y ≡ true)
    pub exclusive_maximum_is : (j : ℕ) (z : ℤ) → (passes D j (exclusive_maximum z) ≡ true) ↔ ((y : ℤ) → D.value j ≡ number y → lt_z y z ≡ true)
    -- 14, (multipleOf)
    pub multiple_of_is : (j : ℕ) (z : ℤ) → (passes D j (multiple_of z) ≡ true) ↔ ((y : ℤ) → D.value j ≡ number y → Times y (nat_abs z))
    -- 20 and 21, (minLength), (maxLength): a string's length is that of the list of code points that it encodes
    pub min_length_is : (j k : ℕ) → WellSpelled (D.value j) → (passes D j (min_length k) ≡ true) ↔ ((bytes : List ℕ) → D.value j ≡ string bytes → (u : Utf8 bytes) → k ≤ characters u)
    pub max_length_is : (j k : ℕ) → WellSpelled (D.value j) → (passes D j (max_length k) ≡ true) ↔ ((bytes : List ℕ) → D.value j ≡ string bytes → (u : Utf8 bytes) → characters u ≤ k)
    -- 22 and 23, (minItems), (maxItems)
    pub min_items_is : (j k : ℕ) → (passes D j (min_items k) ≡ true) ↔ ((first count : ℕ) → D.value j ≡ array first count → k ≤ count)
    pub max_items_is : (j k : ℕ) → (passes D j (max_items k) ≡ true) ↔ ((first count : ℕ) → D.value j ≡ array first count → count ≤ k)
    -- 24 and 25, (minProperties), (maxProperties)
    pub min_properties_is : (j k : ℕ) → (passes D j (min_properties k) ≡ true) ↔ ((first count : ℕ) → D.value j ≡ object first count → k ≤ count)
    pub max_properties_is : (j k : ℕ) → (passes D j (max_properties k) ≡ true) ↔ ((first count : ℕ) → D.value j ≡ object first count → count ≤ k)
    -- 26, (required)
    pub required_is : (j : ℕ) (names : List (List ℕ)) → (passes D j (required names) ≡ true) ↔
        ((first count : ℕ) → D.value j ≡ object first count → (name : List ℕ) → In name names → (k : ℕ) × Within first count k × (D.name k ≡ name))

  -- ---- keywords that take children: which pairs these are, after the clauses `before` of the same schema, which mark κ

  pub record Reaches (p : Pair) (before : List Clause) (κ : Marks) : Type 0 where
    -- 40, (properties): a member, an entry that has its name, and that entry's schema
    pub properties_is : (es : List (List ℕ × ℕ)) (q : Pair) → In q (taken D p before κ (properties es)) ↔
        (Member p.row q.row × ((e : List ℕ × ℕ) × In e es × (e.0 ≡ D.name q.row) × (e.1 ≡ q.rule)))
    -- 42, (additionalProperties): a member that no adjacent 40 names; what is marked does not matter
    pub additional_properties_is : (s : ℕ) (q : Pair) → In q (taken D p before κ (additional_properties s)) ↔
        (Member p.row q.row × (q.rule ≡ s) × (Named before q.row → ⊥))
    -- 43, (prefixItems): an element, and the schema at its place
    pub prefix_items_is : (ss : List ℕ) (q : Pair) → In q (taken D p before κ (prefix_items ss)) ↔
        ((i : ℕ) × Element p.row i q.row × (i < length ss) × (q.rule ≡ get_or ss i 0))
    -- 44, (items): an element after the entries of the adjacent 43, any if there is none
    pub items_is : (s : ℕ) (q : Pair) → NoPrefix before → In q (taken D p before κ (items s)) ↔
        ((i : ℕ) × Element p.row i q.row × (q.rule ≡ s))
    pub items_after : (s : ℕ) (ss : List ℕ) (cs ds : List Clause) (q : Pair) → before ≡ cs ++ takes (prefix_items ss) ∷ ds → NoPrefix cs → NoPrefix ds
        → In q (taken D p before κ (items s)) ↔ ((i : ℕ) × Element p.row i q.row × (q.rule ≡ s) × (length ss ≤ i))
    -- 37, (dependentSchemas): the row itself, with the schema of an entry whose name a member has
    pub dependent_schemas_is : (es : List (List ℕ × ℕ)) (q : Pair) → In q (depended D p es) ↔
        ((q.row ≡ p.row) × ((e : List ℕ × ℕ) × In e es × (e.1 ≡ q.rule) × ((k : ℕ) × Member p.row k × (e.0 ≡ D.name k))))
    -- 45, (contains): every element
    pub contains_is : (s : ℕ) (q : Pair) → In q (under p s (elements_of D p.row)) ↔ ((i : ℕ) × Element p.row i q.row × (q.rule ≡ s))
    -- 60 and 61, (unevaluatedProperties), (unevaluatedItems): a child that no earlier clause of the schema has marked
    pub unevaluated_properties_is : (s : ℕ) (q : Pair) → In q (taken D p before κ (unevaluated_properties s)) ↔
        (Member p.row q.row × (q.rule ≡ s) × (κ q.row ≡ false))
    pub unevaluated_items_is : (s : ℕ) (q : Pair) → In q (taken D p before κ (unevaluated_items s)) ↔
        ((i : ℕ) × Element p.row i q.row × (q.rule ≡ s) × (κ q.row ≡ false))

-- ---- keywords that join verdicts on the row itself, or count those on its children

pub record Joinings : Type 0 where
  -- 30, (all_of)
  pub all_of_is : (bs : List Bool) → (joined all_of bs ≡ true) ↔ ((b : Bool) → In b bs → b ≡ true)
  -- 31, (any_of)
  pub any_of_is : (bs : List Bool) → (joined any_of bs ≡ true) ↔ In true bs
  -- 32, (one_of): one place holds, and no other
  pub one_of_is : (bs : List Bool) → (joined one_of bs ≡ true) ↔ ((i : ℕ) × (get_or bs i false ≡ true) × ((k : ℕ) → get_or bs k false ≡ true → k ≡ i))
  -- 33, (not)
  pub not_is : (b : Bool) → (joined not_of (b ∷ []) ≡ true) ↔ (b ≡ false)
  -- 34, ($ref)
  pub ref_is : (b : Bool) → (joined ref (b ∷ []) ≡ true) ↔ (b ≡ true)
  -- 45, (minContains), (maxContains): both ends are within
  pub contains_count : (least most n : ℕ) → (within least most n ≡ true) ↔ ((least ≤ n) × (n ≤ most))
