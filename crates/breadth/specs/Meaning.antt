-- What rows and text mean, read back without the definitions that made them.
-- Assumes nothing.
use Rattle.std.specs.Prelude.{true, List, [], ◌≡◌, ℕ, zero, suc, ◌+◌, ◌≤◌, ◌<◌, length, get_or}
use Rattle.jsontext.specs.Utf8.{Encoded}
use Rattle.jsontext.specs.Datum.{Datum, null, bool, number, string, array, object, Items, no_item, item, Fields, no_field, field}
use Rattle.sheet.specs.declared.kind.RowKind.TheVariants.{Null, Number, String, Array, Object}
use Rattle.sheet.specs.Doc as D
use Rattle.sheet.specs.Doc.{Doc, first_child, child_count, Child}
use Rattle.sheet.specs.Record.{value_by}
use Rattle.text.specs.Part.{part}
use Rattle.sheet.specs.Kinds.{number_ok}
use Rattle.breadth.specs.Number.{Narrow}
use Rattle.breadth.specs.Sheet.{KindRow}

abbrev pub part_at : List ℕ → ℕ → ℕ → List ℕ
part_at ts start size = part ts (record { start = start; length = size })

unfoldable pub no_row : KindRow
no_row = record { kind = Null; first = 0; count = 0; owner = 0; label = record { start = 0; length = 0 } }

unfoldable pub rows_doc : List KindRow → List ℕ → Doc
rows_doc rs ts =
    record {
      value = λ j. let r = get_or rs j no_row in value_by r.kind ts r.first r.count;
      name = λ j. let r = get_or rs j no_row in part_at ts r.label.start r.label.length;
      owner = λ j. (get_or rs j no_row).owner;
    }

abbrev pub item_count : Items → ℕ
item_count no_item = 0
item_count (item v vs) = suc (item_count vs)

abbrev pub field_count : Fields → ℕ
field_count no_field = 0
field_count (field n v ms) = suc (field_count ms)

-- ---- the shape of a record

-- a record of n rows as the record check asks for, but for names that repeat and for limits
pub record Shaped (d : Doc) (n : ℕ) : Type 0 where
  pub some : 0 < n
  -- children stand after their owner and inside n, and name it
  pub child_after : (j k : ℕ) → j < n → Child d j k → j < k
  pub child_inside : (j k : ℕ) → j < n → Child d j k → k < n
  pub child_owner : (j k : ℕ) → j < n → Child d j k → d.owner k ≡ j
  -- every row but the root is a child of the owner it names, which stands before it
  pub placed : (k : ℕ) → 0 < k → k < n → Child d (d.owner k) k
  pub owner_before : (k : ℕ) → 0 < k → k < n → d.owner k < k
  pub root_owner : d.owner 0 ≡ 0
  -- a value that has no children says 0, 0
  pub no_children : (j : ℕ) → j < n → child_count (d.value j) ≡ 0 → first_child (d.value j) ≡ 0

-- ---- the meaning

-- row j of the record means v
abbrev mutual
  pub Means : Doc → ℕ → Datum → Type 0
  Means d j null = d.value j ≡ D.null
  Means d j (bool b) = d.value j ≡ D.bool b
  Means d j (number z) = d.value j ≡ D.number z
  Means d j (string bs) = d.value j ≡ D.string bs
  Means d j (array vs) = (first : ℕ) × (d.value j ≡ D.array first (item_count vs)) × MeansItems d j first vs
  Means d j (object ms) = (first : ℕ) × (d.value j ≡ D.object first (field_count ms)) × MeansFields d j first ms

  -- the rows from number k on are children of row j and mean these values, in this order
  pub MeansItems : Doc → ℕ → ℕ → Items → Type 0
  MeansItems d j k no_item = Unit {0}
  MeansItems d j k (item v vs) = (d.owner k ≡ j) × Means d k v × MeansItems d j (suc k) vs

  pub MeansFields : Doc → ℕ → ℕ → Fields → Type 0
  MeansFields d j k no_field = Unit {0}
  MeansFields d j k (field n v ms) = (d.owner k ≡ j) × (d.name k ≡ n) × Means d k v × MeansFields d j (suc k) ms

-- ---- names

abbrev pub name_in : Fields → ℕ → List ℕ
name_in no_field i = []
name_in (field n v ms) zero = n
name_in (field n v ms) (suc i) = name_in ms i

-- no two fields share a name
abbrev pub Apart : Fields → Type 0
Apart ms = (i j : ℕ) → i < j → j < field_count ms → name_in ms i ≡ name_in ms j → ⊥

-- a record sheet can say the value: no two members of an object share a name, and each number fits a row
abbrev mutual
  pub Fitting : Datum → Type 0
  Fitting null = Unit {0}
  Fitting (bool b) = Unit {0}
  Fitting (number z) = Narrow z
  Fitting (string bs) = Unit {0}
  Fitting (array vs) = FittingItems vs
  Fitting (object ms) = Apart ms × FittingFields ms

  pub FittingItems : Items → Type 0
  FittingItems no_item = Unit {0}
  FittingItems (item v vs) = Fitting v × FittingItems vs

  pub FittingFields : Fields → Type 0
  FittingFields no_field = Unit {0}
  FittingFields (field n v ms) = Fitting v × FittingFields ms

-- every string and every name of a value is well-formed UTF-8
abbrev mutual
  pub Utf8 : Datum → Type 0
  Utf8 null = Unit {0}
  Utf8 (bool b) = Unit {0}
  Utf8 (number z) = Unit {0}
  Utf8 (string bs) = Encoded bs
  Utf8 (array vs) = Utf8Items vs
  Utf8 (object fs) = Utf8Fields fs

  pub Utf8Items : Items → Type 0
  Utf8Items no_item = Unit {0}
  Utf8Items (item v vs) = Utf8 v × Utf8Items vs

  pub Utf8Fields : Fields → Type 0
  Utf8Fields no_field = Unit {0}
  Utf8Fields (field n v fs) = Encoded n × Utf8 v × Utf8Fields fs

-- the labels, strings and numbers of a sheet as the record check asks for
pub record Labelled (rs : List KindRow) (ts : List ℕ) : Type 0 where
  pub root_bare : (get_or rs 0 no_row).label ≡ record { start = 0; length = 0 }
  pub labels_fit : (j : ℕ) → j < length rs → (get_or rs j no_row).label.start + (get_or rs j no_row).label.length ≤ length ts
  pub strings_fit : (j : ℕ) → j < length rs → (get_or rs j no_row).kind ≡ String → (get_or rs j no_row).first + (get_or rs j no_row).count ≤ length ts
  pub numbers_fit : (j : ℕ) → j < length rs → (get_or rs j no_row).kind ≡ Number → number_ok (get_or rs j no_row).first (get_or rs j no_row).count ≡ true
  pub items_bare : (j k : ℕ) → j < length rs → (get_or rs j no_row).kind ≡ Array → Child (rows_doc rs ts) j k → (get_or rs k no_row).label ≡ record { start = 0; length = 0 }
  pub names_differ : (j k l : ℕ) → j < length rs → (get_or rs j no_row).kind ≡ Object → Child (rows_doc rs ts) j k → Child (rows_doc rs ts) j l → k < l
      → (rows_doc rs ts).name k ≡ (rows_doc rs ts).name l → ⊥
