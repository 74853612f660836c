-- The entries of a list clause that one pass over a rule sheet goes by: that they are in order, and that their names differ.
-- Assumes nothing.
use Rattle.std.specs.Prelude.{Bool, true, false, cond, ◌&&◌, List, ◌≡◌, ℕ, ◌+◌, ◌-◌, ◌*◌, ◌≤◌, ◌<◌, eqb, ltb, length, get_or}
use Rattle.text.specs.Part.{fits}
use Rattle.names.specs.Names.{repeats_by}
use Rattle.rulesheet.specs.declared.code.Fields.{Fields}
use Rattle.rulesheet.specs.declared.code.Fields.TheVariants.{Unknown, Bare, Types, Number, Positive, Limit, Schema, Values, Names, Schemas, Members, Branches, Counted}
use Rattle.rulesheet.specs.declared.form.EntryRow.{EntryRow}
use Rattle.rulesheet.specs.Codes.{entry_range, entry_name}
use Rattle.rulesheet.specs.Sheet.{schemas_word, text_word, entry_at}
use Rattle.rulesheet.specs.Faults.{is_named, entry_ok}

-- below which number the third word of an entry stands, of a list of things with names
abbrev pub bound_of : Fields → ℕ → ℕ
bound_of Unknown m = 1
bound_of Bare m = 1
bound_of Types m = 1
bound_of Number m = 1
bound_of Positive m = 1
bound_of Limit m = 1
bound_of Schema m = 1
bound_of Values m = 1
bound_of Names m = 1
bound_of Schemas m = 1
bound_of Members m = m
bound_of Branches m = 1
bound_of Counted m = 1

-- an entry's name lies within a text of `size` bytes, and its third word stands below the bound
abbrev pub named_ok : ℕ → ℕ → EntryRow → Bool
named_ok size bound entry = fits size (entry_range entry) && ltb entry.third bound

pub record AllNamed (ws : List ℕ) (size bound first end : ℕ) : Type 0 where
  pub named : (x : ℕ) → first ≤ x → x < end → named_ok size bound (entry_at ws x) ≡ true

-- a key of a name, by its length and its last byte
unfoldable pub key_of : List ℕ → ℕ
key_of bs = let n = length bs in cond (eqb n 0) 0 (256 * n + get_or bs (n - 1) 0)

-- the names of `count` entries from `first` on lie within a text of `size` bytes
pub record NamesFit (ws : List ℕ) (size first count : ℕ) : Type 0 where
  pub fitting : (i : ℕ) → i < count → fits size (entry_range (entry_at ws (first + i))) ≡ true

-- none of them has an earlier one's name
pub record NamesDiffer (ws ts : List ℕ) (first count : ℕ) : Type 0 where
  pub differ : (i : ℕ) → i < count → repeats_by (λ j. entry_name ts (entry_at ws (first + j))) i ≡ false

-- the entries of a list of these fields are in order, and differ if they have names
pub record ListFine (ws ts : List ℕ) (fields : Fields) (first count : ℕ) : Type 0 where
  pub entries : (x : ℕ) → first ≤ x → x < first + count → entry_ok fields (text_word ws) (schemas_word ws) (entry_at ws x) ≡ true
  pub names : is_named fields ≡ true → NamesDiffer ws ts first count
