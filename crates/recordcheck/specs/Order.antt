-- What the pass that only says yes begins with and keeps of the rows, and what its yes tells.
-- Assumes nothing.
use Rattle.std.specs.Prelude.{Bool, true, false, ◌&&◌, List, ◌≡◌, ℕ, ◌+◌, ◌≤◌, ◌<◌, eqb, length, get_or}
use Rattle.names.specs.Names.{repeats_by}
use Rattle.sheet.specs.declared.kind.RowKind.{RowKind}
use Rattle.sheet.specs.declared.record.RecordForm.{RecordForm}
use Rattle.sheet.specs.Kinds.{kind_of, holds_children, is_object_kind}
use Rattle.sheet.specs.Doc.{level}
use Rattle.sheet.specs.Record.{text_word, form_of, row_at, owner_at, doc_of}
use Rattle.sheet.specs.Faults.{words_ok, text_ok, label_ok, place_ok, row_ok, level_refused}
use Rattle.sheet.specs.Accepted.{Formed}

-- the trailer is in order, over a text of this length, and the form is that of these words
pub record Begun (ws ts : List ℕ) (form : RecordForm) : Type 0 where
  pub good : (words_ok ws && text_ok ws (length ts)) ≡ true
  pub same_form : form ≡ form_of ws

-- row k lies in the range of the owner it names, and l is its level
pub record Placed (ws : List ℕ) (k l : ℕ) : Type 0 where
  pub place_good : place_ok ws k (row_at ws k) ≡ true
  pub level_is : l ≡ level (owner_at ws) k
  pub shallow : l < level_refused

-- the table has the level of each row that was met as a child or as the root, and 0 for the others
pub record Levelled (ws : List ℕ) (n : ℕ) (table : List ℕ) : Type 0 where
  pub room : n ≤ length table
  pub met : (k : ℕ) → k < n → 0 < get_or table k 0 → Placed ws k (get_or table k 0)

-- row c names row j as its owner, and has a label as a child of that kind has
abbrev pub child_ok : List ℕ → RowKind → ℕ → ℕ → Bool
child_ok ws kind j c = eqb (owner_at ws c) j && label_ok kind (text_word ws) (row_at ws c).label

-- row j has these rows for children, which are at this level
pub record Holding (ws : List ℕ) (form : RecordForm) (kind : RowKind) (j deep first count : ℕ) : Type 0 where
  pub formed : Formed ws form
  pub below : j < form.rows
  pub kind_is : kind_of (row_at ws j).kind ≡ kind
  pub holds : holds_children kind ≡ true
  pub first_is : first ≡ (row_at ws j).first
  pub count_is : count ≡ (row_at ws j).count
  pub after : j < first
  pub within : first + count ≤ form.rows
  pub deeper : deep ≡ level (owner_at ws) j + 1
  pub shallow : deep < level_refused

-- and they are its children
pub record Held (ws : List ℕ) (kind : RowKind) (j first count : ℕ) : Type 0 where
  pub each : (i : ℕ) → i < count → child_ok ws kind j (first + i) ≡ true

-- no two of the rows share a name
pub record Apart (ws ts : List ℕ) (first count : ℕ) : Type 0 where
  pub none_repeats : (i : ℕ) → i < count → repeats_by (λ k. (doc_of ws ts).name (first + k)) i ≡ false

-- row j is not at fault, nor too deep, and if it is an object no two of its children share a name
pub record Ordered (ws ts : List ℕ) (j : ℕ) : Type 0 where
  pub row_good : row_ok ws j ≡ true
  pub above : level (owner_at ws) j < level_refused
  pub apart : is_object_kind (kind_of (row_at ws j).kind) ≡ true → Apart ws ts (row_at ws j).first (row_at ws j).count
