-- The second pass as code goes through a text: a value starts before its children are counted, and ends after them. Its level is the
-- number of values that are open. Assumes nothing.
use Rattle.std.specs.Prelude.{List, [], ◌∷◌, ◌++◌, ℕ, zero, suc, ◌+◌, ◌-◌, length, get_or, set}
use Rattle.std.proofs.lemmas.List.Edits.{sets}
use Rattle.breadth.specs.Forest.{Label, Head, a_null, a_bool, a_number, a_string, an_array, an_object, Forest, empty, node}
use Rattle.breadth.specs.Breadth.{Entry, Event, event}
use Rattle.sheet.specs.declared.kind.RowKind.{RowKind}
use Rattle.sheet.specs.declared.kind.RowKind.TheVariants.{Null, False, True, Number, String, Array, Object}
use Rattle.breadth.specs.Sheet.{KindRow, label_bytes, string_bytes, head_kind, count_word, label_range, first_or_none}
use Rattle.breadth.specs.Meaning.{no_row}
use Rattle.breadth.specs.Counters.{one, size, bump, owner_by}

pub data Token : Type 0 where
  begins : Label → Head → Token
  ends : Token

unfoldable pub tokens : Forest → List Token
tokens empty = []
tokens (node l h c s) = begins l h ∷ (tokens c ++ ends ∷ tokens s)

-- a container's first word before its children are counted
abbrev pub open_first : Head → ℕ → ℕ → ℕ
open_first a_null first start = 0
open_first (a_bool b) first start = 0
open_first (a_number d s) first start = d
open_first (a_string bs) first start = start
open_first an_array first start = first
open_first an_object first start = first

unfoldable pub open_row : Label → Head → ℕ → ℕ → ℕ → KindRow
open_row l h first owner start =
    record {
      kind = head_kind h;
      first = open_first h first (start + length (label_bytes l));
      count = count_word h 0;
      owner = owner;
      label = label_range l start;
    }

-- the row once its children are counted, where n is the next row of their level
abbrev pub close_first : RowKind → ℕ → ℕ → ℕ
close_first Null first n = first
close_first False first n = first
close_first True first n = first
close_first Number first n = first
close_first String first n = first
close_first Array first n = first_or_none (n - first) first
close_first Object first n = first_or_none (n - first) first

abbrev pub close_count : RowKind → ℕ → ℕ → ℕ → ℕ
close_count Null first count n = count
close_count False first count n = count
close_count True first count n = count
close_count Number first count n = count
close_count String first count n = count
close_count Array first count n = n - first
close_count Object first count n = n - first

unfoldable pub close_row : KindRow → ℕ → KindRow
close_row r n =
    record {
      kind = r.kind;
      first = close_first r.kind r.first n;
      count = close_count r.kind r.first r.count n;
      owner = r.owner;
      label = r.label;
    }

-- a value that starts, for the counters, which do not ask for its children
abbrev pub begun : ℕ → Label → Head → Event
begun k l h = event k (record { label = l; head = h; count = 0 })

unfoldable pub run : ℕ → (ℕ → ℕ) → (ℕ → ℕ) → List Token → List KindRow → List KindRow
run k next bytes [] area = area
run k next bytes (begins l h ∷ ts) area =
    run (suc k) (bump one next (begun k l h)) (bump size bytes (begun k l h)) ts
    (set area (next k) (open_row l h (next (suc k)) (owner_by k next) (bytes k)))
run zero next bytes (ends ∷ ts) area = area
run (suc k) next bytes (ends ∷ ts) area =
    let r = next k - 1 in
    run k next bytes ts (set area r (close_row (get_or area r no_row) (next (suc k))))

-- the first pass
unfoldable pub tally : (Entry → ℕ) → ℕ → (ℕ → ℕ) → List Token → ℕ → ℕ
tally w k next [] = next
tally w k next (begins l h ∷ ts) = tally w (suc k) (bump w next (begun k l h)) ts
tally w zero next (ends ∷ ts) = next
tally w (suc k) next (ends ∷ ts) = tally w k next ts

-- where each level starts
unfoldable pub begin : (Entry → ℕ) → List Token → ℕ → ℕ
begin w ts zero = 0
begin w ts (suc k) = begin w ts k + tally w 0 (λ i. 0) ts k

-- the second pass over the text
unfoldable pub run_text : ℕ → (ℕ → ℕ) → List Token → List ℕ → List ℕ
run_text k bytes [] area = area
run_text k bytes (begins l h ∷ ts) area = run_text (suc k) (bump size bytes (begun k l h)) ts (sets area (bytes k) (label_bytes l ++ string_bytes h))
run_text zero bytes (ends ∷ ts) area = area
run_text (suc k) bytes (ends ∷ ts) area = run_text k bytes ts area
