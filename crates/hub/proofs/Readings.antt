-- The demands, of the number that C gets for a text that is read.
--     read_one        any two outcomes that the promise allows are equal
--     read_demands    every call's number tells what reading gives, and the areas are as they were or hold a sheet that means the text's value
-- Assumes nothing.
use mathlib.Core.Bool.{Bool, true, false, cond}
use mathlib.Core.List.{List, [], ◌∷◌}
use mathlib.Core.Option.{Option, none, some}
use mathlib.Core.Path.{◌≡◌, refl, sym, ap, ◌∙◌}
use Prim.Native.Nat.{ℕ, ◌<◌}
use native.Mathlib.Omega.{arith}
use lib.Dec.{eqb}
use lib.ListN.{length}
use Rattle.sheet.specs.Kinds.{number_max}
use Rattle.sheet.specs.Refusals.{Outcome, accepted, refused, first_line}
use Rattle.sheet.specs.Record.{rows_max}
use Rattle.sheet.specs.Faults.{level_refused}
use Rattle.jsontext.specs.Sightings.{What, a_value, a_name, an_escape}
use Rattle.jsontext.specs.Starts.{Start, text_starts}
use Rattle.jsontext.specs.Text.{Text, bytes}
use Rattle.breadth.specs.Forest.{tree}
use Rattle.breadth.specs.Sheet.{rows}
use Rattle.meaning.specs.Answer.{number_for_c}
use Rattle.meaning.specs.Lists.{all}
use Rattle.number.specs.Called.{outcome_answer}
use Rattle.reader.specs.Faults.{Fault, value_fault, fault_by, count_by, or_else, first_fault}
use Rattle.reader.specs.Call.{datum_of, words_made, text_made, fault_line, short_line, text_outcome, area_after, Read, Reads, too_long, not_json, is_text}
use Rattle.reader.proofs.Reading.{reads_one, reads_made}
use Rattle.hub.specs.Entry.{ReadCalled, ReadDemands}
use Rattle.hub.proofs.Checks.{Small, small_refused, small_first, tells}

-- ---- no fault's number is larger than a byte can tell

abbrev Low : Option ℕ → Type 0
Low none = Unit {0}
Low (some n) = n < 246

low_cond : (b : Bool) (x y : Option ℕ) → Low x → Low y → Low (cond b x y)
low_cond true x y p q = p
low_cond false x y p q = q

low_by : (w : What) (before : ℕ) (s : Start) → Low (fault_by w before s)
unfolding value_fault
low_by a_value before s =
    let deep : Option ℕ = cond (eqb s.seen.level level_refused) (some 24) none in
    let wide : Option ℕ = cond s.amiss (some 23) deep in
    low_cond (eqb before rows_max) (some 22) wide (omega arith)
    (low_cond s.amiss (some 23) deep (omega arith)
    (low_cond (eqb s.seen.level level_refused) (some 24) none (omega arith) tt))
low_by a_name before s = low_cond s.amiss (some 25) none (omega arith) tt
low_by an_escape before s = low_cond s.amiss (some 26) none (omega arith) tt

abbrev LowFault : Option Fault → Type 0
LowFault none = Unit {0}
LowFault (some f) = f.number < 246

low_else : (x : Option ℕ) (bs : List ℕ) (later : Option Fault) → Low x → LowFault later → LowFault (or_else x bs later)
low_else none bs later p q = q
low_else (some n) bs later p q = p

low_first : (before : ℕ) (ss : List Start) → LowFault (first_fault before ss)
unfolding first_fault
low_first before [] = tt
low_first before (s ∷ ss) =
    let w = s.seen.what in
    low_else (fault_by w before s) s.seen.behind (first_fault (count_by w before) ss) (low_by w before s) (low_first (count_by w before) ss)

module _ (size words room rows lent_words lent_room : ℕ) where
  low_lines : (f : Option Fault) → LowFault f → Small (first_line (fault_line size f ∷ short_line 27 words lent_words ∷ short_line 28 room lent_room ∷ []) rows)
  unfolding all first_line
  low_lines none p = small_first (fault_line size none ∷ short_line 27 words lent_words ∷ short_line 28 room lent_room ∷ []) rows refl
  low_lines (some f) p = small_refused f.number (fault_line size (some f)).place p

small_text : (t : Text) (words room : ℕ) → Small (text_outcome t words room)
unfolding text_outcome
small_text t words room =
    low_lines (length (bytes t)) (length (words_made t)) (length (text_made t)) (length (rows (tree (datum_of t)))) words room
    (first_fault 0 (text_starts number_max t))
    (low_first 0 (text_starts number_max t))

-- ---- the call

module _ (json words₀ text₀ : List ℕ) where
  small_read : (x : Read) → Reads json words₀ text₀ x → Small x.outcome
  small_read x (too_long l) = small_refused 20 0 (omega arith)
  small_read x (not_json {place = p} l f) = small_refused 21 p (omega arith)
  small_read x (is_text t l e) = small_text t (length words₀) (length text₀)

  same_areas : (x : Read) → Reads json words₀ text₀ x → (number place : ℕ) → x.outcome ≡ refused number place → (x.words ≡ words₀) × (x.room ≡ text₀)
  same_areas x (too_long l) number place h = (refl, refl)
  same_areas x (not_json l f) number place h = (refl, refl)
  same_areas x (is_text t l e) number place h =
      (ap (λ (o : Outcome). area_after o (words_made t) words₀) h, ap (λ (o : Outcome). area_after o (text_made t) text₀) h)

  pub read_one : {words words' text text' : List ℕ} {r r' : ℕ} → ReadCalled json words₀ text₀ words text r → ReadCalled json words₀ text₀ words' text' r'
      → (r ≡ r') × (words ≡ words') × (text ≡ text')
  read_one a b =
      let same = reads_one json words₀ text₀ a.reads b.reads in
      (a.number_is ∙ ap (λ (x : Read). number_for_c (outcome_answer x.outcome)) same ∙ sym b.number_is, ap (λ (x : Read). x.words) same, ap (λ (x : Read). x.room) same)

  pub read_demands : {words text : List ℕ} {r : ℕ} → ReadCalled json words₀ text₀ words text r → ReadDemands json words₀ text₀ words text r
  read_demands {words} {text} {r} c =
      let x : Read = record { outcome = c.outcome; words = words; room = text } in
      record {
        outcome = c.outcome;
        tells = tells c.outcome (small_read x c.reads) r c.number_is;
        refused_same = same_areas x c.reads;
        made = λ n e. reads_made json words₀ text₀ n x c.reads e;
      }
