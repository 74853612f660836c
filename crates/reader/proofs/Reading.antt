-- The whole call that reads JSON.
--     reads_some, reads_one    every input gives one result and no other
--     Made, reads_made         an accepted sheet passes the record check, and means the text's value
-- Assumes nothing.
use mathlib.Core.Bool.{Bool, true, false, cond}
use mathlib.Core.List.{List}
use mathlib.Core.Logic.{⊎_elim}
use mathlib.Core.Option.{Option, none, some}
use mathlib.Core.Path.{◌≡◌, refl, sym, ap, ◌∙◌}
use Prim.Native.Nat.{ℕ, ◌-◌, ◌≤◌, ◌<◌}
use native.Mathlib.Omega.{arith}
use borrow.Author.Tests.{ltb-false}
use lib.Dec.{ltb}
use lib.ListN.{length}
use Rattle.laws.proofs.Tests.{le_or_lt}
use Rattle.sheet.specs.Kinds.{number_max}
use Rattle.sheet.specs.Refusals.{Outcome, accepted, refused, first_line}
use Rattle.sheet.specs.Record.{rows_max}
use Rattle.sheet.specs.Faults.{text_max}
use Rattle.sheet.proofs.Acceptance.{clash, same_count}
use Rattle.jsontext.specs.Text.{Text, bytes}
use Rattle.jsontext.specs.Starts.{text_starts}
use Rattle.jsontext.specs.Refusal as Found
use Rattle.jsontext.specs.Refusal.{Finding, Found, is_json, finding}
use Rattle.jsontext.proofs.Refusals.{found, one_finding}
use Rattle.jsontext.proofs.Once.{once}
use Rattle.breadth.specs.Forest.{tree}
use Rattle.breadth.specs.Sheet.{rows}
use Rattle.breadth.proofs.Shape.{rows_counted}
use Rattle.breadth.proofs.Acceptance.{accepts, means_value}
use Rattle.reader.specs.Faults.{Fault, first_fault}
use Rattle.reader.specs.Call.{input_max, datum_of, text_made, words_made, fault_line, text_outcome, area_after, Read, Reads, too_long, not_json, is_text}
use Rattle.reader.specs.Made.{Made}
use Rattle.reader.proofs.Clean.{clean_text}
use Rattle.reader.proofs.Lengths.{made_short}

-- ---- one result

-- a finding is JSON or a refusal, and not both
not_both : {A : Type 0} {n : ℕ} → Found.json ≡ Found.refused n → A
not_both e = absurd (let z : ◌≡◌ {A = ℕ} 0 1 = cc in omega arith)

module _ (json words room : List ℕ) where
  abbrev refusal : ℕ → ℕ → Read
  refusal k p = record { outcome = refused k p; words = words; room = room }

  abbrev result : Text → Read
  result t =
      record {
        outcome = text_outcome t (length words) (length room);
        words = area_after (text_outcome t (length words) (length room)) (words_made t) words;
        room = area_after (text_outcome t (length words) (length room)) (text_made t) room;
      }

  same_place : {p q : ℕ} → Found.refused p ≡ Found.refused q → p ≡ q
  same_place e = cc

  pub reads_one : {a b : Read} → Reads json words room a → Reads json words room b → a ≡ b
  reads_one (too_long l) (too_long m) = refl
  reads_one (too_long l) (not_json m f) = absurd (omega arith)
  reads_one (too_long l) (is_text t m e) = absurd (omega arith)
  reads_one (not_json l f) (too_long m) = absurd (omega arith)
  reads_one (not_json {place = p} l f) (not_json {place = q} m g) = ap (refusal 21) (same_place (one_finding json f g))
  reads_one (not_json l f) (is_text t m e) = not_both (one_finding json (is_json (t, e)) f)
  reads_one (is_text t l e) (too_long m) = absurd (omega arith)
  reads_one (is_text t l e) (not_json m f) = not_both (one_finding json (is_json (t, e)) f)
  reads_one (is_text t l e) (is_text u m f) = ap result (once t u (e ∙ sym f))

  -- and there is one
  reads_short : length json ≤ input_max → (f : Finding) → Found json f → (a : Read) × Reads json words room a
  reads_short l f (is_json (t, e)) = (result t, is_text t l e)
  reads_short l f (Found.broken {n} b) = (refusal 21 n, not_json l (Found.broken b))
  reads_short l f (Found.unfinished {n} u) = (refusal 21 n, not_json l (Found.unfinished u))

  pub reads_some : (a : Read) × Reads json words room a
  reads_some =
      ⊎_elim
      (λ (l : length json ≤ input_max). reads_short l (finding json) (found json))
      (λ (l : input_max < length json). (refusal 20 0, too_long l))
      (le_or_lt (length json) input_max)

-- ---- what acceptance gives

record Passed (t : Text) (words room n : ℕ) : Type 0 where
  no_fault : first_fault 0 (text_starts number_max t) ≡ none
  fits_words : length (words_made t) ≤ words
  fits_room : length (text_made t) ≤ room
  counted : length (rows (tree (datum_of t))) ≡ n

passed : (t : Text) (words room n : ℕ) → text_outcome t words room ≡ accepted n → Passed t words room n
unfolding text_outcome first_line
passed t words room n e = go (first_fault 0 (text_starts number_max t)) (ltb words (length (words_made t))) (ltb room (length (text_made t))) refl refl refl e
  where
    size : ℕ
    size = length (rows (tree (datum_of t)))

    go : (f : Option Fault) (b c : Bool)
        → first_fault 0 (text_starts number_max t) ≡ f
        → ltb words (length (words_made t)) ≡ b
        → ltb room (length (text_made t)) ≡ c
        → cond (fault_line (length (bytes t)) f).applies (refused (fault_line (length (bytes t)) f).number (fault_line (length (bytes t)) f).place)
        (cond b (refused 27 (length (words_made t))) (cond c (refused 28 (length (text_made t))) (accepted size)))
        ≡ accepted n
        → Passed t words room n
    go (some f) b c p q r h = clash (accepted n) n f.number (length (bytes t) - length f.behind) refl (sym h)
    go none true c p q r h = clash (accepted n) n 27 (length (words_made t)) refl (sym h)
    go none false true p q r h = clash (accepted n) n 28 (length (text_made t)) refl (sym h)
    go none false false p q r h =
        record {
          no_fault = p;
          fits_words = ltb-false words (length (words_made t)) q;
          fits_room = ltb-false room (length (text_made t)) r;
          counted = same_count (accepted size) size n refl h;
        }

module _ (json words room : List ℕ) (n : ℕ) where
  text_made_lem : (t : Text) → length json ≤ input_max → bytes t ≡ json → text_outcome t (length words) (length room) ≡ accepted n → Made json words room (result json words room t) n
  text_made_lem t l e h =
      let p = passed t (length words) (length room) n h in
      let c = clean_text t p.no_fault in
      let v = datum_of t in
      let few : length (rows (tree v)) ≤ rows_max = omega (arith, rows_counted (tree v), c.few) in
      let short : length (text_made t) ≤ text_max = omega (arith, made_short t, ap length e) in
      record {
        sheet = words_made t;
        made = text_made t;
        fits_words = p.fits_words;
        fits_room = p.fits_room;
        words_are = ap (λ (o : Outcome). area_after o (words_made t) words) h;
        room_are = ap (λ (o : Outcome). area_after o (text_made t) room) h;
        passes = accepts v c.fitting c.utf8 few short c.shallow ∙ ap accepted p.counted;
        text = t;
        spelled = e;
        means = means_value v c.fitting;
        utf8 = c.utf8;
      }

  pub reads_made : (r : Read) → Reads json words room r → r.outcome ≡ accepted n → Made json words room r n
  reads_made r (too_long l) h = clash (refused 20 0) n 20 0 h refl
  reads_made r (not_json {place = p} l f) h = clash (refused 21 p) n 21 p h refl
  reads_made r (is_text t l e) h = text_made_lem t l e h

-- ---- what refusal leaves

module _ (json words room : List ℕ) (k place : ℕ) where
  kept : (o : Outcome) (made area : List ℕ) → o ≡ refused k place → area_after o made area ≡ area
  kept o made area e = ap (λ (x : Outcome). area_after x made area) e

  -- the areas are as they were
  pub reads_refused : (r : Read) → Reads json words room r → r.outcome ≡ refused k place → (r.words ≡ words) × (r.room ≡ room)
  reads_refused r (too_long l) h = (refl, refl)
  reads_refused r (not_json l f) h = (refl, refl)
  reads_refused r (is_text t l e) h = (kept (text_outcome t (length words) (length room)) (words_made t) words h, kept (text_outcome t (length words) (length room)) (text_made t) room h)
