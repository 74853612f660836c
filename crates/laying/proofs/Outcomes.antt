-- What is answered for a text without fault, by how long the areas are.
--     words_short, room_short    27 and 28: nothing is written
--     all_made                   the sheet stands at the areas' starts
-- Assumes nothing.
use mathlib.Core.Bool.{Bool, true, false, cond}
use mathlib.Core.List.{List}
use mathlib.Core.Option.{none}
use mathlib.Core.Path.{◌≡◌, refl, sym, ap, ◌∙◌}
use Prim.Native.Nat.{ℕ, ◌+◌, ◌*◌, ◌≤◌, ◌<◌}
use native.Mathlib.Omega.{arith}
use borrow.Author.Tests.{lt-ltb, le-ltb}
use lib.Dec.{ltb}
use lib.ListN.{length}
use Rattle.sheet.specs.Kinds.{number_max}
use Rattle.sheet.specs.Record.{row_words}
use Rattle.sheet.specs.Refusals.{Outcome, accepted, refused, first_line}
use Rattle.jsontext.specs.Text.{Text}
use Rattle.jsontext.specs.Starts.{text_starts}
use Rattle.breadth.specs.Forest.{tree}
use Rattle.breadth.specs.Sheet.{rows}
use Rattle.breadth.proofs.Theorems.{words_needed}
use Rattle.writing.specs.Reading.{Stands}
use Rattle.reader.specs.Faults.{first_fault}
use Rattle.reader.specs.Call.{datum_of, text_made, words_made, text_outcome, area_after}
use Rattle.std.specs.Prelude.{Ok, Err}
use Rattle.laying.specs.Laying.{Laid}

module _ (t : Text) (clean : first_fault 0 (text_starts number_max t) ≡ none) (words room : List ℕ) where
  abbrev outcome : Outcome
  outcome = text_outcome t (length words) (length room)

  outcome_is : (b c : Bool) → ltb (length words) (length (words_made t)) ≡ b → ltb (length room) (length (text_made t)) ≡ c
      → outcome ≡ cond b (refused 27 (length (words_made t))) (cond c (refused 28 (length (text_made t))) (accepted (length (rows (tree (datum_of t))))))
  unfolding text_outcome first_line
  outcome_is b c p q = rw (clean, p, q)

  -- nothing is written
  refusal : (number place : ℕ) → outcome ≡ refused number place → Laid t words room (Err (record { number = number; place = place })) words room
  refusal number place e =
      record {
        answered = sym e;
        words_are = sym (ap (λ (o : Outcome). area_after o (words_made t) words) e);
        room_is = sym (ap (λ (o : Outcome). area_after o (text_made t) room) e);
      }

  module _ (n size : ℕ) (many : n ≡ length (rows (tree (datum_of t)))) (long : size ≡ length (text_made t)) where
    needed : length (words_made t) ≡ row_words * n + 4
    needed = words_needed (datum_of t) ∙ ap (λ (x : ℕ). row_words * x + 4) (sym many)

    words_fit : row_words * n + 4 ≤ length words → ltb (length words) (length (words_made t)) ≡ false
    words_fit h = le-ltb (length words) (length (words_made t)) (omega (arith, needed))

    pub words_short : length words < row_words * n + 4 → Laid t words room (Err (record { number = 27; place = row_words * n + 4 })) words room
    words_short l =
        refusal 27 (row_words * n + 4)
        (outcome_is true (ltb (length room) (length (text_made t))) (lt-ltb (length words) (length (words_made t)) (omega (arith, needed))) refl ∙ ap (refused 27) needed)

    pub room_short : row_words * n + 4 ≤ length words → length room < size → Laid t words room (Err (record { number = 28; place = size })) words room
    room_short h l =
        refusal 28 size
        (outcome_is false true (words_fit h) (lt-ltb (length room) (length (text_made t)) (omega arith)) ∙ ap (refused 28) (sym long))

    pub all_made : row_words * n + 4 ≤ length words → size ≤ length room → {words' room' : List ℕ} → Stands t words room words' room' → Laid t words room (Ok n) words' room'
    all_made h l s =
        let e : outcome ≡ accepted (length (rows (tree (datum_of t)))) =
        outcome_is false false (words_fit h) (le-ltb (length room) (length (text_made t)) (omega arith)) in
        record {
          answered = ap accepted many ∙ sym e;
          words_are = s.words_are ∙ sym (ap (λ (o : Outcome). area_after o (words_made t) words) e);
          room_is = s.text_is ∙ sym (ap (λ (o : Outcome). area_after o (text_made t) room) e);
        }
