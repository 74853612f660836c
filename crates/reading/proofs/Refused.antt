-- What the whole call gives (reader/specs/Call.antt) where the first pass refuses a text, and what it gives to write one.
--     told_refused     a text that is refused
--     told_fine        a text without fault
-- Assumes nothing.
use mathlib.Core.Bool.{false}
use mathlib.Core.List.{List}
use mathlib.Core.Logic.{◌≢◌}
use mathlib.Core.Option.{some}
use mathlib.Core.Path.{◌≡◌, sym, ap, ◌∙◌, subst}
use Prim.Native.Nat.{ℕ, ◌-◌, ◌≤◌}
use native.Mathlib.Omega.{arith}
use lib.ListN.{length}
use Rattle.sheet.specs.Kinds.{number_max}
use Rattle.sheet.specs.Refusals.{Outcome, refused, first_line}
use Rattle.jsontext.specs.Text.{Text, bytes}
use Rattle.jsontext.specs.Automaton.{start, accepts}
use Rattle.jsontext.specs.Starts.{text_starts}
use Rattle.jsontext.specs.Refusal as Found
use Rattle.jsontext.specs.Refusal.{Finding, Found, reach, finding}
use Rattle.jsontext.proofs.Refusals.{found}
use Rattle.reader.specs.Faults.{Fault, first_fault}
use Rattle.reader.specs.Call.{input_max, text_made, words_made, text_outcome, area_after, Reads, not_json, is_text}
use Rattle.laying.specs.Laying.{Countable}
use Rattle.refusing.specs.Refusing as Refusing
use Rattle.refusing.specs.Refusing.{Told, faulty, fine}

module _ (json words room : List ℕ) (short : length json ≤ input_max) where
  broken : (place : ℕ) → accepts json ≡ false → place ≡ reach json start → Found json (Found.refused place)
  unfolding finding
  broken place e p = subst (Found json) (rw e (ap Found.refused (sym p))) (found json)

  fault_outcome : (t : Text) (f : Fault) (n m : ℕ) → first_fault 0 (text_starts number_max t) ≡ some f → text_outcome t n m ≡ refused f.number (length (bytes t) - length f.behind)
  unfolding text_outcome first_line
  fault_outcome t f n m e = rw e

  pub told_refused : {number place : ℕ} {values texts : List ℕ} → Told json number place values texts → number ≢ 0
      → Reads json words room (record { outcome = refused number place; words = words; room = room })
  told_refused {number} {place} (Refusing.not_json n e p) Some-number = rw n (not_json short (broken place e p))
  told_refused {number} {place} (faulty t f e h n z p) Some-number =
      let o : text_outcome t (length words) (length room) ≡ refused number place = fault_outcome t f (length words) (length room) h ∙ rw (e, ← p, ← n) in
      subst (λ (x : Outcome). Reads json words room (record { outcome = x; words = area_after x (words_made t) words; room = area_after x (text_made t) room })) o (is_text t short e)
  told_refused (fine n c) Some-number = absurd (Some-number n)

  pub told_fine : {number place : ℕ} {values texts : List ℕ} → Told json number place values texts → number ≡ 0 → Countable json values texts
  told_fine (Refusing.not_json n e p) z = absurd (clash n z)
    where
      clash : {k : ℕ} → k ≡ 21 → k ≡ 0 → ⊥
      clash a b = omega arith
  told_fine (faulty t f e h n Some-number p) z = absurd (Some-number z)
  told_fine (fine n c) z = c
