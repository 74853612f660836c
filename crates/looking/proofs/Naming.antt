-- Children by name.
--     child_inside     a child is one of the rows
--     compared         a row has a name, by the names that were compared
--     child_found      the search that was made is the search that is meant
--     alone            where no two children share a name, the one that has it is the first
--     not_end          the place of a child is not the end
-- Assumes nothing.
use mathlib.Core.Bool.{Bool, true, false}
use mathlib.Core.List.{List}
use mathlib.Core.Logic.{⊎_elim}
use mathlib.Core.Path.{◌≡◌, sym, ap, ◌∙◌}
use Prim.Native.Nat.{ℕ, ◌+◌, ◌≤◌, ◌<◌}
use native.Mathlib.Omega.{arith}
use Rattle.laws.specs.Lowest.{lowest}
use Rattle.laws.proofs.Tests.{decide}
use Rattle.laws.proofs.Searches.{lowest_is}
use Rattle.text.specs.declared.Range.{Range}
use Rattle.text.specs.Part.{part, same_bytes}
use Rattle.text.proofs.Bytes.{same_eq}
use Rattle.sheet.specs.declared.record.RecordForm.{RecordForm}
use Rattle.sheet.specs.Doc.{Doc, first_child, child_count, Child}
use Rattle.sheet.specs.Record.{rows_max, doc_of}
use Rattle.sheet.specs.Accepted.{Laid, NameRead}
use Rattle.sheet.proofs.Trailers.{form_rows, form_few}
use Rattle.sheet.proofs.Owners.{under, children_of}
use Rattle.meaning.specs.Rules.{called}
use Rattle.looking.specs.Read.{child_named}

pub child_inside : (ws ts : List ℕ) (form : RecordForm) → Laid ws form → (j first count i : ℕ) → j < form.rows
    → first ≡ first_child ((doc_of ws ts).value j) → count ≡ child_count ((doc_of ws ts).value j) → i < count → (first + i < form.rows) × (form.rows ≤ rows_max)
child_inside ws ts form laid j first count i h f c l =
    let n = form_rows ws form laid.formed in
    let child : Child (doc_of ws ts) j (first + i) = record { after = omega arith; within = omega arith } in
    ((children_of ws ts form.rows n laid.rows_ok j (first + i) h (under ws ts form.rows n laid.rows_ok j (first + i) h child)).1, form_few ws form laid.formed)

-- the name that was read of row k was compared
pub compared : {ws : List ℕ} {k : ℕ} {own : Range} → NameRead ws k own → (ts name : List ℕ) (r : Bool) → r ≡ same_bytes (part ts own) name → r ≡ called (doc_of ws ts) name k
unfolding called
compared {ws} {k} {own} read ts name r is = is ∙ ap (λ (x : List ℕ). same_bytes x name) (read.name_is ts)

module _ (d : Doc) (j : ℕ) (name : List ℕ) where
  pub child_found : (first count i : ℕ) → first ≡ first_child (d.value j) → count ≡ child_count (d.value j)
      → i ≡ lowest (λ k. called d name (first + k)) count → i ≡ child_named d j name
  child_found first count i f c e =
      e
      ∙ ap (λ (x : ℕ). lowest (λ k. called d name (x + k)) count) f
      ∙ ap (λ (x : ℕ). lowest (λ k. called d name (first_child (d.value j) + k)) x) c

  -- where no two children share a name, the one that has it is the first
  pub alone : ((k l : ℕ) → Child d j k → Child d j l → k < l → d.name k ≡ d.name l → ⊥) → (first count i : ℕ) → first ≡ first_child (d.value j)
      → count ≡ child_count (d.value j) → i < count → called d name (first + i) ≡ true → i ≡ child_named d j name
  unfolding called
  alone differ first count i f c h named = child_found first count i f c (lowest_is (λ k. called d name (first + k)) count i (omega arith) none (λ l. named))
    where
      none : (k : ℕ) → k < i → called d name (first + k) ≡ false
      none k l =
          ⊎_elim
          (λ (same : called d name (first + k) ≡ true).
          let both = same_eq (d.name (first + k)) name same ∙ sym (same_eq (d.name (first + i)) name named) in
          absurd (differ (first + k) (first + i) (record { after = omega arith; within = omega arith }) (record { after = omega arith; within = omega arith }) (omega arith) both))
          (λ (other : called d name (first + k) ≡ false). other)
          (decide (called d name (first + k)))

pub not_end : {at k members n : ℕ} → at < n → at ≡ k → members ≡ n → k ≡ members → ⊥
not_end h e f g = omega arith
