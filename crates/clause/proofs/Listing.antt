-- `any` and `all` over numbers in a row, and over the entries of a list.
--     any_found, any_nowhere, all_found, all_missed     by the numbers from a on
--     list_few                                                  how many entries there are
--     entry_found, entry_nowhere, entries_all, entry_missed     by the entries
-- Assumes nothing.
use mathlib.Core.Bool.{Bool, true, false, or-true, and-false}
use mathlib.Core.List.{List, map, map-map}
use mathlib.Core.Logic.{⊎_elim}
use mathlib.Core.Path.{◌≡◌, refl, sym, ap, ◌∙◌}
use Prim.Native.Nat.{ℕ, zero, suc, ◌+◌, ◌-◌, ◌≤◌, ◌<◌}
use native.Mathlib.Nat.{eq-or-lt_of_le}
use native.Mathlib.Numerals.{add-one}
use native.Mathlib.Omega.{arith}
use Rattle.rulesheet.specs.declared.code.Fields.{Fields}
use Rattle.rulesheet.specs.declared.form.RuleForm.{RuleForm}
use Rattle.rulesheet.specs.declared.form.EntryRow.{EntryRow}
use Rattle.rulesheet.specs.declared.clause.Entries.{Entries}
use Rattle.rulesheet.specs.Sheet.{entry_at, run}
use Rattle.rulesheet.specs.Faults.{parts_max}
use Rattle.rulesheet.specs.Clauses.{entries_of}
use Rattle.rulesheet.proofs.Trailers.{form_e, facts}
use Rattle.meaning.specs.Lists.{any, all, range}
use Rattle.clause.specs.Read.{RulesRead, ListRead}

pub range_run : (a k : ℕ) → range a k ≡ run k a
unfolding range run
range_run a zero = refl
range_run a (suc k) = rw (range_run (suc a) k, add-one)

nothing : (a x : ℕ) → a ≤ x → x < a + 0 → ⊥
nothing a x low high = omega arith

module _ (p : ℕ → Bool) where
  pub any_found : (n a x : ℕ) → a ≤ x → x < a + n → p x ≡ true → any (map p (run n a)) ≡ true
  unfolding any run
  any_found zero a x low high t = absurd (nothing a x low high)
  any_found (suc n) a x low high t =
      ⊎_elim
      (λ (e : a ≡ x). rw (e, t))
      (λ (l : a < x). rw (any_found n (a + 1) x (omega arith) (omega arith) t) (or-true (p a)))
      (eq-or-lt_of_le low)

  pub any_nowhere : (n a : ℕ) → ((x : ℕ) → a ≤ x → x < a + n → p x ≡ false) → any (map p (run n a)) ≡ false
  unfolding any run
  any_nowhere zero a none = refl
  any_nowhere (suc n) a none =
      rw (none a (omega arith) (omega arith)) (any_nowhere n (a + 1) (λ x l h. none x (omega arith) (omega arith)))

  pub all_found : (n a : ℕ) → ((x : ℕ) → a ≤ x → x < a + n → p x ≡ true) → all (map p (run n a)) ≡ true
  unfolding all run
  all_found zero a each = refl
  all_found (suc n) a each =
      rw (each a (omega arith) (omega arith)) (all_found n (a + 1) (λ x l h. each x (omega arith) (omega arith)))

  pub all_missed : (n a x : ℕ) → a ≤ x → x < a + n → p x ≡ false → all (map p (run n a)) ≡ false
  unfolding all run
  all_missed zero a x low high t = absurd (nothing a x low high)
  all_missed (suc n) a x low high t =
      ⊎_elim
      (λ (e : a ≡ x). rw (e, t))
      (λ (l : a < x). rw (all_missed n (a + 1) x (omega arith) (omega arith) t) (and-false (p a)))
      (eq-or-lt_of_le low)

-- a list has no more entries than the rules
pub list_few : {ws ts : List ℕ} {form : RuleForm} {fields : Fields} {list : Entries} → RulesRead ws ts form → ListRead ws form fields list → list.count ≤ parts_max
list_few {ws} {ts} {form} {fields} {list} rules read =
    let formed = rules.laid.clauses_laid.schemas_laid.formed in
    omega (arith, read.within, form_e ws form formed, (facts ws form formed).few_entries)

module _ {A : Type 0} (ws : List ℕ) (list : Entries) (f : A → Bool) (g : EntryRow → A) where
  -- f of entry i
  abbrev pub of_entry : ℕ → Bool
  of_entry i = f (g (entry_at ws (list.first + i)))

  fused : map f (map g (entries_of ws list)) ≡ map (λ (x : ℕ). f (g (entry_at ws x))) (run list.count list.first)
  fused = map-map f g (entries_of ws list) ∙ map-map (λ (e : EntryRow). f (g e)) (entry_at ws) (run list.count list.first)

  -- by its place among all entries
  placed : (b : Bool) → ((i : ℕ) → i < list.count → of_entry i ≡ b) → (x : ℕ) → list.first ≤ x → x < list.first + list.count → f (g (entry_at ws x)) ≡ b
  placed b each x low high =
      let e : list.first + (x - list.first) ≡ x = omega arith in
      ap (λ (k : ℕ). f (g (entry_at ws k))) (sym e) ∙ each (x - list.first) (omega arith)

  pub entry_found : (i : ℕ) → i < list.count → of_entry i ≡ true → any (map f (map g (entries_of ws list))) ≡ true
  entry_found i h t = ap any fused ∙ any_found (λ (x : ℕ). f (g (entry_at ws x))) list.count list.first (list.first + i) (omega arith) (omega arith) t

  pub entry_nowhere : ((i : ℕ) → i < list.count → of_entry i ≡ false) → any (map f (map g (entries_of ws list))) ≡ false
  entry_nowhere none = ap any fused ∙ any_nowhere (λ (x : ℕ). f (g (entry_at ws x))) list.count list.first (placed false none)

  pub entries_all : ((i : ℕ) → i < list.count → of_entry i ≡ true) → all (map f (map g (entries_of ws list))) ≡ true
  entries_all each = ap all fused ∙ all_found (λ (x : ℕ). f (g (entry_at ws x))) list.count list.first (placed true each)

  pub entry_missed : (i : ℕ) → i < list.count → of_entry i ≡ false → all (map f (map g (entries_of ws list))) ≡ false
  entry_missed i h t = ap all fused ∙ all_missed (λ (x : ℕ). f (g (entry_at ws x))) list.count list.first (list.first + i) (omega arith) (omega arith) t
