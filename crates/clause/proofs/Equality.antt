-- When a row's value is an entry's.
--     kinds_differ, numbers_same, strings_same, kinds_same               two values, by their kinds and then by numbers or bytes
--     entry_kind, entry_number, entry_plain, entry_bytes, entry_fits     what an entry's words stand for
-- Assumes nothing.
use mathlib.Core.Bool.{Bool, true, false, ◌&&◌}
use mathlib.Core.List.{List}
use mathlib.Core.Option.{some}
use mathlib.Core.Path.{◌≡◌, refl, sym, ap, ◌∙◌}
use Prim.Native.Nat.{ℕ, zero, suc, ◌≤◌}
use native.Mathlib.Omega.{arith}
use lib.Dec.{eqb}
use lib.IntN.{ℤ}
use lib.ListN.{length}
use borrow.Author.Tests.{leb-true, eq-eqb, ne_eqb}
use Rattle.laws.proofs.Tests.{left, right}
use Rattle.decimal.specs.declared.Decimal.{Decimal}
use Rattle.decimal.specs.Value.{value, Plain, equal_z, OfWord}
use Rattle.text.specs.Part.{fits, part, same_bytes}
use Rattle.sheet.specs.Kinds.{kind_number, kind_of, is_kind}
use Rattle.sheet.specs.Doc.{Value, value_kind}
use Rattle.sheet.specs.Faults.{scalar_ok}
use Rattle.sheet.proofs.Values.{kind_by}
use Rattle.rulesheet.specs.declared.code.Fields.TheVariants.{Values}
use Rattle.rulesheet.specs.declared.form.EntryRow.{EntryRow}
use Rattle.rulesheet.specs.Codes.{entry_value}
use Rattle.rulesheet.specs.Sheet.{entry_at}
use Rattle.rulesheet.specs.Faults.{entry_ok}
use Rattle.rulesheet.proofs.Meanings.{of_number}
use Rattle.meaning.specs.Tests.{number?, bytes?, agree, equal}
use Rattle.looking.proofs.Having.{is_of, none_found, no_bytes}

-- ---- two values of kinds that are known

abbrev nk : Value → ℕ
nk v = kind_number (value_kind v)

and_true : (b : Bool) → b ≡ (b && true)
and_true true = refl
and_true false = refl

module _ (v w : Value) (k l : ℕ) (of_v : k ≡ nk v) (of_w : l ≡ nk w) where
  pub kinds_differ : (k ≡ l → ⊥) → false ≡ equal v w
  unfolding equal
  kinds_differ h = rw (ne_eqb (nk v) (nk w) (λ e. h (of_v ∙ e ∙ sym of_w)))

  module _ (same : k ≡ l) where
    alike : eqb (nk v) (nk w) ≡ true
    alike = eq-eqb (nk v) (nk w) (sym of_v ∙ same ∙ of_w)

    -- neither is of the kind n
    neither : (n : ℕ) → (k ≡ n → ⊥) → (is_of n v ≡ false) × (is_of n w ≡ false)
    neither n h = (ne_eqb (nk v) n (λ e. h (of_v ∙ e)), ne_eqb (nk w) n (λ e. h (same ∙ of_w ∙ e)))

    pub numbers_same : (x y : ℤ) (r : Bool) → r ≡ equal_z x y → k ≡ 3 → number? v ≡ some x → number? w ≡ some y → r ≡ equal v w
    unfolding equal agree
    numbers_same x y r told is a b =
        let none4 = neither 4 (λ e. omega arith) in
        told ∙ rw (alike, a, b, no_bytes v none4.0, no_bytes w none4.1) (and_true (equal_z x y))

    pub strings_same : (xs ys : List ℕ) (r : Bool) → r ≡ same_bytes xs ys → k ≡ 4 → bytes? v ≡ some xs → bytes? w ≡ some ys → r ≡ equal v w
    unfolding equal agree
    strings_same xs ys r told is a b =
        let none3 = neither 3 (λ e. omega arith) in
        told ∙ rw (alike, a, b, (none_found v none3.0).number_is, (none_found w none3.1).number_is)

    pub kinds_same : (k ≡ 3 → ⊥) → (k ≡ 4 → ⊥) → true ≡ equal v w
    unfolding equal agree
    kinds_same h g =
        let none3 = neither 3 h in
        let none4 = neither 4 g in
        rw (alike, (none_found v none3.0).number_is, (none_found w none3.1).number_is, no_bytes v none4.0, no_bytes w none4.1)

-- ---- an entry whose words are in order

number_of_kind : (n : ℕ) → is_kind n ≡ true → kind_number (kind_of n) ≡ n
unfolding kind_of
number_of_kind zero t = refl
number_of_kind (suc zero) t = refl
number_of_kind (suc (suc zero)) t = refl
number_of_kind (suc (suc (suc zero))) t = refl
number_of_kind (suc (suc (suc (suc zero)))) t = refl
number_of_kind (suc (suc (suc (suc (suc zero))))) t = refl
number_of_kind (suc (suc (suc (suc (suc (suc zero)))))) t = refl
number_of_kind (suc (suc (suc (suc (suc (suc (suc n))))))) t = absurd (too_high (leb-true (suc (suc (suc (suc (suc (suc (suc n))))))) 6 t))
  where
    too_high : suc (suc (suc (suc (suc (suc (suc n)))))) ≤ 6 → ⊥
    too_high h = omega arith

module _ (ts : List ℕ) (e : EntryRow) (ok : entry_ok Values (length ts) 0 e ≡ true) where
  pub entry_kind : e.first ≡ nk (entry_value ts e)
  entry_kind =
      sym (ap kind_number (kind_by ts e.second e.third (kind_of e.first))
      ∙ number_of_kind e.first (left (is_kind e.first) (scalar_ok (kind_of e.first) (length ts) e.second e.third) ok))

  scalar : scalar_ok (kind_of e.first) (length ts) e.second e.third ≡ true
  scalar = right (is_kind e.first) (scalar_ok (kind_of e.first) (length ts) e.second e.third) ok

  pub entry_number : (d : Decimal) → e.first ≡ 3 → OfWord e.second e.third d → number? (entry_value ts e) ≡ some (value d)
  unfolding number? kind_of
  entry_number d h o = rw h (ap some (sym o.means))

  pub entry_plain : (d : Decimal) → e.first ≡ 3 → OfWord e.second e.third d → Plain d
  unfolding kind_of
  entry_plain d h o = of_number e.second e.third d o (rw h at scalar)

  pub entry_bytes : e.first ≡ 4 → bytes? (entry_value ts e) ≡ some (part ts (record { start = e.second; length = e.third }))
  unfolding bytes? kind_of
  entry_bytes h = rw h

  pub entry_fits : e.first ≡ 4 → fits (length ts) (record { start = e.second; length = e.third }) ≡ true
  unfolding kind_of
  entry_fits h = rw h at scalar

-- the entry at a place, by the entry that was read there
pub entry_told : (v : Value) (ws ts : List ℕ) (x : ℕ) (e : EntryRow) (r b : Bool) → e ≡ entry_at ws x → r ≡ equal v (entry_value ts e) → r ≡ b → equal v (entry_value ts (entry_at ws x)) ≡ b
entry_told v ws ts x e r b read is told = rw (← read) (sym is ∙ told)
