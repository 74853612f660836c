-- What it says that a name is repeated, for those who name things in their own way.
--     name_small       a name is shorter than 2^32 bytes
--     repeats_is       by the lowest name that has the same bytes
--     repeats_here, repeats_not    an earlier name is the same, or none is
--     repeats_alone    a single name is not repeated
--     names_differ     where none of n names is repeated, any two of them differ
--     repeats_agree    names that are the same up to i are repeated alike at i
-- Assumes nothing.
use mathlib.Core.Bool.{true, false}
use mathlib.Core.List.{List}
use mathlib.Core.Logic.{⊎_elim}
use mathlib.Core.Path.{◌≡◌, refl, sym, ap, ◌∙◌}
use Prim.Native.Nat.{ℕ, ◌+◌, ◌≤◌, ◌<◌}
use native.Mathlib.Omega.{arith}
use lib.Dec.{ltb}
use lib.ListN.{length, get_or}
use borrow.Author.Tests.{ltb-false, lt-ltb, le-ltb}
use Rattle.laws.specs.Lowest.{lowest}
use Rattle.laws.proofs.Searches.{clear_below, holds_at, lowest_is, alike}
use Rattle.laws.proofs.Tests.{le_or_lt}
use Rattle.text.specs.Part.{same_bytes}
use Rattle.text.proofs.Bytes.{same_eq, eq_same}
use Rattle.text.proofs.Ranges.{part_length}
use Rattle.names.specs.declared.Names.{Names}
use Rattle.names.specs.Names.{range_at, name_at, same_as, first_same, repeats_by, Lying}

pub name_small : (ws ts : List ℕ) (names : Names) → Lying ws ts names → (i : ℕ) → i < names.count
    → ((k : ℕ) → get_or ws k 0 < 4_294_967_296) → length (name_at ws ts names i) < 4_294_967_296
name_small ws ts names lying i h word = rw (part_length ts (range_at ws names i) (lying.fitting i h)) (word _)

pub repeats_is : (name : ℕ → List ℕ) (i : ℕ) → repeats_by name i ≡ ltb (first_same name i) i
unfolding repeats_by
repeats_is name i = refl

pub repeats_here : (name : ℕ → List ℕ) (i k : ℕ) → k < i → name k ≡ name i → repeats_by name i ≡ true
repeats_here name i k h e =
    repeats_is name i
    ∙ ⊎_elim
    (λ (l : first_same name i ≤ k). lt-ltb (first_same name i) i (omega arith))
    (λ (l : k < first_same name i). absurd (clear (clear_below (same_as name i) i 0 k (omega arith) (omega arith) l)))
    (le_or_lt (first_same name i) k)
  where
    clear : same_bytes (name k) (name i) ≡ false → ⊥
    clear f = let z : ◌≡◌ {A = ℕ} 0 1 = cc (eq_same (name k) (name i) e) in omega arith

pub repeats_not : (name : ℕ → List ℕ) (i : ℕ) → ((k : ℕ) → k < i → name k ≡ name i → ⊥) → repeats_by name i ≡ false
repeats_not name i fresh =
    repeats_is name i
    ∙ ⊎_elim
    (λ (l : i ≤ first_same name i). le-ltb (first_same name i) i l)
    (λ (l : first_same name i < i).
    absurd (fresh (first_same name i) l (same_eq (name (first_same name i)) (name i) (holds_at (same_as name i) i 0 (within l)))))
    (le_or_lt i (first_same name i))
  where
    within : first_same name i < i → first_same name i < 0 + i
    within l = omega arith

pub repeats_alone : (name : ℕ → List ℕ) (n : ℕ) → n ≤ 1 → n ≡ lowest (repeats_by name) n
repeats_alone name n h =
    lowest_is (repeats_by name) n n (omega arith) (λ i l. repeats_not name i (λ k g. absurd (nothing i k l g))) (λ l. absurd (self l))
  where
    nothing : (i k : ℕ) → i < n → k < i → ⊥
    nothing i k l g = omega arith

    self : n < n → ⊥
    self l = omega arith

pub names_differ : (name : ℕ → List ℕ) (n : ℕ) → ((i : ℕ) → i < n → repeats_by name i ≡ false)
    → (k i : ℕ) → k < i → i < n → name k ≡ name i → ⊥
names_differ name n none k i h g e =
    let first = ltb-false (first_same name i) i (sym (repeats_is name i) ∙ none i g) in
    let apart : same_bytes (name k) (name i) ≡ false = clear_below (same_as name i) i 0 k (omega arith) (omega arith) (omega arith) in
    let z : ◌≡◌ {A = ℕ} 0 1 = cc (eq_same (name k) (name i) e) in
    omega arith

pub repeats_agree : (f g : ℕ → List ℕ) (i : ℕ) → ((k : ℕ) → k ≤ i → f k ≡ g k) → repeats_by f i ≡ repeats_by g i
unfolding repeats_by
repeats_agree f g i agree =
    ap (λ (first : ℕ). ltb first i)
    (alike (same_as f i) (same_as g i) i 0 (λ k l h. rw (agree k (omega arith), agree i (omega arith))))
