-- A run of ASCII, as it is passed.
-- Assumes nothing.
use mathlib.Core.List.{List}
use mathlib.Core.Logic.{⊎_elim}
use mathlib.Core.Path.{◌≡◌, subst}
use Prim.Native.Nat.{ℕ, ◌+◌, ◌-◌, ◌≤◌, ◌<◌}
use native.Mathlib.Omega.{arith}
use lib.Bits.{bit_or, or_add_and, and_le_l, and_le_r}
use lib.ListN.{get_or}
use Rattle.ascii.specs.Runs.{Bits, Ascii}
use Rattle.laws.proofs.Tests.{le_or_lt}

pub none : (text : List ℕ) (a : ℕ) → Ascii text a a
none text a = λ (i : ℕ) (l : a ≤ i) (h : i < a). absurd (empty i l h)
  where
    empty : (i : ℕ) → a ≤ i → i < a → ⊥
    empty i l h = omega arith

module _ (text : List ℕ) (a b c : ℕ) where
  -- a run and one after it
  pub join : Ascii text a b → Ascii text b c → Ascii text a c
  join p q = λ (i : ℕ) (l : a ≤ i) (h : i < c). ⊎_elim (λ (m : b ≤ i). q i m h) (λ (m : i < b). p i l m) (le_or_lt b i)

-- the bits of the first n bytes and of the last n are those of all
pub both_ends : (text : List ℕ) (from to n : ℕ) {a b : ℕ} → from + n ≤ to → to ≤ from + n + n → Bits text from n a → Bits text (to - n) n b → bit_or a b < 0x80 → Ascii text from to
both_ends text from to n {a} {b} h g p q l =
    let sum = or_add_and a b in
    let left = and_le_l a b in
    let right = and_le_r a b in
    let e : (to - n) + n ≡ to = omega arith in
    let last = subst (λ (i : ℕ). Ascii text (to - n) i) e (q.low (omega arith)) in
    join text from (from + n) to (p.low (omega arith)) (λ (i : ℕ) (k : from + n ≤ i) (m : i < to). last i (omega arith) m)

pub one : (text : List ℕ) (a : ℕ) → get_or text a 0 < 0x80 → Ascii text a (a + 1)
one text a h = λ (i : ℕ) (l : a ≤ i) (m : i < a + 1). let e : a ≡ i = omega arith in subst (λ (k : ℕ). get_or text k 0 < 0x80) e h

pub bits_one : (text : List ℕ) (at : ℕ) → Bits text at 1 (get_or text at 0)
bits_one text at = record { low = one text at }

-- bytes, and those after them
pub joined : (text : List ℕ) (at m n : ℕ) {a b : ℕ} → Bits text at m a → Bits text (at + m) n b → Bits text at (m + n) (bit_or a b)
joined text at m n {a} {b} p q =
    record {
      low =
          λ (h : bit_or a b < 0x80).
          let sum = or_add_and a b in
          let left = and_le_l a b in
          let right = and_le_r a b in
          let e : (at + m) + n ≡ at + (m + n) = omega arith in
          subst (λ (k : ℕ). Ascii text at k) e (join text at (at + m) ((at + m) + n) (p.low (omega arith)) (q.low (omega arith)));
    }
