-- From bytes to what they are the bytes of.
--     digit_of, hex_of         a digit, a hexadecimal digit
--     char-1 to char-4         a scalar value, from its bytes in UTF-8
-- Assumes nothing.
use mathlib.Core.List.{List, ◌∷◌}
use mathlib.Core.Logic.{inl, inr}
use mathlib.Core.Path.{◌≡◌, refl, sym, ◌∙◌}
use Prim.Native.Nat.{ℕ, ◌+◌, ◌-◌, ◌*◌, ◌≤◌, ◌<◌}
use native.Mathlib.Omega.{arith}
use Rattle.jsontext.specs.Utf8.{encode, Scalar}
use Rattle.jsontext.specs.Text.{Digit, digit, Hex, decimal, letter, hex, capital, small, Plain}
use Rattle.jsontext.proofs.Strings.{encode_1, encode_2, encode_3, encode_4}

pub cons : {a b : ℕ} {xs ys : List ℕ} → a ≡ b → xs ≡ ys → a ∷ xs ≡ b ∷ ys
cons p q = cc

pub digit_of : (b : ℕ) → 0x30 ≤ b → b ≤ 0x39 → (d : Digit) × (b ≡ digit d)
digit_of b l h = (record { worth = b - 0x30; small = omega arith }, omega arith)

pub first_digit_of : (b : ℕ) → 0x31 ≤ b → b ≤ 0x39 → (d : Digit) × (0 < d.worth) × (b ≡ digit d)
first_digit_of b l h = (record { worth = b - 0x30; small = omega arith }, omega arith, omega arith)

abbrev pub HexOf : ℕ → Type 0
HexOf b = (h : Hex) × (b ≡ hex h)

pub hex_digit : (b : ℕ) → 0x30 ≤ b → b ≤ 0x39 → HexOf b
hex_digit b l h = let d = digit_of b l h in (decimal d.0, d.1)

pub hex_capital : (b : ℕ) → 0x41 ≤ b → b ≤ 0x46 → HexOf b
hex_capital b l h = (letter capital (b - 0x41) (omega arith), omega arith)

pub hex_small : (b : ℕ) → 0x61 ≤ b → b ≤ 0x66 → HexOf b
hex_small b l h = (letter small (b - 0x61) (omega arith), omega arith)

-- a character that may stand as it is, and its bytes before any others
abbrev pub Of : (List ℕ → List ℕ) → Type 0
Of put = (c : ℕ) × Plain c × ((xs : List ℕ) → put xs ≡ encode c xs)

pub char_1 : (b : ℕ) → 0x20 ≤ b → b < 0x80 → (b ≡ 0x22 → ⊥) → (b ≡ 0x5C → ⊥) → Of (λ xs. b ∷ xs)
char_1 b l h q s = (b, record { scalar = inl (omega arith); no_control = l; no_quote = q; no_backslash = s }, λ xs. sym (encode_1 b xs h))

plain : (c : ℕ) → 0x80 ≤ c → Scalar c → Plain c
plain c l s = record { scalar = s; no_control = omega arith; no_quote = λ e. omega arith; no_backslash = λ e. omega arith }

pub char_2 : (a b : ℕ) → 0xC2 ≤ a → a ≤ 0xDF → 0x80 ≤ b → b ≤ 0xBF → Of (λ xs. a ∷ b ∷ xs)
char_2 a b al ah bl bh =
    let c : ℕ = (a - 0xC0) * 0x40 + (b - 0x80) in
    let low : 0x80 ≤ c = omega arith in
    let high : c < 0x800 = omega arith in
    (c, plain c low (inl (omega arith)), λ xs. cons (omega arith) (cons (omega arith) refl) ∙ sym (encode_2 c xs low high))

-- three bytes: what the lead byte and the second one allow is told by two facts about the number
pub char_3 : (a b c : ℕ) → 0xE0 ≤ a → a ≤ 0xEF → 0x80 ≤ b → b ≤ 0xBF → 0x80 ≤ c → c ≤ 0xBF
    → 0x800 ≤ (a - 0xE0) * 0x1000 + (b - 0x80) * 0x40 + (c - 0x80)
    → Scalar ((a - 0xE0) * 0x1000 + (b - 0x80) * 0x40 + (c - 0x80))
    → Of (λ xs. a ∷ b ∷ c ∷ xs)
char_3 a b c al ah bl bh cl ch low s =
    let n : ℕ = (a - 0xE0) * 0x1000 + (b - 0x80) * 0x40 + (c - 0x80) in
    let high : n < 0x10000 = omega arith in
    (n, plain n (omega arith) s, λ xs. cons (omega arith) (cons (omega arith) (cons (omega arith) refl)) ∙ sym (encode_3 n xs low high))

pub char_4 : (a b c d : ℕ) → 0xF0 ≤ a → a ≤ 0xF4 → 0x80 ≤ b → b ≤ 0xBF → 0x80 ≤ c → c ≤ 0xBF → 0x80 ≤ d → d ≤ 0xBF
    → 0x10000 ≤ (a - 0xF0) * 0x40000 + (b - 0x80) * 0x1000 + (c - 0x80) * 0x40 + (d - 0x80)
    → (a - 0xF0) * 0x40000 + (b - 0x80) * 0x1000 + (c - 0x80) * 0x40 + (d - 0x80) < 0x110000
    → Of (λ xs. a ∷ b ∷ c ∷ d ∷ xs)
char_4 a b c d al ah bl bh cl ch dl dh low high =
    let n : ℕ = (a - 0xF0) * 0x40000 + (b - 0x80) * 0x1000 + (c - 0x80) * 0x40 + (d - 0x80) in
    (n, plain n (omega arith) (inr (omega arith, high)), λ xs. cons (omega arith) (cons (omega arith) (cons (omega arith) (cons (omega arith) refl))) ∙ sym (encode_4 n xs low))
