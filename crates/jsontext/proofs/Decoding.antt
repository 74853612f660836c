-- A string in which no surrogate is lone is decoded to UTF-8.
--     decoded_utf8    its bytes are those of scalar values
-- Assumes nothing.
use mathlib.Core.Bool.{Bool, true, false, cond, not, ◌&&◌, ◌||◌}
use mathlib.Core.List.{List, [], ◌∷◌}
use mathlib.Core.Logic.{◌⊎◌, inl, inr, ⊎_elim}
use mathlib.Core.Path.{◌≡◌, refl, sym, ◌∙◌}
use Prim.Native.Nat.{ℕ, ◌-◌, ◌≤◌, ◌<◌}
use native.Mathlib.Omega.{arith}
use borrow.Author.Tests.{eq-eqb, ne_eqb, leb-true, le-leb}
use lib.Dec.{leb}
use Rattle.laws.proofs.Tests.{le_or_lt, left, right, both}
use Rattle.jsontext.specs.Utf8.{Scalar, encode, Encoded, nothing, then}
use Rattle.jsontext.specs.Text.{Short, quote, backslash, slash, backspace, form_feed, line_feed, carriage_return, tabulator, Hex, decimal, letter, plain, escape, unit, Str}
use Rattle.jsontext.specs.Value.{short_code, hex_worth, unit_code, is_high, is_low, low_next, waiting, is_lone, joined, decoded_after, decoded}

-- no escape of the string is of a lone surrogate, where w waits
abbrev pub NoneLone : ℕ → Str → Type 0
NoneLone w [] = Unit {0}
NoneLone w (plain c p ∷ ps) = NoneLone 0 ps
NoneLone w (escape m ∷ ps) = NoneLone 0 ps
NoneLone w (unit h i j k ∷ ps) = (is_lone w (unit_code h i j k) ps ≡ false) × NoneLone (waiting (unit_code h i j k) ps) ps

-- a high surrogate waits only before a low one
abbrev Waits : ℕ → Str → Type 0
Waits w s = (w ≡ 0) ⊎ ((0xD800 ≤ w) × (w ≤ 0xDBFF) × (low_next s ≡ true))

short_scalar : (m : Short) → Scalar (short_code m)
short_scalar quote = inl (omega arith)
short_scalar backslash = inl (omega arith)
short_scalar slash = inl (omega arith)
short_scalar backspace = inl (omega arith)
short_scalar form_feed = inl (omega arith)
short_scalar line_feed = inl (omega arith)
short_scalar carriage_return = inl (omega arith)
short_scalar tabulator = inl (omega arith)

hex_low : (h : Hex) → hex_worth h < 16
hex_low (decimal d) = let l : d.worth < 10 = d.small in omega arith
hex_low (letter l k p) = omega arith

unit_low : (h i j k : Hex) → unit_code h i j k < 0x10000
unit_low h i j k = omega (arith, hex_low h, hex_low i, hex_low j, hex_low k)

-- a number by where it lies among the surrogates
data Part (c : ℕ) : Type 0 where
  low_part : c < 0xD800 → Part c
  high_half : 0xD800 ≤ c → c ≤ 0xDBFF → Part c
  low_half : 0xDC00 ≤ c → c ≤ 0xDFFF → Part c
  high_part : 0xE000 ≤ c → Part c

part_of : (c : ℕ) → Part c
part_of c =
    ⊎_elim
    (λ (a : 0xD800 ≤ c).
    ⊎_elim
    (λ (b : 0xDC00 ≤ c). ⊎_elim (λ (e : 0xE000 ≤ c). high_part e) (λ (e : c < 0xE000). low_half b (omega arith)) (le_or_lt 0xE000 c))
    (λ (b : c < 0xDC00). high_half a (omega arith))
    (le_or_lt 0xDC00 c))
    (λ (a : c < 0xD800). low_part a)
    (le_or_lt 0xD800 c)

is_high_lem : (c : ℕ) → 0xD800 ≤ c → c ≤ 0xDBFF → is_high c ≡ true
is_high_lem c a b = both (leb 0xD800 c) (leb c 0xDBFF) (le-leb 0xD800 c a) (le-leb c 0xDBFF b)

is_low_lem : (c : ℕ) → 0xDC00 ≤ c → c ≤ 0xDFFF → is_low c ≡ true
is_low_lem c a b = both (leb 0xDC00 c) (leb c 0xDFFF) (le-leb 0xDC00 c a) (le-leb c 0xDFFF b)

low_bounds : (c : ℕ) → is_low c ≡ true → (0xDC00 ≤ c) × (c ≤ 0xDFFF)
low_bounds c t = (leb-true 0xDC00 c (left (leb 0xDC00 c) (leb c 0xDFFF) t), leb-true c 0xDFFF (right (leb 0xDC00 c) (leb c 0xDFFF) t))

never : {A : Type 0} → true ≡ false → A
never e = absurd (let z : ◌≡◌ {A = ℕ} 0 1 = cc in omega arith)

-- an escape that is not lone, and does not wait itself, gives a scalar value
scalar_of : (w c : ℕ) (ps : Str) → c < 0x10000 → (w ≡ 0) ⊎ ((0xD800 ≤ w) × (w ≤ 0xDBFF) × (is_low c ≡ true))
    → is_lone w c ps ≡ false
    → (is_high c && low_next ps) ≡ false
    → Scalar (joined w c)
scalar_of w c ps l (inr (a, b, t)) f g =
    let i = low_bounds c t in
    rw (ne_eqb w 0 (λ (z : w ≡ 0). omega arith)) (inr (omega arith, omega arith))
scalar_of w c ps l (inl z) f g = rw (eq-eqb w 0 z) (go (part_of c))
  where
    go : Part c → Scalar c
    go (low_part a) = inl a
    go (high_part a) = inr (a, omega arith)
    go (high_half a b) = never (sym (lone_high (low_next ps) refl) ∙ f)
      where
        lone_high : (n : Bool) → low_next ps ≡ n → is_lone w c ps ≡ true
        lone_high false e = rw (is_high_lem c a b, e)
        lone_high true e = never (sym (rw (is_high_lem c a b, e)) ∙ g)
    go (low_half a b) = never (sym lone_low ∙ f)
      where
        either_way : (x : Bool) → (x || true) ≡ true
        either_way true = refl
        either_way false = refl

        lone_low : is_lone w c ps ≡ true
        lone_low = rw (is_low_lem c a b, eq-eqb w 0 z) (either_way (is_high c && not (low_next ps)))

decoded_after_lem : (w : ℕ) (s : Str) → Waits w s → NoneLone w s → Encoded (decoded_after w s)
unfolding decoded_after
decoded_after_lem w [] h n = nothing
decoded_after_lem w (plain c p ∷ ps) h n = then c p.scalar (decoded_after_lem 0 ps (inl refl) n)
decoded_after_lem w (escape m ∷ ps) h n = then (short_code m) (short_scalar m) (decoded_after_lem 0 ps (inl refl) n)
decoded_after_lem w (unit u i j k ∷ ps) h n = go (is_high c && low_next ps) refl (λ v h' n'. decoded_after_lem v ps h' n')
  where
    c : ℕ
    c = unit_code u i j k

    high_bounds : is_high c ≡ true → (0xD800 ≤ c) × (c ≤ 0xDBFF)
    high_bounds t = (leb-true 0xD800 c (left (leb 0xD800 c) (leb c 0xDBFF) t), leb-true c 0xDBFF (right (leb 0xD800 c) (leb c 0xDBFF) t))

    go : (b : Bool)
        → (is_high c && low_next ps) ≡ b
        → ((v : ℕ) → Waits v ps → NoneLone v ps → Encoded (decoded_after v ps))
        → Encoded (cond b (decoded_after c ps) (encode (joined w c) (decoded_after 0 ps)))
    go true e rec =
        let t = high_bounds (left (is_high c) (low_next ps) e) in
        rec c (inr (t.0, t.1, right (is_high c) (low_next ps) e)) (rw e at n.1)
    go false e rec = then (joined w c) (scalar_of w c ps (unit_low u i j k) h n.0 e) (rec 0 (inl refl) (rw e at n.1))

pub decoded_utf8 : (s : Str) → NoneLone 0 s → Encoded (decoded s)
decoded_utf8 s n = decoded_after_lem 0 s (inl refl) n
