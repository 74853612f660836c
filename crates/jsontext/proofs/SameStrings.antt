-- Two strings with the same bytes.
--     pieces_one     they are the same
-- Assumes nothing.
use mathlib.Core.Bool.{cond}
use mathlib.Core.HLevel.{is_prop→PathP, ⊥_prop}
use mathlib.Core.List.{List, [], ◌∷◌}
use mathlib.Core.Logic.{◌⊎◌, inl, inr, ⊎_elim}
use mathlib.Core.Path.{◌≡◌, refl, sym, ◌∙◌, ap}
use Prim.Native.Nat.{ℕ, ◌+◌, ◌/◌, ◌%◌, ◌≤◌, ◌<◌}
use native.Mathlib.Bridge.{le_prop}
use native.Mathlib.Omega.{arith}
use lib.Dec.{eqb}
use Rattle.jsontext.specs.Utf8.{Scalar, encode}
use Rattle.jsontext.specs.Text.{capital, small, Plain, Short, quote, backslash, slash, backspace, form_feed, line_feed, carriage_return, tabulator, short, Hex, decimal, letter, hex, Piece, plain, escape, unit, piece, Str, pieces}
use Rattle.laws.proofs.Tests.{le_or_lt}
use Rattle.jsontext.proofs.Strings.{encode_1, encode_2, encode_3, encode_4}
use Rattle.jsontext.proofs.SameNumbers.{digit_one}

-- ---- characters

-- the bytes of a scalar value, by its size
data Size (c : ℕ) (xs : List ℕ) : Type 0 where
  size1 : c < 0x80 → encode c xs ≡ c ∷ xs → Size c xs
  size2 : 0x80 ≤ c → c < 0x800 → encode c xs ≡ (0xC0 + c / 0x40) ∷ (0x80 + c % 0x40) ∷ xs → Size c xs
  size3 : 0x800 ≤ c → c < 0x10000
      → encode c xs ≡ (0xE0 + c / 0x1000) ∷ (0x80 + c / 0x40 % 0x40) ∷ (0x80 + c % 0x40) ∷ xs
      → Size c xs
  size4 : 0x10000 ≤ c
      → encode c xs
      ≡ (0xF0 + c / 0x40000) ∷ (0x80 + c / 0x1000 % 0x40) ∷ (0x80 + c / 0x40 % 0x40) ∷ (0x80 + c % 0x40) ∷ xs
      → Size c xs

size : (c : ℕ) (xs : List ℕ) → Size c xs
size c xs =
    ⊎_elim
    (λ l.
    ⊎_elim
    (λ m. ⊎_elim (λ n. size4 n (encode_4 c xs n)) (λ n. size3 m n (encode_3 c xs m n)) (le_or_lt 0x10000 c))
    (λ m. size2 l m (encode_2 c xs l m))
    (le_or_lt 0x800 c))
    (λ l. size1 l (encode_1 c xs l))
    (le_or_lt 0x80 c)

join : (a b : ℕ) → a / 0x40 ≡ b / 0x40 → a % 0x40 ≡ b % 0x40 → a ≡ b
join a b p q = omega arith

low_12 : (c : ℕ) → c / 0x40 / 0x40 ≡ c / 0x1000
low_12 c = omega arith

low_18 : (c : ℕ) → c / 0x1000 / 0x40 ≡ c / 0x40000
low_18 c = omega arith

join_3 : (c d : ℕ) → c / 0x1000 ≡ d / 0x1000 → c / 0x40 % 0x40 ≡ d / 0x40 % 0x40 → c % 0x40 ≡ d % 0x40 → c ≡ d
join_3 c d p q r = join c d (join (c / 0x40) (d / 0x40) (low_12 c ∙ p ∙ sym (low_12 d)) q) r

join_4 : (c d : ℕ) → c / 0x40000 ≡ d / 0x40000 → c / 0x1000 % 0x40 ≡ d / 0x1000 % 0x40 → c / 0x40 % 0x40 ≡ d / 0x40 % 0x40
    → c % 0x40 ≡ d % 0x40
    → c ≡ d
join_4 c d p q r s = join_3 c d (join (c / 0x1000) (d / 0x1000) (low_18 c ∙ p ∙ sym (low_18 d)) q) r s

same : (k a b : ℕ) → k + a ≡ k + b → a ≡ b
same k a b e = omega arith

encode_one : (c d : ℕ) (xs ys : List ℕ) → Size c xs → Size d ys → encode c xs ≡ encode d ys → (c ≡ d) × (xs ≡ ys)
encode_one c d xs ys (size1 h1 e1) (size1 h2 e2) e = let p : c ≡ d = cc in let q : xs ≡ ys = cc in (omega arith, q)
encode_one c d xs ys (size1 h1 e1) (size2 l2 h2 e2) e = let p : c ≡ 0xC0 + d / 0x40 = cc in absurd (omega arith)
encode_one c d xs ys (size1 h1 e1) (size3 l2 h2 e2) e = let p : c ≡ 0xE0 + d / 0x1000 = cc in absurd (omega arith)
encode_one c d xs ys (size1 h1 e1) (size4 l2 e2) e = let p : c ≡ 0xF0 + d / 0x40000 = cc in absurd (omega arith)
encode_one c d xs ys (size2 l1 h1 e1) (size1 h2 e2) e = let p : 0xC0 + c / 0x40 ≡ d = cc in absurd (omega arith)
encode_one c d xs ys (size2 l1 h1 e1) (size2 l2 h2 e2) e = let p : 0xC0 + c / 0x40 ≡ 0xC0 + d / 0x40 = cc in let p0 : 0x80 + c % 0x40 ≡ 0x80 + d % 0x40 = cc in let q : xs ≡ ys = cc in (omega arith, q)
encode_one c d xs ys (size2 l1 h1 e1) (size3 l2 h2 e2) e = let p : 0xC0 + c / 0x40 ≡ 0xE0 + d / 0x1000 = cc in absurd (omega arith)
encode_one c d xs ys (size2 l1 h1 e1) (size4 l2 e2) e = let p : 0xC0 + c / 0x40 ≡ 0xF0 + d / 0x40000 = cc in absurd (omega arith)
encode_one c d xs ys (size3 l1 h1 e1) (size1 h2 e2) e = let p : 0xE0 + c / 0x1000 ≡ d = cc in absurd (omega arith)
encode_one c d xs ys (size3 l1 h1 e1) (size2 l2 h2 e2) e = let p : 0xE0 + c / 0x1000 ≡ 0xC0 + d / 0x40 = cc in absurd (omega arith)
encode_one c d xs ys (size3 l1 h1 e1) (size3 l2 h2 e2) e = let p : 0xE0 + c / 0x1000 ≡ 0xE0 + d / 0x1000 = cc in let p0 : 0x80 + c / 0x40 % 0x40 ≡ 0x80 + d / 0x40 % 0x40 = cc in let p1 : 0x80 + c % 0x40 ≡ 0x80 + d % 0x40 = cc in let q : xs ≡ ys = cc in (join_3 c d (same 0xE0 _ _ p) (same 0x80 _ _ p0) (same 0x80 _ _ p1), q)
encode_one c d xs ys (size3 l1 h1 e1) (size4 l2 e2) e = let p : 0xE0 + c / 0x1000 ≡ 0xF0 + d / 0x40000 = cc in absurd (omega arith)
encode_one c d xs ys (size4 l1 e1) (size1 h2 e2) e = let p : 0xF0 + c / 0x40000 ≡ d = cc in absurd (omega arith)
encode_one c d xs ys (size4 l1 e1) (size2 l2 h2 e2) e = let p : 0xF0 + c / 0x40000 ≡ 0xC0 + d / 0x40 = cc in absurd (omega arith)
encode_one c d xs ys (size4 l1 e1) (size3 l2 h2 e2) e = let p : 0xF0 + c / 0x40000 ≡ 0xE0 + d / 0x1000 = cc in absurd (omega arith)
encode_one c d xs ys (size4 l1 e1) (size4 l2 e2) e = let p : 0xF0 + c / 0x40000 ≡ 0xF0 + d / 0x40000 = cc in let p0 : 0x80 + c / 0x1000 % 0x40 ≡ 0x80 + d / 0x1000 % 0x40 = cc in let p1 : 0x80 + c / 0x40 % 0x40 ≡ 0x80 + d / 0x40 % 0x40 = cc in let p2 : 0x80 + c % 0x40 ≡ 0x80 + d % 0x40 = cc in let q : xs ≡ ys = cc in (join_4 c d (same 0xF0 _ _ p) (same 0x80 _ _ p0) (same 0x80 _ _ p1) (same 0x80 _ _ p2), q)

scalar_prop : {c : ℕ} (p q : Scalar c) → p ≡ q
scalar_prop (inl p) (inl q) = ap inl (le_prop p q)
scalar_prop (inl p) (inr q) = absurd (omega arith)
scalar_prop (inr p) (inl q) = absurd (omega arith)
scalar_prop (inr p) (inr q) = λ i. inr (le_prop p.0 q.0 i, le_prop p.1 q.1 i)

plain_prop : {c : ℕ} (p q : Plain c) → p ≡ q
plain_prop p q =
    λ i.
    record {
      scalar = scalar_prop p.scalar q.scalar i;
      no_control = le_prop p.no_control q.no_control i;
      no_quote = λ e. ⊥_prop (p.no_quote e) (q.no_quote e) i;
      no_backslash = λ e. ⊥_prop (p.no_backslash e) (q.no_backslash e) i;
    }

-- the first byte of a character that stands as it is
lead_not : (c : ℕ) (xs : List ℕ) → Plain c → Size c xs → (b : ℕ) (ys : List ℕ) → encode c xs ≡ b ∷ ys → (b ≡ 0x22 → ⊥) × (b ≡ 0x5C → ⊥)
lead_not c xs p (size1 h e) b ys f =
    let g : c ≡ b = cc in (λ k. p.no_quote (g ∙ k), λ k. p.no_backslash (g ∙ k))
lead_not c xs p (size2 l h e) b ys f = let g : 0xC0 + c / 0x40 ≡ b = cc in (λ k. omega arith, λ k. omega arith)
lead_not c xs p (size3 l h e) b ys f = let g : 0xE0 + c / 0x1000 ≡ b = cc in (λ k. omega arith, λ k. omega arith)
lead_not c xs p (size4 l e) b ys f = let g : 0xF0 + c / 0x40000 ≡ b = cc in (λ k. omega arith, λ k. omega arith)

-- ---- escapes

short_of : ℕ → Short
short_of b =
    cond (eqb b 0x22) quote (cond (eqb b 0x5C) backslash (cond (eqb b 0x2F) slash (cond (eqb b 0x62) backspace (cond (eqb b 0x66) form_feed (cond (eqb b 0x6E) line_feed (cond (eqb b 0x72) carriage_return tabulator))))))

short_of_lem : (m : Short) → short_of (short m) ≡ m
unfolding short_of
short_of_lem quote = refl
short_of_lem backslash = refl
short_of_lem slash = refl
short_of_lem backspace = refl
short_of_lem form_feed = refl
short_of_lem line_feed = refl
short_of_lem carriage_return = refl
short_of_lem tabulator = refl

short_one : (m k : Short) → short m ≡ short k → m ≡ k
short_one m k e = sym (short_of_lem m) ∙ ap short_of e ∙ short_of_lem k

not_u : (m : Short) → short m ≡ 0x75 → ⊥
not_u quote e = omega arith
not_u backslash e = omega arith
not_u slash e = omega arith
not_u backspace e = omega arith
not_u form_feed e = omega arith
not_u line_feed e = omega arith
not_u carriage_return e = omega arith
not_u tabulator e = omega arith

hex_one : (h k : Hex) → hex h ≡ hex k → h ≡ k
hex_one (decimal d) (decimal c) e = ap decimal (digit_one d c e)
hex_one (decimal d) (letter capital k p) e = let l : d.worth < 10 = d.small in absurd (omega arith)
hex_one (decimal d) (letter small k p) e = let l : d.worth < 10 = d.small in absurd (omega arith)
hex_one (letter capital k p) (decimal d) e = let l : d.worth < 10 = d.small in absurd (omega arith)
hex_one (letter small k p) (decimal d) e = let l : d.worth < 10 = d.small in absurd (omega arith)
hex_one (letter capital k p) (letter small j q) e = absurd (omega arith)
hex_one (letter small k p) (letter capital j q) e = absurd (omega arith)
hex_one (letter capital k p) (letter capital j q) e =
    let f : k ≡ j = omega arith in λ i. letter capital (f i) (is_prop→PathP (λ a. f a < 6) (λ a. le_prop) p q i)
hex_one (letter small k p) (letter small j q) e =
    let f : k ≡ j = omega arith in λ i. letter small (f i) (is_prop→PathP (λ a. f a < 6) (λ a. le_prop) p q i)

-- ---- strings

piece_one : (p q : Piece) (xs ys : List ℕ) → piece p xs ≡ piece q ys → (p ≡ q) × (xs ≡ ys)
piece_one (plain c p) (plain d q) xs ys e =
    let r = encode_one c d xs ys (size c xs) (size d ys) e in
    let f : c ≡ d = r.0 in
    (λ i. plain (f i) (is_prop→PathP (λ a. Plain (f a)) (λ a. plain_prop) p q i), r.1)
piece_one (plain c p) (escape m) xs ys e = absurd ((lead_not c xs p (size c xs) 0x5C (short m ∷ ys) e).1 refl)
piece_one (plain c p) (unit h i j k) xs ys e =
    absurd ((lead_not c xs p (size c xs) 0x5C (0x75 ∷ hex h ∷ hex i ∷ hex j ∷ hex k ∷ ys) e).1 refl)
piece_one (escape m) (plain c p) xs ys e = absurd ((lead_not c ys p (size c ys) 0x5C (short m ∷ xs) (sym e)).1 refl)
piece_one (escape m) (escape k) xs ys e =
    let f : short m ≡ short k = cc in let g : xs ≡ ys = cc in (ap escape (short_one m k f), g)
piece_one (escape m) (unit h i j k) xs ys e = let f : short m ≡ 0x75 = cc in absurd (not_u m f)
piece_one (unit h i j k) (plain c p) xs ys e =
    absurd ((lead_not c ys p (size c ys) 0x5C (0x75 ∷ hex h ∷ hex i ∷ hex j ∷ hex k ∷ xs) (sym e)).1 refl)
piece_one (unit h i j k) (escape m) xs ys e = let f : short m ≡ 0x75 = cc in absurd (not_u m f)
piece_one (unit h i j k) (unit h' i' j' k') xs ys e =
    let a : hex h ≡ hex h' = cc in
    let b : hex i ≡ hex i' = cc in
    let c : hex j ≡ hex j' = cc in
    let d : hex k ≡ hex k' = cc in
    let g : xs ≡ ys = cc in
    let a' = hex_one h h' a in
    let b' = hex_one i i' b in
    let c' = hex_one j j' c in
    let d' = hex_one k k' d in
    (λ t. unit (a' t) (b' t) (c' t) (d' t), g)

no_end : (p : Piece) (xs ys : List ℕ) → piece p xs ≡ 0x22 ∷ ys → ⊥
no_end (plain c p) xs ys e = (lead_not c xs p (size c xs) 0x22 ys e).0 refl
no_end (escape m) xs ys e = let f : ◌≡◌ {A = ℕ} 0x5C 0x22 = cc in omega arith
no_end (unit h i j k) xs ys e = let f : ◌≡◌ {A = ℕ} 0x5C 0x22 = cc in omega arith

pub pieces_one : (s t : Str) (xs ys : List ℕ) → pieces s (0x22 ∷ xs) ≡ pieces t (0x22 ∷ ys) → (s ≡ t) × (xs ≡ ys)
unfolding pieces
pieces_one [] [] xs ys e = (refl, cc)
pieces_one [] (p ∷ t) xs ys e = absurd (no_end p (pieces t (0x22 ∷ ys)) xs (sym e))
pieces_one (p ∷ s) [] xs ys e = absurd (no_end p (pieces s (0x22 ∷ xs)) ys e)
pieces_one (p ∷ s) (q ∷ t) xs ys e =
    let r = piece_one p q (pieces s (0x22 ∷ xs)) (pieces t (0x22 ∷ ys)) e in
    let u = pieces_one s t xs ys r.1 in
    (cc (r.0, u.0), u.1)
