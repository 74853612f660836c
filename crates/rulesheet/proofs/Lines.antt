-- A code's line in the table: of each number in a span, and of a number that no line has.
-- Assumes nothing.
use mathlib.Core.Bool.{Bool, true, false, ◌&&◌, ◌||◌}
use mathlib.Core.List.{List, [], ◌∷◌}
use mathlib.Core.Logic.{⊎_elim}
use mathlib.Core.Path.{◌≡◌, refl, subst, ◌∙◌}
use Prim.Native.Nat.{ℕ, zero, suc, ◌+◌, ◌^◌, ◌≤◌, ◌<◌}
use native.Mathlib.Nat.{eq-or-lt_of_le}
use native.Mathlib.Omega.{arith}
use lib.Dec.{ltb, leb}
use borrow.Author.Tests.{ltb-true, leb-true, ne_eqb}
use Rattle.laws.proofs.Tests.{le_or_lt, left, right, either}
use Rattle.rulesheet.specs.Codes.{CodeLine, codes, unknown, line_in}

-- a line of another code is passed
pub line_past : (line : CodeLine) (lines : List CodeLine) (code : ℕ) → (code ≡ line.code → ⊥) → line_in (line ∷ lines) code ≡ line_in lines code
unfolding line_in
line_past line lines code other = rw (ne_eqb code line.code other)

pub line_none : (code : ℕ) → line_in [] code ≡ unknown
unfolding line_in
line_none code = refl

-- a fact of each of `many` numbers from `low` on
unfoldable pub Each : (ℕ → Type 0) → ℕ → ℕ → Type 0
Each P low zero = Unit {0}
Each P low (suc many) = P low × Each P (suc low) many

pub each_at : (P : ℕ → Type 0) (many low x : ℕ) → Each P low many → low ≤ x → x < low + many → P x
unfolding Each
each_at P zero low x all above below = absurd (nothing above below)
  where
    nothing : low ≤ x → x < low + 0 → ⊥
    nothing a b = omega arith
each_at P (suc many) low x all above below =
    ⊎_elim (λ (e : low ≡ x). subst P e all.0) (λ (l : low < x). each_at P many (suc low) x all.1 l (omega arith)) (eq-or-lt_of_le above)

-- ---- numbers that no line has

none_in : ℕ → ℕ → List CodeLine → Bool
none_in low high [] = true
none_in low high (line ∷ lines) = (ltb line.code low || leb high line.code) && none_in low high lines

module _ (low high code : ℕ) (above : low ≤ code) (below : code < high) where
  no_line : (lines : List CodeLine) → none_in low high lines ≡ true → line_in lines code ≡ unknown
  unfolding none_in
  no_line [] t = line_none code
  no_line (line ∷ lines) t =
      line_past line lines code (λ (e : code ≡ line.code).
      ⊎_elim (λ h. omega (arith, ltb-true line.code low h)) (λ h. omega (arith, leb-true high line.code h))
      (either (ltb line.code low) (leb high line.code) (left (ltb line.code low || leb high line.code) (none_in low high lines) t)))
      ∙ no_line lines (right (ltb line.code low || leb high line.code) (none_in low high lines) t)

  gap : none_in low high codes ≡ true → line_in codes code ≡ unknown
  gap t = no_line codes t

-- where single codes are left out, a gap on each side of them
module _ (code : ℕ) where
  pub below_ten : code < 10 → (code ≡ 1 → ⊥) → (code ≡ 2 → ⊥) → (code ≡ 3 → ⊥) → line_in codes code ≡ unknown
  unfolding none_in
  below_ten b f g h =
      ⊎_elim (λ (l : 1 ≤ code). gap 4 10 code (omega arith) b refl) (λ (l : code < 1). gap 0 1 code (omega arith) l refl) (le_or_lt 1 code)

  pub past_fourteen : 14 ≤ code → code < 20 → (code ≡ 14 → ⊥) → line_in codes code ≡ unknown
  unfolding none_in
  past_fourteen a b f = gap 15 20 code (omega arith) b refl

  pub past_twenty_six : 26 ≤ code → code < 30 → (code ≡ 26 → ⊥) → line_in codes code ≡ unknown
  unfolding none_in
  past_twenty_six a b f = gap 27 30 code (omega arith) b refl

  late : 42 ≤ code → (code ≡ 42 → ⊥) → (code ≡ 43 → ⊥) → (code ≡ 44 → ⊥) → (code ≡ 45 → ⊥) → 46 ≤ code
  late l a b c d = omega arith

  forties : 40 ≤ code → code < 42 → (code ≡ 40 → ⊥) → line_in codes code ≡ unknown
  unfolding none_in
  forties l h a = gap 41 42 code (omega arith) h refl

  thirties : 35 ≤ code → code < 40 → (code ≡ 36 → ⊥) → (code ≡ 37 → ⊥) → line_in codes code ≡ unknown
  unfolding none_in
  thirties l h a b =
      ⊎_elim (λ (k : 36 ≤ code). gap 38 40 code (omega arith) h refl) (λ (k : code < 36). gap 35 36 code l k refl) (le_or_lt 36 code)

  pub past_thirty_four : 35 ≤ code → code < 60 → (code ≡ 36 → ⊥) → (code ≡ 37 → ⊥) → (code ≡ 40 → ⊥) → (code ≡ 42 → ⊥) → (code ≡ 43 → ⊥) → (code ≡ 44 → ⊥) → (code ≡ 45 → ⊥) → line_in codes code ≡ unknown
  unfolding none_in
  past_thirty_four a b c d f g h i j =
      ⊎_elim
      (λ (l : 42 ≤ code). gap 46 60 code (late l g h i j) b refl)
      (λ (l : code < 42). ⊎_elim (λ (k : 40 ≤ code). forties k l f) (λ (k : code < 40). thirties a k c d) (le_or_lt 40 code))
      (le_or_lt 42 code)

  pub past_sixty_one : 62 ≤ code → code < 2 ^ 32 → line_in codes code ≡ unknown
  unfolding none_in
  past_sixty_one a b = gap 62 (2 ^ 32) code a b refl
