-- What stands at a place of the text, by its first byte, and what is left behind white space, a comma or a word.
-- Assumes nothing.
use mathlib.Core.Bool.{Bool, true, false}
use mathlib.Core.List.{List, [], ◌∷◌}
use mathlib.Core.Logic.{◌≢◌}
use mathlib.Core.Path.{◌≡◌, refl, ap, ◌∙◌}
use Prim.Native.Nat.{ℕ, ◌+◌, ◌≤◌, ◌<◌}
use native.Mathlib.Omega.{arith}
use lib.ListN.{length, get_or, drop, length-drop}
use Rattle.sheet.specs.declared.kind.RowKind.TheVariants.{Null, False, True}
use Rattle.jsontext.specs.Text.{Blank, space, tab, feed, return, blank, digit, digits, Whole, nought, from, whole, fraction, exponent, Number, minus_if, number, pieces, spaces}
use Rattle.jsontext.specs.Automaton.{square, curly}
use Rattle.strings.proofs.Steps.{head_at}
use Rattle.placing.specs.Lexemes.{Lexeme, gap, comma, a_null, a_true, a_false, num, str, nam, opens, shuts, spelled, spelling}
use Rattle.placing.specs.Desk.{Desk, rowed, acts}
use Rattle.placing.specs.Fair.{Fair}
use Rattle.writing.specs.Reading.{Reading, Going}

-- what the first byte of a lexeme is
abbrev pub First : Lexeme → ℕ → Type 0
First (gap b) x = x ≤ 0x20
First comma x = x ≡ 0x2C
First a_null x = x ≡ 0x6E
First a_true x = x ≡ 0x74
First a_false x = x ≡ 0x66
First (num n) x = (0x2D ≤ x) × (x ≤ 0x39)
First (str s) x = x ≡ 0x22
First (nam s w) x = x ≡ 0x22
First (opens square) x = x ≡ 0x5B
First (opens curly) x = x ≡ 0x7B
First (shuts square) x = x ≡ 0x5D
First (shuts curly) x = x ≡ 0x7D

blank_low : (b : Blank) → blank b ≤ 0x20
blank_low space = omega arith
blank_low tab = omega arith
blank_low feed = omega arith
blank_low return = omega arith

-- bytes that go on from place i
pub behind : (json : List ℕ) (i m b : ℕ) (l : List ℕ) → b ∷ l ≡ drop i json → i + 1 ≡ m → l ≡ drop m json
behind json i m b l e z = (head_at json i b l e).others ∙ ap (λ (j : ℕ). drop j json) z

module _ (json : List ℕ) (i : ℕ) where
  number_first : (n : Number) (rest : List ℕ) → number n rest ≡ drop i json → (0x2D ≤ get_or json i 0) × (get_or json i 0 ≤ 0x39)
  number_first n rest e = go n.negative n.integer e
    where
      go : (b : Bool) (w : Whole) → minus_if b (whole w (fraction n.part (exponent n.power rest))) ≡ drop i json → (0x2D ≤ get_or json i 0) × (get_or json i 0 ≤ 0x39)
      go true w f = let h = (head_at json i 0x2D (whole w (fraction n.part (exponent n.power rest))) f).byte in (omega arith, omega arith)
      go false nought f = let h = (head_at json i 0x30 (fraction n.part (exponent n.power rest)) f).byte in (omega arith, omega arith)
      go false (from d p ds) f =
          let h = (head_at json i (digit d) (digits ds (fraction n.part (exponent n.power rest))) f).byte in
          let l : d.worth < 10 = d.small in
          (omega arith, omega arith)

  pub first_is : (l : Lexeme) (rest : List ℕ) → spelled l rest ≡ drop i json → First l (get_or json i 0)
  first_is (gap b) rest e = omega (arith, (head_at json i (blank b) rest e).byte, blank_low b)
  first_is comma rest e = (head_at json i 0x2C rest e).byte
  first_is a_null rest e = (head_at json i 0x6E (0x75 ∷ 0x6C ∷ 0x6C ∷ rest) e).byte
  first_is a_true rest e = (head_at json i 0x74 (0x72 ∷ 0x75 ∷ 0x65 ∷ rest) e).byte
  first_is a_false rest e = (head_at json i 0x66 (0x61 ∷ 0x6C ∷ 0x73 ∷ 0x65 ∷ rest) e).byte
  first_is (num n) rest e = number_first n rest e
  first_is (str s) rest e = (head_at json i 0x22 (pieces s (0x22 ∷ rest)) e).byte
  first_is (nam s w) rest e = (head_at json i 0x22 (pieces s (0x22 ∷ spaces w (0x3A ∷ rest))) e).byte
  first_is (opens square) rest e = (head_at json i 0x5B rest e).byte
  first_is (opens curly) rest e = (head_at json i 0x7B rest e).byte
  first_is (shuts square) rest e = (head_at json i 0x5D rest e).byte
  first_is (shuts curly) rest e = (head_at json i 0x7D rest e).byte

  -- a lexeme stands there
  pub nothing_left : {A : Type 0} → [] ≡ drop i json → i < length json → A
  nothing_left e l = absurd (omega (arith, ap length e, length-drop i json))

  module _ (n : ℕ) (d : Desk) (s : Reading json i d.level) (inside : i < length json) where
    abbrev byte : ℕ
    byte = get_or json i 0

    pub gap_going : byte ≤ 0x2C → byte ≢ 0x22 → Going n json i d s (i + 1) d
    unfolding spelling acts
    gap_going low no_quote = go s.lexemes s.spelled s.fair
      where
        go : (ls : List Lexeme) (e : spelling ls ≡ drop i json) (f : Fair d.level ls) → Going n json i d (record { lexemes = ls; spelled = e; fair = f }) (i + 1) d
        go [] e f = nothing_left e inside
        go (gap b ∷ ls) e f = record { left = record { lexemes = ls; spelled = behind json i (i + 1) (blank b) (spelling ls) e refl; fair = f }; same = refl }
        go (comma ∷ ls) e f = record { left = record { lexemes = ls; spelled = behind json i (i + 1) 0x2C (spelling ls) e refl; fair = f }; same = refl }
        go (a_null ∷ ls) e f = absurd (omega (arith, first_is a_null (spelling ls) e))
        go (a_true ∷ ls) e f = absurd (omega (arith, first_is a_true (spelling ls) e))
        go (a_false ∷ ls) e f = absurd (omega (arith, first_is a_false (spelling ls) e))
        go (num x ∷ ls) e f = absurd (omega (arith, first_is (num x) (spelling ls) e))
        go (str x ∷ ls) e f = absurd (omega (arith, first_is (str x) (spelling ls) e))
        go (nam x w ∷ ls) e f = absurd (omega (arith, first_is (nam x w) (spelling ls) e))
        go (opens square ∷ ls) e f = absurd (omega (arith, first_is (opens square) (spelling ls) e))
        go (opens curly ∷ ls) e f = absurd (omega (arith, first_is (opens curly) (spelling ls) e))
        go (shuts square ∷ ls) e f = absurd (omega (arith, first_is (shuts square) (spelling ls) e))
        go (shuts curly ∷ ls) e f = absurd (omega (arith, first_is (shuts curly) (spelling ls) e))

    pub null_going : byte ≡ 0x6E → Going n json i d s (i + 4) (rowed n Null 0 0 d)
    unfolding spelling acts rowed
    null_going here = go s.lexemes s.spelled s.fair
      where
        go : (ls : List Lexeme) (e : spelling ls ≡ drop i json) (f : Fair d.level ls) → Going n json i d (record { lexemes = ls; spelled = e; fair = f }) (i + 4) (rowed n Null 0 0 d)
        go [] e f = nothing_left e inside
        go (gap b ∷ ls) e f = absurd (omega (arith, first_is (gap b) (spelling ls) e))
        go (comma ∷ ls) e f = absurd (omega (arith, first_is comma (spelling ls) e))
        go (a_null ∷ ls) e f = let e₁ = behind json i (i + 1) 0x6E (0x75 ∷ 0x6C ∷ 0x6C ∷ spelling ls) e refl in let e₂ = behind json (i + 1) (i + 2) 0x75 (0x6C ∷ 0x6C ∷ spelling ls) e₁ (omega arith) in let e₃ = behind json (i + 2) (i + 3) 0x6C (0x6C ∷ spelling ls) e₂ (omega arith) in let e₄ = behind json (i + 3) (i + 4) 0x6C (spelling ls) e₃ (omega arith) in record { left = record { lexemes = ls; spelled = e₄; fair = f }; same = refl }
        go (a_true ∷ ls) e f = absurd (omega (arith, first_is a_true (spelling ls) e))
        go (a_false ∷ ls) e f = absurd (omega (arith, first_is a_false (spelling ls) e))
        go (num x ∷ ls) e f = absurd (omega (arith, first_is (num x) (spelling ls) e))
        go (str x ∷ ls) e f = absurd (omega (arith, first_is (str x) (spelling ls) e))
        go (nam x w ∷ ls) e f = absurd (omega (arith, first_is (nam x w) (spelling ls) e))
        go (opens square ∷ ls) e f = absurd (omega (arith, first_is (opens square) (spelling ls) e))
        go (opens curly ∷ ls) e f = absurd (omega (arith, first_is (opens curly) (spelling ls) e))
        go (shuts square ∷ ls) e f = absurd (omega (arith, first_is (shuts square) (spelling ls) e))
        go (shuts curly ∷ ls) e f = absurd (omega (arith, first_is (shuts curly) (spelling ls) e))

    pub true_going : byte ≡ 0x74 → Going n json i d s (i + 4) (rowed n True 0 0 d)
    unfolding spelling acts rowed
    true_going here = go s.lexemes s.spelled s.fair
      where
        go : (ls : List Lexeme) (e : spelling ls ≡ drop i json) (f : Fair d.level ls) → Going n json i d (record { lexemes = ls; spelled = e; fair = f }) (i + 4) (rowed n True 0 0 d)
        go [] e f = nothing_left e inside
        go (gap b ∷ ls) e f = absurd (omega (arith, first_is (gap b) (spelling ls) e))
        go (comma ∷ ls) e f = absurd (omega (arith, first_is comma (spelling ls) e))
        go (a_null ∷ ls) e f = absurd (omega (arith, first_is a_null (spelling ls) e))
        go (a_true ∷ ls) e f = let e₁ = behind json i (i + 1) 0x74 (0x72 ∷ 0x75 ∷ 0x65 ∷ spelling ls) e refl in let e₂ = behind json (i + 1) (i + 2) 0x72 (0x75 ∷ 0x65 ∷ spelling ls) e₁ (omega arith) in let e₃ = behind json (i + 2) (i + 3) 0x75 (0x65 ∷ spelling ls) e₂ (omega arith) in let e₄ = behind json (i + 3) (i + 4) 0x65 (spelling ls) e₃ (omega arith) in record { left = record { lexemes = ls; spelled = e₄; fair = f }; same = refl }
        go (a_false ∷ ls) e f = absurd (omega (arith, first_is a_false (spelling ls) e))
        go (num x ∷ ls) e f = absurd (omega (arith, first_is (num x) (spelling ls) e))
        go (str x ∷ ls) e f = absurd (omega (arith, first_is (str x) (spelling ls) e))
        go (nam x w ∷ ls) e f = absurd (omega (arith, first_is (nam x w) (spelling ls) e))
        go (opens square ∷ ls) e f = absurd (omega (arith, first_is (opens square) (spelling ls) e))
        go (opens curly ∷ ls) e f = absurd (omega (arith, first_is (opens curly) (spelling ls) e))
        go (shuts square ∷ ls) e f = absurd (omega (arith, first_is (shuts square) (spelling ls) e))
        go (shuts curly ∷ ls) e f = absurd (omega (arith, first_is (shuts curly) (spelling ls) e))

    pub false_going : byte ≡ 0x66 → Going n json i d s (i + 5) (rowed n False 0 0 d)
    unfolding spelling acts rowed
    false_going here = go s.lexemes s.spelled s.fair
      where
        go : (ls : List Lexeme) (e : spelling ls ≡ drop i json) (f : Fair d.level ls) → Going n json i d (record { lexemes = ls; spelled = e; fair = f }) (i + 5) (rowed n False 0 0 d)
        go [] e f = nothing_left e inside
        go (gap b ∷ ls) e f = absurd (omega (arith, first_is (gap b) (spelling ls) e))
        go (comma ∷ ls) e f = absurd (omega (arith, first_is comma (spelling ls) e))
        go (a_null ∷ ls) e f = absurd (omega (arith, first_is a_null (spelling ls) e))
        go (a_true ∷ ls) e f = absurd (omega (arith, first_is a_true (spelling ls) e))
        go (a_false ∷ ls) e f = let e₁ = behind json i (i + 1) 0x66 (0x61 ∷ 0x6C ∷ 0x73 ∷ 0x65 ∷ spelling ls) e refl in let e₂ = behind json (i + 1) (i + 2) 0x61 (0x6C ∷ 0x73 ∷ 0x65 ∷ spelling ls) e₁ (omega arith) in let e₃ = behind json (i + 2) (i + 3) 0x6C (0x73 ∷ 0x65 ∷ spelling ls) e₂ (omega arith) in let e₄ = behind json (i + 3) (i + 4) 0x73 (0x65 ∷ spelling ls) e₃ (omega arith) in let e₅ = behind json (i + 4) (i + 5) 0x65 (spelling ls) e₄ (omega arith) in record { left = record { lexemes = ls; spelled = e₅; fair = f }; same = refl }
        go (num x ∷ ls) e f = absurd (omega (arith, first_is (num x) (spelling ls) e))
        go (str x ∷ ls) e f = absurd (omega (arith, first_is (str x) (spelling ls) e))
        go (nam x w ∷ ls) e f = absurd (omega (arith, first_is (nam x w) (spelling ls) e))
        go (opens square ∷ ls) e f = absurd (omega (arith, first_is (opens square) (spelling ls) e))
        go (opens curly ∷ ls) e f = absurd (omega (arith, first_is (opens curly) (spelling ls) e))
        go (shuts square ∷ ls) e f = absurd (omega (arith, first_is (shuts square) (spelling ls) e))
        go (shuts curly ∷ ls) e f = absurd (omega (arith, first_is (shuts curly) (spelling ls) e))
