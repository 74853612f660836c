-- White space as it is passed over.
--     to_colon      after a name it ends at the colon
--     no_colon      after a value at no colon
-- Assumes nothing.
use mathlib.Core.Bool.{true, false}
use mathlib.Core.List.{List, [], ◌∷◌}
use mathlib.Core.Logic.{◌≢◌}
use mathlib.Core.Path.{◌≡◌, refl, sym, ap, ◌∙◌}
use Prim.Native.Nat.{ℕ, zero, suc, ◌+◌, ◌<◌}
use native.Mathlib.Numerals.{add-one}
use native.Mathlib.Omega.{arith}
use lib.ListN.{length, get_or, drop}
use lib.Seq.{drop-cons, drop-drop, get_or-drop}
use Rattle.jsontext.specs.Text.{Blank, space, tab, feed, return, blank, Space, spaces}
use Rattle.jsontext.specs.Automaton.{square, curly}
use Rattle.figures.proofs.Digits.{apart}
use Rattle.figures.proofs.Parts.{byte_inside}
use Rattle.placing.specs.Lexemes.{Lexeme, gap, comma, shuts, spelling}
use Rattle.placing.specs.Fair.{Ends, at_end, at_gap, at_comma, at_shut}
use Rattle.writing.specs.Reading.{is_blank, blanks_of}

blank_is : (b : Blank) → is_blank (blank b) ≡ true
blank_is space = refl
blank_is tab = refl
blank_is feed = refl
blank_is return = refl

-- ---- byte by byte

pub blank_inside : (json : List ℕ) (i : ℕ) → is_blank (get_or json i 0) ≡ true → i < length json
blank_inside json i t = byte_inside json i (λ (z : get_or json i 0 ≡ 0). apart (is_blank (get_or json i 0)) t (ap is_blank z))

-- white space there is one byte of it
pub blank_more : (json : List ℕ) (i : ℕ) → i < length json → is_blank (get_or json i 0) ≡ true → blanks_of (drop i json) ≡ suc (blanks_of (drop (i + 1) json))
unfolding blanks_of
blank_more json i l t = ap blanks_of (drop-cons json i 0 l) ∙ rw (t, add-one i)

pub blank_none : (json : List ℕ) (i : ℕ) → is_blank (get_or json i 0) ≡ false → blanks_of (drop i json) ≡ 0
unfolding blanks_of
blank_none [] zero f = refl
blank_none [] (suc i) f = refl
blank_none (x ∷ l) zero f = rw f
blank_none (x ∷ l) (suc i) f = blank_none l i f

-- ---- after a name, and after a value

before_colon : (w : Space) (rest : List ℕ) → drop (blanks_of (spaces w (0x3A ∷ rest))) (spaces w (0x3A ∷ rest)) ≡ 0x3A ∷ rest
unfolding blanks_of spaces
before_colon [] rest = refl
before_colon (b ∷ w) rest = rw (blank_is b) (before_colon w rest)

pub to_colon : (json : List ℕ) (i : ℕ) (w : Space) (rest : List ℕ) → spaces w (0x3A ∷ rest) ≡ drop i json → 0x3A ∷ rest ≡ drop (i + blanks_of (drop i json)) json
to_colon json i w rest e = sym (before_colon w rest) ∙ ap (λ (l : List ℕ). drop (blanks_of l) l) e ∙ drop-drop (blanks_of (drop i json)) i json

behind_value : (ls : List Lexeme) → Ends ls → get_or (drop (blanks_of (spelling ls)) (spelling ls)) 0 0 ≢ 0x3A
unfolding blanks_of spelling
behind_value [] at_end = λ z. omega arith
behind_value (gap b ∷ ls) (at_gap e) = rw (blank_is b) (behind_value ls e)
behind_value (comma ∷ ls) at_comma = λ z. omega arith
behind_value (shuts square ∷ ls) at_shut = λ z. omega arith
behind_value (shuts curly ∷ ls) at_shut = λ z. omega arith
behind_value (Rattle.placing.specs.Lexemes.a_null ∷ ls) x3 = elim x3 [ ]
behind_value (Rattle.placing.specs.Lexemes.a_true ∷ ls) x4 = elim x4 [ ]
behind_value (Rattle.placing.specs.Lexemes.a_false ∷ ls) x5 = elim x5 [ ]
behind_value (Rattle.placing.specs.Lexemes.num _ ∷ ls) x7 = elim x7 [ ]
behind_value (Rattle.placing.specs.Lexemes.str _ ∷ ls) x8 = elim x8 [ ]
behind_value (Rattle.placing.specs.Lexemes.nam _ _ ∷ ls) x10 = elim x10 [ ]
behind_value (Rattle.placing.specs.Lexemes.opens _ ∷ ls) x10 = elim x10 [ ]

pub no_colon : (json : List ℕ) (i : ℕ) (ls : List Lexeme) → Ends ls → spelling ls ≡ drop i json → get_or json (i + blanks_of (drop i json)) 0 ≢ 0x3A
no_colon json i ls e f z =
    behind_value ls e
    (ap (λ (l : List ℕ). get_or (drop (blanks_of l) l) 0 0) f
    ∙ ap (λ (l : List ℕ). get_or l 0 0) (drop-drop (blanks_of (drop i json)) i json)
    ∙ get_or-drop (i + blanks_of (drop i json)) json 0 0
    ∙ ap (λ (j : ℕ). get_or json j 0) same
    ∙ z)
  where
    same : i + blanks_of (drop i json) + 0 ≡ i + blanks_of (drop i json)
    same = omega arith
