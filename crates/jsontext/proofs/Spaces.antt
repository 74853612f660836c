-- White space is read by the automaton, wherever it may stand.
--     over        white space, at a place that it does not leave
--     loop-*      the places at which it may stand
-- Assumes nothing.
use mathlib.Core.List.{List, [], ◌∷◌}
use mathlib.Core.Option.{none, some}
use mathlib.Core.Path.{◌≡◌, refl}
use Prim.Native.Nat.{ℕ, ◌≤◌}
use native.Mathlib.Omega.{arith}
use borrow.Author.Tests.{le-ltb, ne_eqb}
use Rattle.jsontext.specs.Text.{Blank, space, tab, feed, return, blank, Space, spaces}
use Rattle.jsontext.specs.Automaton.{Bracket, square, curly, Place, ahead, first_element, after, name, first_name, colon, word, minus, nought, whole, point, part, letter, sign, power, text, escape, unit, char, State, at, pick, step}
use Rattle.jsontext.specs.Sightings.{Sighting, sight}
use Rattle.jsontext.proofs.Moves.{Reading, quietly}

abbrev pub Loops : State → Type 0
Loops s = (c : Blank) → step s (blank c) ≡ some s

-- nothing starts with white space
quiet : (p : Place) (b : ℕ) → b ≤ 0x20 → sight p b ≡ none
quiet ahead b h = rw (le-ltb 0x20 b h)
quiet first_element b h = rw (le-ltb 0x20 b h)
quiet name b h = rw (le-ltb 0x20 b h)
quiet first_name b h = rw (le-ltb 0x20 b h)
quiet (text r) b h = rw (ne_eqb b 0x5C (λ e. omega arith))
quiet after b h = refl
quiet colon b h = refl
quiet (word w) b h = refl
quiet minus b h = refl
quiet nought b h = refl
quiet whole b h = refl
quiet point b h = refl
quiet part b h = refl
quiet letter b h = refl
quiet sign b h = refl
quiet power b h = refl
quiet (escape r) b h = refl
quiet (unit l r) b h = refl
quiet (char c r) b h = refl

pub blank_low : (c : Blank) → blank c ≤ 0x20
blank_low space = omega arith
blank_low tab = omega arith
blank_low feed = omega arith
blank_low return = omega arith

pub over : (L : List Sighting) (p : Place) (ks : List Bracket) → Loops (at p ks)
    → (w : Space) (bs : List ℕ)
    → Reading L (at p ks) bs
    → Reading L (at p ks) (spaces w bs)
unfolding spaces
over L p ks l [] bs a = a
over L p ks l (c ∷ w) bs a = quietly L p ks (at p ks) (blank c) (spaces w bs) (quiet p (blank c) (blank_low c)) (l c) (over L p ks l w bs a)

pub loop_ahead : (ks : List Bracket) → Loops (at ahead ks)
unfolding step pick
loop_ahead ks space = refl
loop_ahead ks tab = refl
loop_ahead ks feed = refl
loop_ahead ks return = refl

pub loop_first : (ks : List Bracket) → Loops (at first_element ks)
unfolding step pick
loop_first ks space = refl
loop_first ks tab = refl
loop_first ks feed = refl
loop_first ks return = refl

pub loop_after : (ks : List Bracket) → Loops (at after ks)
unfolding step pick
loop_after [] space = refl
loop_after [] tab = refl
loop_after [] feed = refl
loop_after [] return = refl
loop_after (square ∷ ks) space = refl
loop_after (square ∷ ks) tab = refl
loop_after (square ∷ ks) feed = refl
loop_after (square ∷ ks) return = refl
loop_after (curly ∷ ks) space = refl
loop_after (curly ∷ ks) tab = refl
loop_after (curly ∷ ks) feed = refl
loop_after (curly ∷ ks) return = refl

pub loop_name : (ks : List Bracket) → Loops (at name ks)
unfolding step pick
loop_name ks space = refl
loop_name ks tab = refl
loop_name ks feed = refl
loop_name ks return = refl

pub loop_first_name : (ks : List Bracket) → Loops (at first_name ks)
unfolding step pick
loop_first_name ks space = refl
loop_first_name ks tab = refl
loop_first_name ks feed = refl
loop_first_name ks return = refl

pub loop_colon : (ks : List Bracket) → Loops (at colon ks)
unfolding step pick
loop_colon ks space = refl
loop_colon ks tab = refl
loop_colon ks feed = refl
loop_colon ks return = refl
