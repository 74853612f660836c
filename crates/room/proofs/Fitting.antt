-- Of the bytes of names there are at most as many as bytes of text, and one more within a name: along the automaton's steps, by what is owed at each place.
--     Owing           so it is after k bytes
--     owing_moved     and after one more
-- Assumes nothing.
use mathlib.Core.Bool.{Bool, true, false, cond, ◌&&◌, not}
use mathlib.Core.List.{List, [], ◌∷◌, ◌++◌}
use mathlib.Core.Logic.{◌≢◌, ◌⊎◌, inl, inr, ⊎_elim}
use mathlib.Core.Option.{Option, none, some}
use mathlib.Core.Path.{◌≡◌, refl, sym, ◌∙◌}
use Prim.Native.Nat.{ℕ, suc, ◌+◌, ◌-◌, ◌≤◌, ◌<◌}
use native.Mathlib.Omega.{arith}
use borrow.Author.Tests.{leb-true, eqb-true, eqb-false}
use lib.Dec.{eqb, leb, ltb}
use lib.ListN.{length, get_or, length-append}
use Rattle.laws.proofs.Tests.{le_or_lt}
use Rattle.jsontext.specs.Utf8.{encode}
use Rattle.jsontext.specs.Value.{is_high, joined}
use Rattle.jsontext.specs.Automaton.{Bracket, square, curly, as_value, as_name, one, two, three, after_e0, after_ed, after_f0, after_f4, hex1, hex2, hex3, hex4, n1, n2, n3, t1, t2, t3, f1, f2, f3, f4, Place, ahead, first_element, after, name, first_name, colon, word, minus, nought, whole, point, part, letter, sign, power, text, escape, unit, char, Move, only, ends, characters, moves, pick, innermost}
use Rattle.jsontext.proofs.Moves.{miss}
use Rattle.escapes.proofs.Escaped.{size_is}
use Rattle.tally.proofs.Bounded.{size_low}
use Rattle.naming.specs.Gathering.{Gather, starts, says, tag_of, opens_name, shuts_name, unit_is, waits_for, short_at, digit_of, low_ahead, escaped, names, gather}
use Rattle.room.proofs.Taken.{every, of_every, Took, next, next_at}

-- ---- what is owed

-- how many more bytes were read than were gathered, and one
abbrev owed : Place → ℕ
owed ahead = 1
owed first_element = 1
owed after = 1
owed name = 1
owed first_name = 1
owed colon = 1
owed (word w) = 1
owed minus = 1
owed nought = 1
owed whole = 1
owed point = 1
owed part = 1
owed letter = 1
owed sign = 1
owed power = 1
owed (text as_value) = 1
owed (escape as_value) = 1
owed (unit h as_value) = 1
owed (char c as_value) = 1
owed (text as_name) = 0
owed (escape as_name) = 0
owed (char c as_name) = 0
owed (unit hex4 as_name) = 0
owed (unit hex3 as_name) = 1
owed (unit hex2 as_name) = 2
owed (unit hex1 as_name) = 3

-- the most that is owed behind a place and a byte
abbrev most : Place → ℕ → ℕ
most ahead b = 1
most first_element b = 1
most after b = 1
most name b = cond (eqb b 0x22) 0 1
most first_name b = cond (eqb b 0x22) 0 1
most colon b = 1
most (word w) b = 1
most minus b = 1
most nought b = 1
most whole b = 1
most point b = 1
most part b = 1
most letter b = 1
most sign b = 1
most power b = 1
most (text as_value) b = 1
most (escape as_value) b = 1
most (unit h as_value) b = 1
most (char c as_value) b = 1
most (text as_name) b = cond (eqb b 0x22) 1 0
most (escape as_name) b = 0
most (char c as_name) b = 0
most (unit hex4 as_name) b = 1
most (unit hex3 as_name) b = 2
most (unit hex2 as_name) b = 3
most (unit hex1 as_name) b = 0

abbrev low : ℕ → Place → Bool
low n p = leb (owed p) n

-- after a number or a value
ends_low : (o : Option Bracket) → every (λ m. low 1 m.place) (ends o) ≡ true
unfolding every
ends_low none = refl
ends_low (some square) = refl
ends_low (some curly) = refl

-- another byte than the quote that ends a string
beyond : (b : ℕ) → b ≢ 0x22 → (b < 0x22) ⊎ (0x22 < b)
beyond b n = ⊎_elim (λ (l : b ≤ 0x22). inl (omega arith)) (λ (l : 0x22 < b). inr l) (le_or_lt b 0x22)

module _ (ks : List Bracket) (b : ℕ) (p' : Place) where
  upto : (p : Place) (n : ℕ) → Took p ks b p' → every (λ m. low n m.place) (moves p (innermost ks)) ≡ true → owed p' ≤ n
  upto p n s e = leb-true (owed p') n (next p ks b p' s (low n) e)

  -- where a name starts
  opening : (p : Place) → Took p ks b p' → pick (moves p (innermost ks)) 0x22 ≡ some (only 0x22 (text as_name))
      → every (λ m. low 1 m.place) (moves p (innermost ks)) ≡ true → owed p' ≤ cond (eqb b 0x22) 0 1
  opening p s o e = go (eqb b 0x22) refl
    where
      go : (t : Bool) → eqb b 0x22 ≡ t → owed p' ≤ cond t 0 1
      go true h = rw (sym (next_at p ks b p' s 0x22 (only 0x22 (text as_name)) o (eqb-true b 0x22 h))) (omega arith)
      go false h = upto p 1 s e

  -- within one
  within : Took (text as_name) ks b p' → owed p' ≤ cond (eqb b 0x22) 1 0
  unfolding every
  within s = go (eqb b 0x22) refl
    where
      go : (t : Bool) → eqb b 0x22 ≡ t → owed p' ≤ cond t 1 0
      go true h = upto (text as_name) 1 s refl
      go false h =
          let ms : List Move = only 0x5C (escape as_name) ∷ characters as_name in
          let e : pick ms b ≡ some s.move = sym (miss (only 0x22 colon) ms b (beyond b (eqb-false b 0x22 h))) ∙ s.picked in
          let r = (of_every (λ m. low 0 m.place) ms b s.move refl e).0 in
          leb-true (owed p') 0 (rw s.place_is at r)

  behind : (p : Place) → Took p ks b p' → owed p' ≤ most p b
  unfolding every pick
  behind ahead s = upto ahead 1 s refl
  behind first_element s = upto first_element 1 s refl
  behind after s = upto after 1 s (ends_low (innermost ks))
  behind name s = opening name s refl refl
  behind first_name s = opening first_name s refl refl
  behind colon s = upto colon 1 s refl
  behind (word n1) s = upto (word n1) 1 s refl
  behind (word n2) s = upto (word n2) 1 s refl
  behind (word n3) s = upto (word n3) 1 s refl
  behind (word t1) s = upto (word t1) 1 s refl
  behind (word t2) s = upto (word t2) 1 s refl
  behind (word t3) s = upto (word t3) 1 s refl
  behind (word f1) s = upto (word f1) 1 s refl
  behind (word f2) s = upto (word f2) 1 s refl
  behind (word f3) s = upto (word f3) 1 s refl
  behind (word f4) s = upto (word f4) 1 s refl
  behind minus s = upto minus 1 s refl
  behind nought s = upto nought 1 s (ends_low (innermost ks))
  behind whole s = upto whole 1 s (ends_low (innermost ks))
  behind point s = upto point 1 s refl
  behind part s = upto part 1 s (ends_low (innermost ks))
  behind letter s = upto letter 1 s refl
  behind sign s = upto sign 1 s refl
  behind power s = upto power 1 s (ends_low (innermost ks))
  behind (text as_value) s = upto (text as_value) 1 s refl
  behind (text as_name) s = within s
  behind (escape as_value) s = upto (escape as_value) 1 s refl
  behind (escape as_name) s = upto (escape as_name) 0 s refl
  behind (unit hex1 as_value) s = upto (unit hex1 as_value) 1 s refl
  behind (unit hex1 as_name) s = upto (unit hex1 as_name) 0 s refl
  behind (unit hex2 as_value) s = upto (unit hex2 as_value) 1 s refl
  behind (unit hex2 as_name) s = upto (unit hex2 as_name) 3 s refl
  behind (unit hex3 as_value) s = upto (unit hex3 as_value) 1 s refl
  behind (unit hex3 as_name) s = upto (unit hex3 as_name) 2 s refl
  behind (unit hex4 as_value) s = upto (unit hex4 as_value) 1 s refl
  behind (unit hex4 as_name) s = upto (unit hex4 as_name) 1 s refl
  behind (char one as_value) s = upto (char one as_value) 1 s refl
  behind (char one as_name) s = upto (char one as_name) 0 s refl
  behind (char two as_value) s = upto (char two as_value) 1 s refl
  behind (char two as_name) s = upto (char two as_name) 0 s refl
  behind (char three as_value) s = upto (char three as_value) 1 s refl
  behind (char three as_name) s = upto (char three as_name) 0 s refl
  behind (char after_e0 as_value) s = upto (char after_e0 as_value) 1 s refl
  behind (char after_e0 as_name) s = upto (char after_e0 as_name) 0 s refl
  behind (char after_ed as_value) s = upto (char after_ed as_value) 1 s refl
  behind (char after_ed as_name) s = upto (char after_ed as_name) 0 s refl
  behind (char after_f0 as_value) s = upto (char after_f0 as_value) 1 s refl
  behind (char after_f0 as_name) s = upto (char after_f0 as_name) 0 s refl
  behind (char after_f4 as_value) s = upto (char after_f4 as_value) 1 s refl
  behind (char after_f4 as_name) s = upto (char after_f4 as_name) 0 s refl

-- ---- what a byte adds

module _ (limit : ℕ) (ks : List Bracket) (b : ℕ) (bs : List ℕ) (g : Gather) where
  abbrev size : Gather → ℕ
  size r = length r.text

  added : (on : Bool) (cs : List ℕ) (n : ℕ) → length cs ≤ n → length (g.text ++ cond on cs []) ≤ size g + n
  added true cs n h = omega (arith, length-append g.text cs)
  added false cs n h = omega (arith, length-append g.text [])

  said : (cs : List ℕ) (n : ℕ) → length cs ≤ n → size (says cs g) ≤ size g + n
  unfolding says
  said cs n h = added g.on cs n h

  started : size (starts ks b g) ≡ size g
  unfolding starts
  started = refl

  opened : (on : Bool) (o left : ℕ) → size (opens_name on o left g) ≤ size g + 2
  unfolding opens_name
  opened on o left = added on (tag_of o) 2 (omega arith)

  unit_same : (c : ℕ) → size (unit_is c g) ≡ size g
  unfolding unit_is
  unit_same c = refl

  char_most : (c : ℕ) → length (encode c []) ≤ 4
  char_most c = omega (arith, size_is c [], size_low c)

  starting : (t : Bool) → size (cond t (starts ks b g) g) + 1 ≤ size g + 2
  starting true = omega (arith, started)
  starting false = omega arith

  name_opens : size (names limit ks b bs g) + cond (eqb b 0x22) 0 1 ≤ size g + 2
  unfolding names
  name_opens = go (eqb b 0x22)
    where
      go : (t : Bool)
          → size (cond t (opens_name (ltb limit (length (b ∷ bs))) (get_or g.objects (length ks - 1) 0) (length (b ∷ bs)) g) g) + cond t 0 1 ≤ size g + 2
      go true = omega (arith, opened (ltb limit (length (b ∷ bs))) (get_or g.objects (length ks - 1) 0) (length (b ∷ bs)))
      go false = omega arith

  in_name : size (cond (eqb b 0x22) (shuts_name g) (cond (eqb b 0x5C) g (says (b ∷ []) g))) + cond (eqb b 0x22) 1 0 ≤ size g + 1
  unfolding shuts_name
  in_name = go (eqb b 0x22) (eqb b 0x5C)
    where
      go : (t u : Bool) → size (cond t (shuts_name g) (cond u g (says (b ∷ []) g))) + cond t 1 0 ≤ size g + 1
      go true u = omega arith
      go false true = omega arith
      go false false = omega (arith, said (b ∷ []) 1 (omega arith))

  in_escape : size (cond (eqb b 0x75) (unit_is 0 g) (says (short_at b ∷ []) g)) + 0 ≤ size g + 1
  in_escape = go (eqb b 0x75)
    where
      go : (t : Bool) → size (cond t (unit_is 0 g) (says (short_at b ∷ []) g)) + 0 ≤ size g + 1
      go true = omega (arith, unit_same 0)
      go false = omega (arith, said (short_at b ∷ []) 1 (omega arith))

  last_digit : (c : ℕ) → size (escaped c bs g) + 0 ≤ size g + 4
  unfolding escaped waits_for
  last_digit c = go (is_high c && low_ahead bs)
    where
      go : (t : Bool) → size (cond t (waits_for c g) (says (encode (joined g.waits c) []) g)) + 0 ≤ size g + 4
      go true = omega arith
      go false = omega (arith, said (encode (joined g.waits c) []) 4 (char_most (joined g.waits c)))

  grown : (p : Place) → size (gather limit p ks b bs g) + most p b ≤ size g + owed p + 1
  grown ahead = omega (arith, starting (ltb 0x20 b))
  grown first_element = omega (arith, starting (ltb 0x20 b && not (eqb b 0x5D)))
  grown after = omega arith
  grown name = omega (arith, name_opens)
  grown first_name = omega (arith, name_opens)
  grown colon = omega arith
  grown (word w) = omega arith
  grown minus = omega arith
  grown nought = omega arith
  grown whole = omega arith
  grown point = omega arith
  grown part = omega arith
  grown letter = omega arith
  grown sign = omega arith
  grown power = omega arith
  grown (text as_value) = omega arith
  grown (text as_name) = omega (arith, in_name)
  grown (escape as_value) = omega arith
  grown (escape as_name) = omega (arith, in_escape)
  grown (unit h as_value) = omega arith
  grown (unit hex1 as_name) = omega (arith, last_digit (digit_of g.unit b))
  grown (unit hex2 as_name) = omega (arith, unit_same (digit_of g.unit b))
  grown (unit hex3 as_name) = omega (arith, unit_same (digit_of g.unit b))
  grown (unit hex4 as_name) = omega (arith, unit_same (digit_of g.unit b))
  grown (char c as_value) = omega arith
  grown (char c as_name) = omega (arith, said (b ∷ []) 1 (omega arith))

-- ---- after k bytes

abbrev pub Owing : ℕ → Place → Gather → Type 0
Owing k p g = length g.text + owed p ≤ k + 1

pub owing_moved : (limit k : ℕ) (p : Place) (ks : List Bracket) (b : ℕ) (bs : List ℕ) (p' : Place) (g : Gather) → Took p ks b p' → Owing k p g
    → Owing (suc k) p' (gather limit p ks b bs g)
owing_moved limit k p ks b bs p' g s h = omega (arith, behind ks b p' p s, grown limit ks b bs g p)
