-- Of names there are no more than values that have started, along the automaton's steps: three words of each name.
--     Behind           so it is
--     behind_moved     and after one more byte
-- Assumes nothing.
use mathlib.Core.Bool.{Bool, true, false, cond, ◌&&◌, ◌||◌, not}
use mathlib.Core.List.{List, [], ◌∷◌, ◌++◌}
use mathlib.Core.Logic.{⊎_elim}
use mathlib.Core.Path.{◌≡◌, refl, sym}
use Prim.Native.Nat.{ℕ, suc, ◌+◌, ◌-◌, ◌*◌, ◌≤◌}
use native.Mathlib.Omega.{arith}
use borrow.Author.Tests.{leb-true, eqb-true, ltb-true, ltb-false}
use lib.Dec.{eqb, leb, ltb}
use lib.ListN.{length, get_or, length-append}
use Rattle.laws.proofs.Tests.{either}
use Rattle.jsontext.specs.Utf8.{encode}
use Rattle.jsontext.specs.Value.{is_high, joined}
use Rattle.jsontext.specs.Automaton.{Bracket, as_value, as_name, hex1, hex2, hex3, hex4, Place, ahead, first_element, after, name, first_name, colon, word, minus, nought, whole, point, part, letter, sign, power, text, escape, unit, char, Move, only, moves, pick, innermost}
use Rattle.naming.specs.Gathering.{Gather, starts, says, opens_name, shuts_name, unit_is, waits_for, short_at, digit_of, low_ahead, escaped, names, gather}
use Rattle.room.proofs.Taken.{every, of_every, Took, next, next_at}

-- a value is yet to start for the last name
abbrev due : Place → ℕ
due ahead = 0
due colon = 0
due first_element = 1
due after = 1
due name = 1
due first_name = 1
due (word w) = 1
due minus = 1
due nought = 1
due whole = 1
due point = 1
due part = 1
due letter = 1
due sign = 1
due power = 1
due (text r) = 1
due (escape r) = 1
due (unit h r) = 1
due (char c r) = 1

due_most : (p : Place) → due p ≤ 1
due_most ahead = omega arith
due_most colon = omega arith
due_most first_element = omega arith
due_most after = omega arith
due_most name = omega arith
due_most first_name = omega arith
due_most (word w) = omega arith
due_most minus = omega arith
due_most nought = omega arith
due_most whole = omega arith
due_most point = omega arith
due_most part = omega arith
due_most letter = omega arith
due_most sign = omega arith
due_most power = omega arith
due_most (text r) = omega arith
due_most (escape r) = omega arith
due_most (unit h r) = omega arith
due_most (char c r) = omega arith

abbrev pub Behind : Place → Gather → Type 0
Behind p g = length g.words + 3 * due p ≤ 3 * g.values

module _ (limit : ℕ) (ks : List Bracket) (b : ℕ) (bs : List ℕ) (p' : Place) (g : Gather) where
  -- neither names nor values are more
  abbrev Same : Gather → Type 0
  Same r = (length r.words ≡ length g.words) × (r.values ≡ g.values)

  either_same : (t : Bool) (x y : Gather) → Same x → Same y → Same (cond t x y)
  either_same true x y p q = p
  either_same false x y p q = q

  said : (cs : List ℕ) → Same (says cs g)
  unfolding says
  said cs = (refl, refl)

  unit_same : (c : ℕ) → Same (unit_is c g)
  unfolding unit_is
  unit_same c = (refl, refl)

  opened : Same (names limit ks b bs g)
  unfolding names opens_name
  opened = either_same (eqb b 0x22) (opens_name (ltb limit (length (b ∷ bs))) (get_or g.objects (length ks - 1) 0) (length (b ∷ bs)) g) g (refl, refl) (refl, refl)

  last_digit : (c : ℕ) → Same (escaped c bs g)
  unfolding escaped waits_for
  last_digit c =
      either_same (is_high c && low_ahead bs) (waits_for c g) (says (encode (joined g.waits c) []) g) (refl, refl) (said (encode (joined g.waits c) []))

  in_escape : Same (cond (eqb b 0x75) (unit_is 0 g) (says (short_at b ∷ []) g))
  in_escape = either_same (eqb b 0x75) (unit_is 0 g) (says (short_at b ∷ []) g) (unit_same 0) (said (short_at b ∷ []))

  -- one value more
  abbrev More : Gather → Type 0
  More r = (length r.words ≡ length g.words) × (r.values ≡ suc g.values)

  started : More (starts ks b g)
  unfolding starts
  started = (refl, refl)

  -- ---- what comes behind

  still : (p : Place) (r : Gather) → due p ≡ 1 → Same r → Behind p g → Behind p' r
  still p r e s h = omega (arith, s.0, s.1, due_most p')

  -- where a value is to come
  value_ahead : Took ahead ks b p' → Behind ahead g → Behind p' (cond (ltb 0x20 b) (starts ks b g) g)
  unfolding every
  value_ahead s h = go (ltb 0x20 b) refl
    where
      test : Move → Bool
      test m = leb (due m.place) 0 || ltb 0x20 m.low

      go : (t : Bool) → ltb 0x20 b ≡ t → Behind p' (cond t (starts ks b g) g)
      go true e = omega (arith, started.0, started.1, due_most p')
      go false e =
          let r = of_every test (moves ahead (innermost ks)) b s.move refl s.picked in
          ⊎_elim
          (λ (l : leb (due s.move.place) 0 ≡ true). omega (arith, leb-true (due p') 0 (rw s.place_is at l)))
          (λ (l : ltb 0x20 s.move.low ≡ true). absurd (omega (arith, ltb-true 0x20 s.move.low l, ltb-false 0x20 b e, r.1)))
          (either (leb (due s.move.place) 0) (ltb 0x20 s.move.low) r.0)

  first_value : (t : Bool) → Behind first_element g → Behind p' (cond t (starts ks b g) g)
  first_value true h = omega (arith, started.0, started.1, due_most p')
  first_value false h = omega (arith, due_most p')

  -- within a name, which may end here
  in_name : Took (text as_name) ks b p' → Behind (text as_name) g → Behind p' (cond (eqb b 0x22) (shuts_name g) (cond (eqb b 0x5C) g (says (b ∷ []) g)))
  unfolding shuts_name pick
  in_name s h = go (eqb b 0x22) refl
    where
      shut : (on : Bool) (x y z : ℕ) → length (g.words ++ cond on (x ∷ y ∷ z ∷ []) []) ≤ length g.words + 3
      shut true x y z = omega (arith, length-append g.words (x ∷ y ∷ z ∷ []))
      shut false x y z = omega (arith, length-append g.words [])

      go : (t : Bool) → eqb b 0x22 ≡ t → Behind p' (cond t (shuts_name g) (cond (eqb b 0x5C) g (says (b ∷ []) g)))
      go true e =
          rw (sym (next_at (text as_name) ks b p' s 0x22 (only 0x22 colon) refl (eqb-true b 0x22 e)))
          (omega (arith, shut g.on g.begun (length g.text - g.begun) g.left))
      go false e =
          still (text as_name) (cond (eqb b 0x5C) g (says (b ∷ []) g)) refl (either_same (eqb b 0x5C) g (says (b ∷ []) g) (refl, refl) (said (b ∷ []))) h

  pub behind_moved : (p : Place) → Took p ks b p' → Behind p g → Behind p' (gather limit p ks b bs g)
  unfolding every
  behind_moved ahead s h = value_ahead s h
  behind_moved first_element s h = first_value (ltb 0x20 b && not (eqb b 0x5D)) h
  behind_moved after s h = still after g refl (refl, refl) h
  behind_moved name s h = still name (names limit ks b bs g) refl opened h
  behind_moved first_name s h = still first_name (names limit ks b bs g) refl opened h
  behind_moved colon s h = omega (arith, leb-true (due p') 0 (next colon ks b p' s (λ p. leb (due p) 0) refl))
  behind_moved (word w) s h = still (word w) g refl (refl, refl) h
  behind_moved minus s h = still minus g refl (refl, refl) h
  behind_moved nought s h = still nought g refl (refl, refl) h
  behind_moved whole s h = still whole g refl (refl, refl) h
  behind_moved point s h = still point g refl (refl, refl) h
  behind_moved part s h = still part g refl (refl, refl) h
  behind_moved letter s h = still letter g refl (refl, refl) h
  behind_moved sign s h = still sign g refl (refl, refl) h
  behind_moved power s h = still power g refl (refl, refl) h
  behind_moved (text as_value) s h = still (text as_value) g refl (refl, refl) h
  behind_moved (text as_name) s h = in_name s h
  behind_moved (escape as_value) s h = still (escape as_value) g refl (refl, refl) h
  behind_moved (escape as_name) s h = still (escape as_name) (cond (eqb b 0x75) (unit_is 0 g) (says (short_at b ∷ []) g)) refl in_escape h
  behind_moved (unit i as_value) s h = still (unit i as_value) g refl (refl, refl) h
  behind_moved (unit hex1 as_name) s h = still (unit hex1 as_name) (escaped (digit_of g.unit b) bs g) refl (last_digit (digit_of g.unit b)) h
  behind_moved (unit hex2 as_name) s h = still (unit hex2 as_name) (unit_is (digit_of g.unit b) g) refl (unit_same (digit_of g.unit b)) h
  behind_moved (unit hex3 as_name) s h = still (unit hex3 as_name) (unit_is (digit_of g.unit b) g) refl (unit_same (digit_of g.unit b)) h
  behind_moved (unit hex4 as_name) s h = still (unit hex4 as_name) (unit_is (digit_of g.unit b) g) refl (unit_same (digit_of g.unit b)) h
  behind_moved (char c as_value) s h = still (char c as_value) g refl (refl, refl) h
  behind_moved (char c as_name) s h = still (char c as_name) (says (b ∷ []) g) refl (said (b ∷ [])) h
