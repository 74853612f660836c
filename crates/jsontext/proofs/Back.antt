-- One byte back: if b goes from a state to one in which bs may follow, then b and bs may follow in it.
--     back        for every place
-- Assumes nothing.
use mathlib.Core.Bool.{true, false}
use mathlib.Core.List.{List, [], ◌∷◌}
use mathlib.Core.Logic.{◌⊎◌, inl, inr}
use mathlib.Core.Option.{none, some}
use mathlib.Core.Path.{◌≡◌, refl, ◌∙◌, ap}
use Prim.Native.Nat.{ℕ}
use native.Mathlib.Omega.{arith}
use Rattle.jsontext.specs.Text as T
use Rattle.jsontext.specs.Text.{Blank, space, tab, feed, return, blank, spaces, digits, from, unsigned, plus, capital, small, Exponent, exponent, Short, quote, backslash, slash, backspace, form_feed, line_feed, carriage_return, tabulator, short, pieces, null, truth, falsity, num, str, empty_array, array, empty_object, object, value}
use Rattle.jsontext.specs.Automaton.{Bracket, square, curly, Role, as_value, as_name, Char, one, two, three, after_e0, after_ed, after_f0, after_f4, Word, n1, n2, n3, t1, t2, t3, f1, f2, f3, f4, Left, hex1, hex2, hex3, hex4, Place, ahead, first_element, after, name, first_name, colon, word, minus, nought, whole, point, part, letter, sign, power, text, escape, unit, char, at, Move, innermost, changed, range, only, shuts, blanks, starts, ends, exponents, characters, moves}
use Rattle.jsontext.proofs.Moves.{Fits}
use Rattle.jsontext.proofs.Rests.{After, all, shut_square, more_square, shut_curly, more_curly, Begun, Ahead, FirstElement, Name, FirstName, Colon, WordThen, MinusThen, NoughtThen, WholeThen, PointThen, PartThen, LetterThen, SignThen, PowerThen, Inside, Escape, Unit4, Char4, Rest}
use Rattle.jsontext.proofs.Characters.{cons, digit_of, first_digit_of, HexOf, hex_digit, hex_capital, hex_small, char_1, char_2, char_3, char_4}
use Rattle.jsontext.proofs.Joined.{elements_from, names_from, piece_more, char_more}

module _ (b : ℕ) (bs : List ℕ) where
  abbrev Fit : List Bracket → List Move → Type 0
  Fit ks ms = Fits ms b (λ m. Rest (at m.place (changed m.change ks)) bs)

  blank_or : (s : Place) (ks : List Bracket) (ms : List Move) → Fit ks (blanks s ms) → ((c : Blank) × (b ≡ blank c) × Rest (at s ks) bs) ⊎ Fit ks ms
  blank_or s ks ms (inl f) = inl (space, omega arith, f.2)
  blank_or s ks ms (inr (inl f)) = inl (tab, omega arith, f.2)
  blank_or s ks ms (inr (inr (inl f))) = inl (feed, omega arith, f.2)
  blank_or s ks ms (inr (inr (inr (inl f)))) = inl (return, omega arith, f.2)
  blank_or s ks ms (inr (inr (inr (inr f)))) = inr f

  -- ---- after a value

  after_blank : {ks : List Bracket} (c : Blank) → b ≡ blank c → After ks bs → After ks (b ∷ bs)
  unfolding spaces
  after_blank c p (all w e) = all (c ∷ w) (cons p e)
  after_blank c p (shut_square w e a) = shut_square (c ∷ w) (cons p e) a
  after_blank c p (more_square w w' vs e a) = more_square (c ∷ w) w' vs (cons p e) a
  after_blank c p (shut_curly w e a) = shut_curly (c ∷ w) (cons p e) a
  after_blank c p (more_curly w w' ms e a) = more_curly (c ∷ w) w' ms (cons p e) a

  after_more : {ks : List Bracket} → b ≡ 0x2C → Ahead (square ∷ ks) bs → After (square ∷ ks) (b ∷ bs)
  unfolding spaces
  after_more {ks} p (w, tl, e, (v, rest, f, a)) =
      let g = elements_from ks v tl rest f a in
      more_square [] w g.0 (cons p (e ∙ ap (spaces w) g.2)) g.3

  after_back : (ks : List Bracket) → Fit ks (ends (innermost ks)) → After ks (b ∷ bs)
  unfolding spaces
  after_back [] f = go (blank_or after [] [] f)
    where
      go : ((c : Blank) × (b ≡ blank c) × After [] bs) ⊎ ⊥ → After [] (b ∷ bs)
      go (inl g) = after_blank g.0 g.1 g.2
      go (inr g) = absurd g
  after_back (square ∷ ks) f = go (blank_or after (square ∷ ks) (only 0x2C ahead ∷ shuts 0x5D ∷ []) f)
    where
      go : ((c : Blank) × (b ≡ blank c) × After (square ∷ ks) bs) ⊎ Fit (square ∷ ks) (only 0x2C ahead ∷ shuts 0x5D ∷ [])
          → After (square ∷ ks) (b ∷ bs)
      go (inl g) = after_blank g.0 g.1 g.2
      go (inr (inl g)) = after_more (omega arith) g.2
      go (inr (inr (inl g))) = let p : b ≡ 0x5D = omega arith in shut_square [] (cons p refl) g.2
      go (inr (inr (inr x5))) = elim x5 [ ]
  after_back (curly ∷ ks) f = go (blank_or after (curly ∷ ks) (only 0x2C name ∷ shuts 0x7D ∷ []) f)
    where
      go : ((c : Blank) × (b ≡ blank c) × After (curly ∷ ks) bs) ⊎ Fit (curly ∷ ks) (only 0x2C name ∷ shuts 0x7D ∷ [])
          → After (curly ∷ ks) (b ∷ bs)
      go (inl g) = after_blank g.0 g.1 g.2
      go (inr (inl g)) =
          let p : b ≡ 0x2C = omega arith in
          let n = names_from ks bs g.2 in
          more_curly [] n.0 n.1 (cons p n.3) n.4
      go (inr (inr (inl g))) = let p : b ≡ 0x7D = omega arith in shut_curly [] (cons p refl) g.2
      go (inr (inr (inr x5))) = elim x5 [ ]

  -- ---- within a number

  abbrev Power : List Bracket → List ℕ → Type 0
  Power ks tl = (x : Exponent) × (rest : List ℕ) × (tl ≡ exponent x rest) × After ks rest

  letter_back : (ks : List Bracket) (ms : List Move) → (Fit ks ms → Power ks (b ∷ bs)) → Fit ks (exponents ms) → Power ks (b ∷ bs)
  letter_back ks ms k (inl (l, h, (s, ds, rest, e, a))) =
      (some (record { letter = capital; sign = s; places = ds }), rest, cons (omega arith) e, a)
  letter_back ks ms k (inr (inl (l, h, (s, ds, rest, e, a)))) =
      (some (record { letter = small; sign = s; places = ds }), rest, cons (omega arith) e, a)
  letter_back ks ms k (inr (inr f)) = k f

  no_letter : (ks : List Bracket) → Fit ks (ends (innermost ks)) → Power ks (b ∷ bs)
  no_letter ks f = (none, b ∷ bs, refl, after_back ks f)

  power_back : (ks : List Bracket) → Fit ks (moves power (innermost ks)) → PowerThen ks (b ∷ bs)
  unfolding digits
  power_back ks (inl (l, h, (ds, rest, e, a))) = let d = digit_of b l h in (d.0 ∷ ds, rest, cons d.1 e, a)
  power_back ks (inr f) = ([], b ∷ bs, refl, after_back ks f)

  sign_back : (ks : List Bracket) → Fit ks (moves sign (innermost ks)) → SignThen ks (b ∷ bs)
  sign_back ks (inl (l, h, (ds, rest, e, a))) = let d = digit_of b l h in (record { first = d.0; others = ds }, rest, cons d.1 e, a)
  sign_back ks (inr x') = elim x' [ ]

  exponent_back : (ks : List Bracket) → Fit ks (moves letter (innermost ks)) → LetterThen ks (b ∷ bs)
  exponent_back ks (inl (l, h, (ds, rest, e, a))) = (plus, ds, rest, cons (omega arith) e, a)
  exponent_back ks (inr (inl (l, h, (ds, rest, e, a)))) = (T.minus, ds, rest, cons (omega arith) e, a)
  exponent_back ks (inr (inr (inl (l, h, (ds, rest, e, a))))) =
      let d = digit_of b l h in (unsigned, record { first = d.0; others = ds }, rest, cons d.1 e, a)
  exponent_back ks (inr (inr (inr x3))) = elim x3 [ ]

  part_back : (ks : List Bracket) → Fit ks (moves part (innermost ks)) → PartThen ks (b ∷ bs)
  unfolding digits
  part_back ks (inl (l, h, (ds, x, rest, e, a))) = let d = digit_of b l h in (d.0 ∷ ds, x, rest, cons d.1 e, a)
  part_back ks (inr f) = let p = letter_back ks (ends (innermost ks)) (no_letter ks) f in ([], p.0, p.1, p.2, p.3)

  point_back : (ks : List Bracket) → Fit ks (moves point (innermost ks)) → PointThen ks (b ∷ bs)
  point_back ks (inl (l, h, (ds, x, rest, e, a))) = let d = digit_of b l h in (record { first = d.0; others = ds }, x, rest, cons d.1 e, a)
  point_back ks (inr x') = elim x' [ ]

  nought_back : (ks : List Bracket) → Fit ks (moves nought (innermost ks)) → NoughtThen ks (b ∷ bs)
  nought_back ks (inl (l, h, (ds, x, rest, e, a))) = (some ds, x, rest, cons (omega arith) e, a)
  nought_back ks (inr f) = let p = letter_back ks (ends (innermost ks)) (no_letter ks) f in (none, p.0, p.1, p.2, p.3)

  whole_back : (ks : List Bracket) → Fit ks (moves whole (innermost ks)) → WholeThen ks (b ∷ bs)
  unfolding digits
  whole_back ks (inl (l, h, (ds, f, x, rest, e, a))) = let d = digit_of b l h in (d.0 ∷ ds, f, x, rest, cons d.1 e, a)
  whole_back ks (inr g) = let p = nought_back ks g in ([], p.0, p.1, p.2, p.3, p.4)

  minus_back : (ks : List Bracket) → Fit ks (moves minus (innermost ks)) → MinusThen ks (b ∷ bs)
  minus_back ks (inl (l, h, (f, x, rest, e, a))) = (T.nought, f, x, rest, cons (omega arith) e, a)
  minus_back ks (inr (inl (l, h, (ds, f, x, rest, e, a)))) =
      let d = first_digit_of b l h in (from d.0 d.1 ds, f, x, rest, cons d.2 e, a)
  minus_back ks (inr (inr x'')) = elim x'' [ ]

  -- ---- within a string

  char_back : (c : Char) (r : Role) (ks : List Bracket) → Fit ks (moves (char c r) (innermost ks)) → Char4 c (Inside ks r) (b ∷ bs)
  char_back one r ks (inl (l, h, i)) = (b, bs, refl, l, h, i)
  char_back two r ks (inl (l, h, i)) = (b, bs, refl, l, h, i)
  char_back three r ks (inl (l, h, i)) = (b, bs, refl, l, h, i)
  char_back after_e0 r ks (inl (l, h, i)) = (b, bs, refl, l, h, i)
  char_back after_ed r ks (inl (l, h, i)) = (b, bs, refl, l, h, i)
  char_back after_f0 r ks (inl (l, h, i)) = (b, bs, refl, l, h, i)
  char_back after_f4 r ks (inl (l, h, i)) = (b, bs, refl, l, h, i)
  char_back one r ks (inr x'') = elim x'' [ ]
  char_back two r ks (inr x3) = elim x3 [ ]
  char_back three r ks (inr x4) = elim x4 [ ]
  char_back after_e0 r ks (inr x5) = elim x5 [ ]
  char_back after_ed r ks (inr x6) = elim x6 [ ]
  char_back after_f0 r ks (inr x7) = elim x7 [ ]
  char_back after_f4 r ks (inr x8) = elim x8 [ ]

  hex_of : (s : Place) (ks : List Bracket) → Fit ks (range 0x30 0x39 s ∷ range 0x41 0x46 s ∷ range 0x61 0x66 s ∷ []) → HexOf b × Rest (at s ks) bs
  hex_of s ks (inl (l, h, i)) = (hex_digit b l h, i)
  hex_of s ks (inr (inl (l, h, i))) = (hex_capital b l h, i)
  hex_of s ks (inr (inr (inl (l, h, i)))) = (hex_small b l h, i)
  hex_of s ks (inr (inr (inr x3))) = elim x3 [ ]

  unit_back : (l : Left) (r : Role) (ks : List Bracket) → Fit ks (moves (unit l r) (innermost ks)) → Unit4 l (Inside ks r) (b ∷ bs)
  unit_back hex1 r ks f = let g = hex_of (text r) ks f in (g.0.0, bs, cons g.0.1 refl, g.1)
  unit_back hex2 r ks f = let g = hex_of (unit hex1 r) ks f in (g.0.0, bs, cons g.0.1 refl, g.1)
  unit_back hex3 r ks f = let g = hex_of (unit hex2 r) ks f in (g.0.0, bs, cons g.0.1 refl, g.1)
  unit_back hex4 r ks f = let g = hex_of (unit hex3 r) ks f in (g.0.0, bs, cons g.0.1 refl, g.1)

  short_back : (r : Role) (ks : List Bracket) (m : Short) → b ≡ short m → Inside ks r bs → Escape ks r (b ∷ bs)
  short_back r ks m e i = (T.escape m, bs, cons refl (cons e refl), i)

  escape_back : (r : Role) (ks : List Bracket) → Fit ks (moves (escape r) (innermost ks)) → Escape ks r (b ∷ bs)
  escape_back r ks (inl (l, h, i)) = short_back r ks quote (omega arith) i
  escape_back r ks (inr (inl (l, h, i))) = short_back r ks backslash (omega arith) i
  escape_back r ks (inr (inr (inl (l, h, i)))) = short_back r ks slash (omega arith) i
  escape_back r ks (inr (inr (inr (inl (l, h, i))))) = short_back r ks backspace (omega arith) i
  escape_back r ks (inr (inr (inr (inr (inl (l, h, i)))))) = short_back r ks form_feed (omega arith) i
  escape_back r ks (inr (inr (inr (inr (inr (inl (l, h, i))))))) = short_back r ks line_feed (omega arith) i
  escape_back r ks (inr (inr (inr (inr (inr (inr (inl (l, h, i)))))))) = short_back r ks carriage_return (omega arith) i
  escape_back r ks (inr (inr (inr (inr (inr (inr (inr (inl (l, h, i))))))))) = short_back r ks tabulator (omega arith) i
  escape_back r ks (inr (inr (inr (inr (inr (inr (inr (inr (inl (l, h, (p, t, e, (q, u, f, (m, v, g, (n, x, k, i)))))))))))))) =
      let z : b ≡ 0x75 = omega arith in (T.unit p q m n, x, cc, i)
  escape_back r ks (inr (inr (inr (inr (inr (inr (inr (inr (inr x9))))))))) = elim x9 [ ]

  text_back : (r : Role) (ks : List Bracket) → Fit ks (characters r) → Inside ks r (b ∷ bs)
  text_back r ks (inl (l, h, i)) = char_more ks r (λ xs. b ∷ xs) (b ∷ bs) bs (char_1 b (omega arith) (omega arith) (λ e. omega arith) (λ e. omega arith)) refl i
  text_back r ks (inr (inl (l, h, i))) =
      char_more ks r (λ xs. b ∷ xs) (b ∷ bs) bs (char_1 b (omega arith) (omega arith) (λ e. omega arith) (λ e. omega arith)) refl i
  text_back r ks (inr (inr (inl (l, h, i)))) =
      char_more ks r (λ xs. b ∷ xs) (b ∷ bs) bs (char_1 b (omega arith) (omega arith) (λ e. omega arith) (λ e. omega arith)) refl i
  text_back r ks (inr (inr (inr (inl (l, h, (c, t, e, cl, ch, i)))))) =
      char_more ks r (λ xs. b ∷ c ∷ xs) (b ∷ bs) t (char_2 b c l h cl ch) (cons refl e) i
  text_back r ks (inr (inr (inr (inr (inl (l, h, (c, t, e, cl, ch, (d, u, f, dl, dh, i)))))))) =
      char_more ks r (λ xs. b ∷ c ∷ d ∷ xs) (b ∷ bs) u (char_3 b c d l (omega arith) (omega arith) ch dl dh (omega arith) (inl (omega arith))) (cc) i
  text_back r ks (inr (inr (inr (inr (inr (inl (l, h, (c, t, e, cl, ch, (d, u, f, dl, dh, i))))))))) =
      char_more ks r (λ xs. b ∷ c ∷ d ∷ xs) (b ∷ bs) u (char_3 b c d (omega arith) (omega arith) cl ch dl dh (omega arith) (inl (omega arith))) (cc) i
  text_back r ks (inr (inr (inr (inr (inr (inr (inl (l, h, (c, t, e, cl, ch, (d, u, f, dl, dh, i)))))))))) =
      char_more ks r (λ xs. b ∷ c ∷ d ∷ xs) (b ∷ bs) u (char_3 b c d (omega arith) (omega arith) cl (omega arith) dl dh (omega arith) (inl (omega arith))) (cc) i
  text_back r ks (inr (inr (inr (inr (inr (inr (inr (inl (l, h, (c, t, e, cl, ch, (d, u, f, dl, dh, i))))))))))) =
      char_more ks r (λ xs. b ∷ c ∷ d ∷ xs) (b ∷ bs) u (char_3 b c d (omega arith) (omega arith) cl ch dl dh (omega arith) (inr (omega arith, omega arith))) (cc) i
  text_back r ks (inr (inr (inr (inr (inr (inr (inr (inr (inl (l, h, (c, t, e, cl, ch, (d, u, f, dl, dh, (m, v, g, ml, mh, i))))))))))))) =
      char_more ks r (λ xs. b ∷ c ∷ d ∷ m ∷ xs) (b ∷ bs) v (char_4 b c d m l (omega arith) (omega arith) ch dl dh ml mh (omega arith) (omega arith)) (cc) i
  text_back r ks (inr (inr (inr (inr (inr (inr (inr (inr (inr (inl (l, h, (c, t, e, cl, ch, (d, u, f, dl, dh, (m, v, g, ml, mh, i)))))))))))))) =
      char_more ks r (λ xs. b ∷ c ∷ d ∷ m ∷ xs) (b ∷ bs) v (char_4 b c d m (omega arith) (omega arith) cl ch dl dh ml mh (omega arith) (omega arith)) (cc) i
  text_back r ks (inr (inr (inr (inr (inr (inr (inr (inr (inr (inr (inl (l, h, (c, t, e, cl, ch, (d, u, f, dl, dh, (m, v, g, ml, mh, i))))))))))))))) =
      char_more ks r (λ xs. b ∷ c ∷ d ∷ m ∷ xs) (b ∷ bs) v (char_4 b c d m (omega arith) h cl (omega arith) dl dh ml mh (omega arith) (omega arith)) (cc) i
  text_back r ks (inr (inr (inr (inr (inr (inr (inr (inr (inr (inr (inr x11))))))))))) = elim x11 [ ]

  inside_back : (r : Role) (ks : List Bracket) → Fit ks (moves (text r) (innermost ks)) → Inside ks r (b ∷ bs)
  unfolding pieces
  inside_back as_value ks (inl (l, h, a)) = let p : b ≡ 0x22 = omega arith in ([], bs, cons p refl, a)
  inside_back as_name ks (inl (l, h, a)) = let p : b ≡ 0x22 = omega arith in ([], bs, cons p refl, a)
  inside_back r ks (inr (inl (l, h, (p, tl, e, i)))) = let q : b ≡ 0x5C = omega arith in piece_more ks r p (b ∷ bs) tl (cons q refl ∙ e) i
  inside_back r ks (inr (inr f)) = text_back r ks f

  -- ---- the start of a value

  starts_back : (ks : List Bracket) → Fit ks starts → Begun ks (b ∷ bs)
  unfolding value
  starts_back ks (inl (l, h, (s, rest, e, a))) = (str s, rest, cons (omega arith) e, a)
  starts_back ks (inr (inl (l, h, inl (w, rest, e, a)))) = (empty_array w, rest, cons (omega arith) e, a)
  starts_back ks (inr (inl (l, h, inr (w, tl, e, (v, rest, f, a))))) =
      let vs = elements_from ks v tl rest f a in (array w vs.0, vs.1, cons (omega arith) (e ∙ ap (spaces w) vs.2), vs.3)
  starts_back ks (inr (inr (inl (l, h, inl (w, rest, e, a))))) = (empty_object w, rest, cons (omega arith) e, a)
  starts_back ks (inr (inr (inl (l, h, inr g)))) =
      let n = names_from ks bs g in (object n.0 n.1, n.2, cons (omega arith) n.3, n.4)
  starts_back ks (inr (inr (inr (inl (l, h, (i, f, x, rest, e, a)))))) =
      (num (record { negative = true; integer = i; part = f; power = x }), rest, cons (omega arith) e, a)
  starts_back ks (inr (inr (inr (inr (inl (l, h, (f, x, rest, e, a))))))) =
      (num (record { negative = false; integer = T.nought; part = f; power = x }), rest, cons (omega arith) e, a)
  starts_back ks (inr (inr (inr (inr (inr (inl (l, h, (ds, f, x, rest, e, a)))))))) =
      let d = first_digit_of b l h in (num (record { negative = false; integer = from d.0 d.1 ds; part = f; power = x }), rest, cons d.2 e, a)
  starts_back ks (inr (inr (inr (inr (inr (inr (inl (l, h, (rest, e, a))))))))) = (null, rest, cons (omega arith) e, a)
  starts_back ks (inr (inr (inr (inr (inr (inr (inr (inl (l, h, (rest, e, a)))))))))) = (truth, rest, cons (omega arith) e, a)
  starts_back ks (inr (inr (inr (inr (inr (inr (inr (inr (inl (l, h, (rest, e, a))))))))))) = (falsity, rest, cons (omega arith) e, a)
  starts_back ks (inr (inr (inr (inr (inr (inr (inr (inr (inr x9))))))))) = elim x9 [ ]

  ahead_back : (ks : List Bracket) → Fit ks (moves ahead (innermost ks)) → Ahead ks (b ∷ bs)
  unfolding spaces
  ahead_back ks f = go (blank_or ahead ks starts f)
    where
      go : ((c : Blank) × (b ≡ blank c) × Ahead ks bs) ⊎ Fit ks starts → Ahead ks (b ∷ bs)
      go (inl (c, p, (w, tl, e, g))) = (c ∷ w, tl, cons p e, g)
      go (inr g) = ([], b ∷ bs, refl, starts_back ks g)

  first_back : (ks : List Bracket) → Fit ks (moves first_element (innermost ks)) → FirstElement ks (b ∷ bs)
  unfolding spaces
  first_back ks f = go (blank_or first_element ks (shuts 0x5D ∷ starts) f)
    where
      go : ((c : Blank) × (b ≡ blank c) × FirstElement ks bs) ⊎ Fit ks (shuts 0x5D ∷ starts) → FirstElement ks (b ∷ bs)
      go (inl (c, p, inl (w, rest, e, a))) = inl (c ∷ w, rest, cons p e, a)
      go (inl (c, p, inr (w, tl, e, g))) = inr (c ∷ w, tl, cons p e, g)
      go (inr (inl (l, h, a))) = let p : b ≡ 0x5D = omega arith in inl ([], bs, cons p refl, a)
      go (inr (inr g)) = inr ([], b ∷ bs, refl, starts_back ks g)

  -- ---- names

  quoted : (ks : List Bracket) → b ≡ 0x22 → Inside ks as_name bs → Name ks (b ∷ bs)
  unfolding spaces
  quoted ks p (s, rest, e, c) = ([], s, rest, cons p e, c)

  name_back : (ks : List Bracket) → Fit ks (moves name (innermost ks)) → Name ks (b ∷ bs)
  unfolding spaces
  name_back ks f = go (blank_or name ks (only 0x22 (text as_name) ∷ []) f)
    where
      go : ((c : Blank) × (b ≡ blank c) × Name ks bs) ⊎ Fit ks (only 0x22 (text as_name) ∷ []) → Name ks (b ∷ bs)
      go (inl (c, p, (w, s, rest, e, k))) = (c ∷ w, s, rest, cons p e, k)
      go (inr (inl (l, h, i))) = quoted ks (omega arith) i
      go (inr (inr x'')) = elim x'' [ ]

  first_name_back : (ks : List Bracket) → Fit ks (moves first_name (innermost ks)) → FirstName ks (b ∷ bs)
  unfolding spaces
  first_name_back ks f = go (blank_or first_name ks (shuts 0x7D ∷ only 0x22 (text as_name) ∷ []) f)
    where
      go : ((c : Blank) × (b ≡ blank c) × FirstName ks bs) ⊎ Fit ks (shuts 0x7D ∷ only 0x22 (text as_name) ∷ []) → FirstName ks (b ∷ bs)
      go (inl (c, p, inl (w, rest, e, a))) = inl (c ∷ w, rest, cons p e, a)
      go (inl (c, p, inr (w, s, rest, e, k))) = inr (c ∷ w, s, rest, cons p e, k)
      go (inr (inl (l, h, a))) = let p : b ≡ 0x7D = omega arith in inl ([], bs, cons p refl, a)
      go (inr (inr (inl (l, h, i)))) = inr (quoted ks (omega arith) i)
      go (inr (inr (inr x3))) = elim x3 [ ]

  colon_back : (ks : List Bracket) → Fit ks (moves colon (innermost ks)) → Colon ks (b ∷ bs)
  unfolding spaces
  colon_back ks f = go (blank_or colon ks (only 0x3A ahead ∷ []) f)
    where
      go : ((c : Blank) × (b ≡ blank c) × Colon ks bs) ⊎ Fit ks (only 0x3A ahead ∷ []) → Colon ks (b ∷ bs)
      go (inl (c, p, (w, w', v, rest, e, a))) = (c ∷ w, w', v, rest, cons p e, a)
      go (inr (inl (l, h, (w, tl, e, (v, rest, g, a))))) =
          let p : b ≡ 0x3A = omega arith in ([], w, v, rest, cons p (e ∙ ap (spaces w) g), a)
      go (inr (inr x'')) = elim x'' [ ]

  word_back : (w : Word) (ks : List Bracket) → Fit ks (moves (word w) (innermost ks)) → WordThen ks w (b ∷ bs)
  word_back n1 ks (inl (l, h, (rest, e, a))) = (rest, cons (omega arith) e, a)
  word_back n2 ks (inl (l, h, (rest, e, a))) = (rest, cons (omega arith) e, a)
  word_back n3 ks (inl (l, h, a)) = (bs, cons (omega arith) refl, a)
  word_back t1 ks (inl (l, h, (rest, e, a))) = (rest, cons (omega arith) e, a)
  word_back t2 ks (inl (l, h, (rest, e, a))) = (rest, cons (omega arith) e, a)
  word_back t3 ks (inl (l, h, a)) = (bs, cons (omega arith) refl, a)
  word_back f1 ks (inl (l, h, (rest, e, a))) = (rest, cons (omega arith) e, a)
  word_back f2 ks (inl (l, h, (rest, e, a))) = (rest, cons (omega arith) e, a)
  word_back f3 ks (inl (l, h, (rest, e, a))) = (rest, cons (omega arith) e, a)
  word_back f4 ks (inl (l, h, a)) = (bs, cons (omega arith) refl, a)
  word_back n1 ks (inr x'') = elim x'' [ ]
  word_back n2 ks (inr x3) = elim x3 [ ]
  word_back n3 ks (inr x4) = elim x4 [ ]
  word_back t1 ks (inr x5) = elim x5 [ ]
  word_back t2 ks (inr x6) = elim x6 [ ]
  word_back t3 ks (inr x7) = elim x7 [ ]
  word_back f1 ks (inr x8) = elim x8 [ ]
  word_back f2 ks (inr x9) = elim x9 [ ]
  word_back f3 ks (inr x10) = elim x10 [ ]
  word_back f4 ks (inr x11) = elim x11 [ ]

  pub back : (p : Place) (ks : List Bracket) → Fit ks (moves p (innermost ks)) → Rest (at p ks) (b ∷ bs)
  back ahead ks f = ahead_back ks f
  back first_element ks f = first_back ks f
  back after ks f = after_back ks f
  back name ks f = name_back ks f
  back first_name ks f = first_name_back ks f
  back colon ks f = colon_back ks f
  back (word w) ks f = word_back w ks f
  back minus ks f = minus_back ks f
  back nought ks f = nought_back ks f
  back whole ks f = whole_back ks f
  back point ks f = point_back ks f
  back part ks f = part_back ks f
  back letter ks f = exponent_back ks f
  back sign ks f = sign_back ks f
  back power ks f = power_back ks f
  back (text r) ks f = inside_back r ks f
  back (escape r) ks f = escape_back r ks f
  back (unit l r) ks f = unit_back l r ks f
  back (char c r) ks f = char_back c r ks f
