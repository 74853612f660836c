-- What no byte moves, no part of a tree moves.
--     digits_still, whole_still, ending_still, pieces_still, string_still, value_still, elements_still, members_still
-- Assumes nothing.
use mathlib.Core.Bool.{Bool, true, false}
use mathlib.Core.List.{List, [], ◌∷◌, ◌++◌}
use mathlib.Core.Option.{none, some}
use mathlib.Core.Path.{◌≡◌, refl, ◌∙◌, ap}
use Prim.Native.Nat.{ℕ}
use Rattle.jsontext.specs.Utf8.{encode}
use Rattle.jsontext.specs.Text as T
use Rattle.jsontext.specs.Text.{spaces, Digit, digit, digits, Digits, digits1, Whole, from, Fraction, fraction, letter_e, Sign, unsigned, plus, signed, Exponent, exponent, Number, short, hex, plain, Str, pieces, Value, null, truth, falsity, num, str, empty_array, array, empty_object, object, Elements, last, more, Members, last_m, more_m, value, elements, members}
use Rattle.jsontext.specs.Automaton.{Bracket, square, curly, Role, as_value, as_name, one, hex1, hex2, hex3, hex4, Place, ahead, after, name, minus, whole, point, part, letter, sign, power, text, escape, unit, char}
use Rattle.jsontext.specs.Along.{Act}
use Rattle.jsontext.proofs.Doing.{digits_do, digits1_do, whole_does, whole_end, fraction_does, fraction_end, signed_does, exponent_does, minus_does, tail_does, number_does, tails_do, char_does, pieces_do, string_does, value_does, elements_do, members_do}

module _ {S : Type 0} (act : Act S) (finish : List Bracket → S → S) (s : S)
    (unmoved : (p : Place) (ks : List Bracket) (b : ℕ) (bs : List ℕ) → act p ks b bs s ≡ s)
    (kept : (ks : List Bracket) → finish ks s ≡ s) where
  pub digits_still : (p : Place) (ks : List Bracket) (ds : List Digit) (rest : List ℕ) → digits_do act finish p ks ds rest s ≡ s
  unfolding digits_do
  digits_still p ks [] rest = refl
  digits_still p ks (d ∷ ds) rest = ap (digits_do act finish p ks ds rest) (unmoved p ks (digit d) (digits ds rest)) ∙ digits_still p ks ds rest

  digits1_still : (p q : Place) (ks : List Bracket) (ds : Digits) (rest : List ℕ) → digits1_do act finish p q ks ds rest s ≡ s
  digits1_still p q ks ds rest =
      ap (digits_do act finish q ks ds.others rest) (unmoved p ks (digit ds.first) (digits ds.others rest)) ∙ digits_still q ks ds.others rest

  pub whole_still : (p : Place) (ks : List Bracket) (i : Whole) (rest : List ℕ) → whole_does act finish p ks i rest s ≡ s
  whole_still p ks T.nought rest = unmoved p ks 0x30 rest
  whole_still p ks (from d q ds) rest = ap (digits_do act finish whole ks ds rest) (unmoved p ks (digit d) (digits ds rest)) ∙ digits_still whole ks ds rest

  fraction_still : (p : Place) (ks : List Bracket) (g : Fraction) (rest : List ℕ) → fraction_does act finish p ks g rest s ≡ s
  fraction_still p ks none rest = refl
  fraction_still p ks (some ds) rest = ap (digits1_do act finish point part ks ds rest) (unmoved p ks 0x2E (digits1 ds rest)) ∙ digits1_still point part ks ds rest

  signed_still : (ks : List Bracket) (x : Sign) (ds : Digits) (rest : List ℕ) → signed_does act finish ks x ds rest s ≡ s
  signed_still ks unsigned ds rest = digits1_still letter power ks ds rest
  signed_still ks plus ds rest = ap (digits1_do act finish sign power ks ds rest) (unmoved letter ks 0x2B (digits1 ds rest)) ∙ digits1_still sign power ks ds rest
  signed_still ks T.minus ds rest = ap (digits1_do act finish sign power ks ds rest) (unmoved letter ks 0x2D (digits1 ds rest)) ∙ digits1_still sign power ks ds rest

  exponent_still : (p : Place) (ks : List Bracket) (x : Exponent) (rest : List ℕ) → exponent_does act finish p ks x rest s ≡ s
  exponent_still p ks none rest = refl
  exponent_still p ks (some e) rest =
      ap (signed_does act finish ks e.sign e.places rest) (unmoved p ks (letter_e e.letter) (signed e.sign (digits1 e.places rest)))
      ∙ signed_still ks e.sign e.places rest

  tail_still : (p : Place) (ks : List Bracket) (g : Fraction) (x : Exponent) (rest : List ℕ) → tail_does act finish p ks g x rest s ≡ s
  tail_still p ks g x rest =
      ap (exponent_does act finish (fraction_end act finish p g) ks x rest) (fraction_still p ks g (exponent x rest))
      ∙ exponent_still (fraction_end act finish p g) ks x rest

  -- the rest of a number whose first byte was read
  pub ending_still : (p : Place) (ks : List Bracket) (g : Fraction) (x : Exponent) (rest : List ℕ) → finish ks (tail_does act finish p ks g x rest s) ≡ s
  ending_still p ks g x rest = ap (finish ks) (tail_still p ks g x rest) ∙ kept ks

  number_still : (ks : List Bracket) (n : Number) (rest : List ℕ) → number_does act finish ks n rest s ≡ s
  unfolding number_does
  number_still ks n rest =
      let end : List ℕ = fraction n.part (exponent n.power rest) in
      ap (λ (z : S). finish ks (tail_does act finish (whole_end act finish n.integer) ks n.part n.power rest z)) (go n.negative n.integer end)
      ∙ ending_still (whole_end act finish n.integer) ks n.part n.power rest
    where
      go : (m : Bool) (i : Whole) (end : List ℕ) → minus_does act finish m ks i end s ≡ s
      go true i end = ap (whole_does act finish minus ks i end) (unmoved ahead ks 0x2D (T.whole i end)) ∙ whole_still minus ks i end
      go false i end = whole_still ahead ks i end

  tails_still : (r : Role) (ks : List Bracket) (bs rest : List ℕ) → tails_do act finish r ks bs rest s ≡ s
  unfolding tails_do
  tails_still r ks [] rest = refl
  tails_still r ks (b ∷ bs) rest = ap (tails_do act finish r ks bs rest) (unmoved (char one r) ks b (bs ++ rest)) ∙ tails_still r ks bs rest

  char_still : (r : Role) (ks : List Bracket) (bs rest : List ℕ) → char_does act finish r ks bs rest s ≡ s
  char_still r ks [] rest = refl
  char_still r ks (b ∷ bs) rest = ap (tails_do act finish r ks bs rest) (unmoved (text r) ks b (bs ++ rest)) ∙ tails_still r ks bs rest

  pub pieces_still : (r : Role) (ks : List Bracket) (ps : Str) (rest : List ℕ) → pieces_do act finish r ks ps rest s ≡ s
  unfolding pieces_do
  pieces_still r ks [] rest = refl
  pieces_still r ks (plain c p ∷ ps) rest = ap (pieces_do act finish r ks ps rest) (char_still r ks (encode c []) (pieces ps rest)) ∙ pieces_still r ks ps rest
  pieces_still r ks (T.escape m ∷ ps) rest =
      let z : List ℕ = pieces ps rest in
      rw (unmoved (text r) ks 0x5C (short m ∷ z), unmoved (escape r) ks (short m) z) (pieces_still r ks ps rest)
  pieces_still r ks (T.unit h i j k ∷ ps) rest =
      let z : List ℕ = pieces ps rest in
      rw (
        unmoved (text r) ks 0x5C (0x75 ∷ hex h ∷ hex i ∷ hex j ∷ hex k ∷ z),
        unmoved (escape r) ks 0x75 (hex h ∷ hex i ∷ hex j ∷ hex k ∷ z),
        unmoved (unit hex4 r) ks (hex h) (hex i ∷ hex j ∷ hex k ∷ z),
        unmoved (unit hex3 r) ks (hex i) (hex j ∷ hex k ∷ z),
        unmoved (unit hex2 r) ks (hex j) (hex k ∷ z),
        unmoved (unit hex1 r) ks (hex k) z,
      )
      (pieces_still r ks ps rest)

  pub string_still : (r : Role) (ks : List Bracket) (x : Str) (rest : List ℕ) → string_does act finish r ks x rest s ≡ s
  string_still r ks x rest = ap (act (text r) ks 0x22 rest) (pieces_still r ks x (0x22 ∷ rest)) ∙ unmoved (text r) ks 0x22 rest

  mutual
    unfolding value_does

    pub value_still : (v : Value) (ks : List Bracket) (rest : List ℕ) → value_does act finish ks v rest s ≡ s
    value_still null ks rest = unmoved ahead ks 0x6E (0x75 ∷ 0x6C ∷ 0x6C ∷ rest)
    value_still truth ks rest = unmoved ahead ks 0x74 (0x72 ∷ 0x75 ∷ 0x65 ∷ rest)
    value_still falsity ks rest = unmoved ahead ks 0x66 (0x61 ∷ 0x6C ∷ 0x73 ∷ 0x65 ∷ rest)
    value_still (num n) ks rest = number_still ks n rest
    value_still (str x) ks rest = ap (string_does act finish as_value ks x rest) (unmoved ahead ks 0x22 (pieces x (0x22 ∷ rest))) ∙ string_still as_value ks x rest
    value_still (empty_array w) ks rest = ap (act after (square ∷ ks) 0x5D rest) (unmoved ahead ks 0x5B (spaces w (0x5D ∷ rest))) ∙ unmoved after (square ∷ ks) 0x5D rest
    value_still (array w vs) ks rest =
        ap (λ (z : S). act after (square ∷ ks) 0x5D rest (elements_do act finish (square ∷ ks) vs (0x5D ∷ rest) z)) (unmoved ahead ks 0x5B (spaces w (elements vs (0x5D ∷ rest))))
        ∙ ap (act after (square ∷ ks) 0x5D rest) (elements_still vs (square ∷ ks) (0x5D ∷ rest))
        ∙ unmoved after (square ∷ ks) 0x5D rest
    value_still (empty_object w) ks rest = ap (act after (curly ∷ ks) 0x7D rest) (unmoved ahead ks 0x7B (spaces w (0x7D ∷ rest))) ∙ unmoved after (curly ∷ ks) 0x7D rest
    value_still (object w ms) ks rest =
        ap (λ (z : S). act after (curly ∷ ks) 0x7D rest (members_do act finish (curly ∷ ks) ms (0x7D ∷ rest) z)) (unmoved ahead ks 0x7B (spaces w (members ms (0x7D ∷ rest))))
        ∙ ap (act after (curly ∷ ks) 0x7D rest) (members_still ms (curly ∷ ks) (0x7D ∷ rest))
        ∙ unmoved after (curly ∷ ks) 0x7D rest

    pub elements_still : (vs : Elements) (ks : List Bracket) (rest : List ℕ) → elements_do act finish ks vs rest s ≡ s
    elements_still (last v w) ks rest = value_still v ks (spaces w rest)
    elements_still (more v w w' vs) ks rest =
        ap (elements_do act finish ks vs rest) (value_still v ks (spaces w (0x2C ∷ spaces w' (elements vs rest)))) ∙ elements_still vs ks rest

    pub members_still : (ms : Members) (ks : List Bracket) (rest : List ℕ) → members_do act finish ks ms rest s ≡ s
    members_still (last_m x w w' v w'') ks rest =
        let end : List ℕ = spaces w (0x3A ∷ spaces w' (value v (spaces w'' rest))) in
        ap (λ (z : S). value_does act finish ks v (spaces w'' rest) (string_does act finish as_name ks x end z)) (unmoved name ks 0x22 (pieces x (0x22 ∷ end)))
        ∙ ap (value_does act finish ks v (spaces w'' rest)) (string_still as_name ks x end)
        ∙ value_still v ks (spaces w'' rest)
    members_still (more_m x w w' v w'' w''' ms) ks rest =
        let next : List ℕ = spaces w'' (0x2C ∷ spaces w''' (members ms rest)) in
        let end : List ℕ = spaces w (0x3A ∷ spaces w' (value v next)) in
        ap (λ (z : S). members_do act finish ks ms rest (value_does act finish ks v next (string_does act finish as_name ks x end z))) (unmoved name ks 0x22 (pieces x (0x22 ∷ end)))
        ∙ ap (λ (z : S). members_do act finish ks ms rest (value_does act finish ks v next z)) (string_still as_name ks x end)
        ∙ ap (members_do act finish ks ms rest) (value_still v ks next)
        ∙ members_still ms ks rest
