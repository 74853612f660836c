-- What each part of a tree does to what is kept on the way (`specs/Along.antt`), for an act that keeps to the order of a text.
--     Orderly          the act does nothing between values, and ends a number where the number ends
--     number_does, string_does, value_does, elements_do, members_do
-- A function takes the brackets that are open around the part and the bytes behind it. Assumes nothing.
use mathlib.Core.Bool.{Bool, true, false}
use mathlib.Core.List.{List, [], ◌∷◌, ◌++◌}
use mathlib.Core.Logic.{◌≢◌}
use mathlib.Core.Option.{none, some}
use mathlib.Core.Path.{◌≡◌}
use Prim.Native.Nat.{ℕ}
use Rattle.jsontext.specs.Utf8.{encode}
use Rattle.jsontext.specs.Text as T
use Rattle.jsontext.specs.Text.{Blank, blank, spaces, Digit, digit, digits, Digits, digits1, Whole, from, Fraction, fraction, letter_e, Sign, unsigned, plus, signed, Exponent, exponent, Number, short, hex, plain, Str, pieces, Value, null, truth, falsity, num, str, empty_array, array, empty_object, object, Elements, last, more, Members, last_m, more_m, value, elements, members, Text}
use Rattle.jsontext.specs.Automaton.{Bracket, square, curly, Role, as_value, as_name, Char, one, hex1, hex2, hex3, hex4, Word, Place, ahead, first_element, after, name, first_name, colon, word, minus, nought, whole, point, part, letter, sign, power, text, escape, unit, char}
use Rattle.jsontext.specs.Along.{Act}
use Rattle.jsontext.proofs.Numbers.{Ending, Stops}

-- white space may stand at this place
pub data Waits : Place → Type 0 where
  waits_ahead : Waits ahead
  waits_first : Waits first_element
  waits_after : Waits after
  waits_name : Waits name
  waits_first_name : Waits first_name
  waits_colon : Waits colon

pub record Orderly {S : Type 0} (act : Act S) (finish : List Bracket → S → S) : Type 0 where
  -- nothing is done by white space, commas, colons, and the letters of a word but the first
  pub blanks : {p : Place} → Waits p → (ks : List Bracket) (c : Blank) (bs : List ℕ) (s : S) → act p ks (blank c) bs s ≡ s
  pub commas : (ks : List Bracket) (bs : List ℕ) (s : S) → act after ks 0x2C bs s ≡ s
  pub colons : (ks : List Bracket) (bs : List ℕ) (s : S) → act colon ks 0x3A bs s ≡ s
  pub words : (w : Word) (ks : List Bracket) (b : ℕ) (bs : List ℕ) (s : S) → act (word w) ks b bs s ≡ s
  -- a first element or name is as any other, and an empty array or object closes as any other
  pub firsts : (ks : List Bracket) (b : ℕ) (bs : List ℕ) (s : S) → b ≢ 0x5D → act first_element ks b bs s ≡ act ahead ks b bs s
  pub first_names : (ks : List Bracket) (bs : List ℕ) (s : S) → act first_name ks 0x22 bs s ≡ act name ks 0x22 bs s
  pub empty_arrays : (ks : List Bracket) (bs : List ℕ) (s : S) → act first_element ks 0x5D bs s ≡ act after ks 0x5D bs s
  pub empty_objects : (ks : List Bracket) (bs : List ℕ) (s : S) → act first_name ks 0x7D bs s ≡ act after ks 0x7D bs s
  -- all bytes of a character but the first are alike
  pub chars : (c : Char) (r : Role) (ks : List Bracket) (b : ℕ) (bs : List ℕ) (s : S) → act (char c r) ks b bs s ≡ act (char one r) ks b bs s
  -- a number ends with the byte behind it
  pub ends : {p : Place} → Stops p → (ks : List Bracket) (b : ℕ) (bs : List ℕ) (s : S) → Ending b → act p ks b bs s ≡ act after ks b bs (finish ks s)

module _ {S : Type 0} (act : Act S) (finish : List Bracket → S → S) where
  -- ---- numbers

  -- digits that are all read at one place
  unfoldable pub digits_do : Place → List Bracket → List Digit → List ℕ → S → S
  digits_do p ks [] rest s = s
  digits_do p ks (d ∷ ds) rest s = digits_do p ks ds rest (act p ks (digit d) (digits ds rest) s)

  -- the first digit is read at another place than the others
  abbrev pub digits1_do : Place → Place → List Bracket → Digits → List ℕ → S → S
  digits1_do p q ks ds rest s = digits_do q ks ds.others rest (act p ks (digit ds.first) (digits ds.others rest) s)

  abbrev pub whole_does : Place → List Bracket → Whole → List ℕ → S → S
  whole_does p ks T.nought rest s = act p ks 0x30 rest s
  whole_does p ks (from d q ds) rest s = digits_do whole ks ds rest (act p ks (digit d) (digits ds rest) s)

  -- where the whole part ends
  abbrev pub whole_end : Whole → Place
  whole_end T.nought = nought
  whole_end (from d q ds) = whole

  abbrev pub fraction_does : Place → List Bracket → Fraction → List ℕ → S → S
  fraction_does p ks none rest s = s
  fraction_does p ks (some ds) rest s = digits1_do point part ks ds rest (act p ks 0x2E (digits1 ds rest) s)

  abbrev pub fraction_end : Place → Fraction → Place
  fraction_end p none = p
  fraction_end p (some ds) = part

  abbrev pub signed_does : List Bracket → Sign → Digits → List ℕ → S → S
  signed_does ks unsigned ds rest s = digits1_do letter power ks ds rest s
  signed_does ks plus ds rest s = digits1_do sign power ks ds rest (act letter ks 0x2B (digits1 ds rest) s)
  signed_does ks T.minus ds rest s = digits1_do sign power ks ds rest (act letter ks 0x2D (digits1 ds rest) s)

  abbrev pub exponent_does : Place → List Bracket → Exponent → List ℕ → S → S
  exponent_does p ks none rest s = s
  exponent_does p ks (some e) rest s =
      signed_does ks e.sign e.places rest (act p ks (letter_e e.letter) (signed e.sign (digits1 e.places rest)) s)

  -- behind the whole part
  abbrev pub tail_does : Place → List Bracket → Fraction → Exponent → List ℕ → S → S
  tail_does p ks f x rest s = exponent_does (fraction_end p f) ks x rest (fraction_does p ks f (exponent x rest) s)

  abbrev pub minus_does : Bool → List Bracket → Whole → List ℕ → S → S
  minus_does true ks i rest s = whole_does minus ks i rest (act ahead ks 0x2D (T.whole i rest) s)
  minus_does false ks i rest s = whole_does ahead ks i rest s

  unfoldable pub number_does : List Bracket → Number → List ℕ → S → S
  number_does ks n rest s =
      let end = fraction n.part (exponent n.power rest) in
      finish ks (tail_does (whole_end n.integer) ks n.part n.power rest (minus_does n.negative ks n.integer end s))

  -- ---- strings

  -- the bytes of a character but the first
  unfoldable pub tails_do : Role → List Bracket → List ℕ → List ℕ → S → S
  tails_do r ks [] rest s = s
  tails_do r ks (b ∷ bs) rest s = tails_do r ks bs rest (act (char one r) ks b (bs ++ rest) s)

  abbrev pub char_does : Role → List Bracket → List ℕ → List ℕ → S → S
  char_does r ks [] rest s = s
  char_does r ks (b ∷ bs) rest s = tails_do r ks bs rest (act (text r) ks b (bs ++ rest) s)

  unfoldable pub pieces_do : Role → List Bracket → Str → List ℕ → S → S
  pieces_do r ks [] rest s = s
  pieces_do r ks (plain c p ∷ ps) rest s = pieces_do r ks ps rest (char_does r ks (encode c []) (pieces ps rest) s)
  pieces_do r ks (T.escape m ∷ ps) rest s =
      pieces_do r ks ps rest (act (escape r) ks (short m) (pieces ps rest) (act (text r) ks 0x5C (short m ∷ pieces ps rest) s))
  pieces_do r ks (T.unit h i j k ∷ ps) rest s =
      let z = pieces ps rest in
      pieces_do r ks ps rest
      (act (unit hex1 r) ks (hex k) z
      (act (unit hex2 r) ks (hex j) (hex k ∷ z)
      (act (unit hex3 r) ks (hex i) (hex j ∷ hex k ∷ z)
      (act (unit hex4 r) ks (hex h) (hex i ∷ hex j ∷ hex k ∷ z)
      (act (escape r) ks 0x75 (hex h ∷ hex i ∷ hex j ∷ hex k ∷ z)
      (act (text r) ks 0x5C (0x75 ∷ hex h ∷ hex i ∷ hex j ∷ hex k ∷ z) s))))))

  -- behind the opening quote, with the closing one
  abbrev pub string_does : Role → List Bracket → Str → List ℕ → S → S
  string_does r ks x rest s = act (text r) ks 0x22 rest (pieces_do r ks x (0x22 ∷ rest) s)

  -- ---- values

  unfoldable mutual
    pub value_does : List Bracket → Value → List ℕ → S → S
    value_does ks null rest s = act ahead ks 0x6E (0x75 ∷ 0x6C ∷ 0x6C ∷ rest) s
    value_does ks truth rest s = act ahead ks 0x74 (0x72 ∷ 0x75 ∷ 0x65 ∷ rest) s
    value_does ks falsity rest s = act ahead ks 0x66 (0x61 ∷ 0x6C ∷ 0x73 ∷ 0x65 ∷ rest) s
    value_does ks (num n) rest s = number_does ks n rest s
    value_does ks (str x) rest s = string_does as_value ks x rest (act ahead ks 0x22 (pieces x (0x22 ∷ rest)) s)
    value_does ks (empty_array w) rest s = act after (square ∷ ks) 0x5D rest (act ahead ks 0x5B (spaces w (0x5D ∷ rest)) s)
    value_does ks (array w vs) rest s =
        act after (square ∷ ks) 0x5D rest (elements_do (square ∷ ks) vs (0x5D ∷ rest) (act ahead ks 0x5B (spaces w (elements vs (0x5D ∷ rest))) s))
    value_does ks (empty_object w) rest s = act after (curly ∷ ks) 0x7D rest (act ahead ks 0x7B (spaces w (0x7D ∷ rest)) s)
    value_does ks (object w ms) rest s =
        act after (curly ∷ ks) 0x7D rest (members_do (curly ∷ ks) ms (0x7D ∷ rest) (act ahead ks 0x7B (spaces w (members ms (0x7D ∷ rest))) s))

    pub elements_do : List Bracket → Elements → List ℕ → S → S
    elements_do ks (last v w) rest s = value_does ks v (spaces w rest) s
    elements_do ks (more v w w' vs) rest s = elements_do ks vs rest (value_does ks v (spaces w (0x2C ∷ spaces w' (elements vs rest))) s)

    pub members_do : List Bracket → Members → List ℕ → S → S
    members_do ks (last_m x w w' v w'') rest s =
        let end = spaces w (0x3A ∷ spaces w' (value v (spaces w'' rest))) in
        value_does ks v (spaces w'' rest) (string_does as_name ks x end (act name ks 0x22 (pieces x (0x22 ∷ end)) s))
    members_do ks (more_m x w w' v w'' w''' ms) rest s =
        let next = spaces w'' (0x2C ∷ spaces w''' (members ms rest)) in
        let end = spaces w (0x3A ∷ spaces w' (value v next)) in
        members_do ks ms rest (value_does ks v next (string_does as_name ks x end (act name ks 0x22 (pieces x (0x22 ∷ end)) s)))

  abbrev pub text_does : Text → S → S
  text_does t s = value_does [] t.root (spaces t.behind []) s
