-- Going along the parts of a tree: white space, numbers, strings. What is left after a part is what the part does (`Doing`), and the bytes behind it.
--     byte             one byte that leads somewhere
--     Follows          what may stand after a value
--     spaces_along, number_along, pieces_along
-- Assumes nothing.
use mathlib.Core.Bool.{Bool, true, false}
use mathlib.Core.List.{List, [], ◌∷◌, ◌++◌, append-nil}
use mathlib.Core.Logic.{◌≢◌, inl, inr}
use mathlib.Core.Option.{Option, none, some}
use mathlib.Core.Path.{◌≡◌, refl, sym, ◌∙◌, ap}
use Prim.Native.Nat.{ℕ, ◌<◌}
use native.Mathlib.Omega.{arith}
use Rattle.jsontext.specs.Utf8.{encode}
use Rattle.jsontext.specs.Text as T
use Rattle.jsontext.specs.Text.{Blank, space, tab, feed, return, blank, Space, spaces, Digit, digit, digits, Digits, digits1, Whole, from, Fraction, fraction, Sign, unsigned, plus, signed, Exponent, exponent, Number, number, minus_if, Plain, Short, quote, backslash, slash, backspace, form_feed, line_feed, carriage_return, tabulator, short, hex, plain, pieces}
use Rattle.jsontext.specs.Automaton.{Bracket, square, curly, Role, one, hex1, hex2, hex3, hex4, Place, ahead, first_element, after, minus, nought, whole, point, part, letter, sign, power, text, escape, unit, char, State, at, innermost, follow, ends, pick, step}
use Rattle.jsontext.specs.Along.{Act, along}
use Rattle.jsontext.proofs.Moves.{Fits}
use Rattle.jsontext.proofs.Spaces.{Loops, loop_ahead, loop_first, loop_after, loop_name, loop_first_name, loop_colon}
use Rattle.jsontext.proofs.Numbers.{Stops, at_nought, at_whole, at_part, at_power, ending, continued, Counts, Letters, Point, whole_counts, part_counts, power_counts, point_counts, sign_counts, letter_counts, nought_letter, whole_letter, part_letter, nought_point, whole_point, minus_first}
use Rattle.jsontext.proofs.Strings.{Within, whole_char, further, spelled, hex_step}
use Rattle.jsontext.proofs.Values.{Starter}
use Rattle.jsontext.proofs.Doing.{Waits, waits_ahead, waits_first, waits_after, waits_name, waits_first_name, waits_colon, Orderly, digits_do, digits1_do, whole_does, whole_end, fraction_does, fraction_end, signed_does, exponent_does, tail_does, minus_does, number_does, tails_do, char_does, pieces_do}

-- nothing, or a byte with which what follows a value goes on
abbrev pub Follows : List Bracket → List ℕ → Type 0
Follows ks [] = Unit {0}
Follows ks (b ∷ bs) = Fits (ends (innermost ks)) b (λ m. Unit {0})

pub follows_spaces : (ks : List Bracket) (w : Space) (bs : List ℕ) → Follows ks bs → Follows ks (spaces w bs)
unfolding spaces
follows_spaces ks [] bs f = f
follows_spaces ks (c ∷ w) bs f = blank_follows (innermost ks) c
  where
    blank_follows : (k : Option Bracket) (c : Blank) → Fits (ends k) (blank c) (λ m. Unit {0})
    blank_follows none space = inl (omega arith, omega arith, tt)
    blank_follows none tab = inr (inl (omega arith, omega arith, tt))
    blank_follows none feed = inr (inr (inl (omega arith, omega arith, tt)))
    blank_follows none return = inr (inr (inr (inl (omega arith, omega arith, tt))))
    blank_follows (some square) space = inl (omega arith, omega arith, tt)
    blank_follows (some square) tab = inr (inl (omega arith, omega arith, tt))
    blank_follows (some square) feed = inr (inr (inl (omega arith, omega arith, tt)))
    blank_follows (some square) return = inr (inr (inr (inl (omega arith, omega arith, tt))))
    blank_follows (some curly) space = inl (omega arith, omega arith, tt)
    blank_follows (some curly) tab = inr (inl (omega arith, omega arith, tt))
    blank_follows (some curly) feed = inr (inr (inl (omega arith, omega arith, tt)))
    blank_follows (some curly) return = inr (inr (inr (inl (omega arith, omega arith, tt))))

pub follows_comma : (k : Bracket) (ks : List Bracket) (bs : List ℕ) → Follows (k ∷ ks) (0x2C ∷ bs)
follows_comma square ks bs = inr (inr (inr (inr (inl (omega arith, omega arith, tt)))))
follows_comma curly ks bs = inr (inr (inr (inr (inl (omega arith, omega arith, tt)))))

pub follows_square : (ks : List Bracket) (bs : List ℕ) → Follows (square ∷ ks) (0x5D ∷ bs)
follows_square ks bs = inr (inr (inr (inr (inr (inl (omega arith, omega arith, tt))))))

pub follows_curly : (ks : List Bracket) (bs : List ℕ) → Follows (curly ∷ ks) (0x7D ∷ bs)
follows_curly ks bs = inr (inr (inr (inr (inr (inl (omega arith, omega arith, tt))))))

loops : {p : Place} → Waits p → (ks : List Bracket) → Loops (at p ks)
loops waits_ahead ks = loop_ahead ks
loops waits_first ks = loop_first ks
loops waits_after ks = loop_after ks
loops waits_name ks = loop_name ks
loops waits_first_name ks = loop_first_name ks
loops waits_colon ks = loop_colon ks

module _ {S : Type 0} (act : Act S) (finish : List Bracket → S → S) (ok : Orderly act finish) where
  -- along these bytes from a place
  abbrev from_at : Place → List Bracket → List ℕ → S → S
  from_at p ks bs s = along act bs (some (at p ks)) s

  pub byte : (p : Place) (ks : List Bracket) (t : State) (b : ℕ) (bs : List ℕ) (s : S) → step (at p ks) b ≡ some t
      → along act (b ∷ bs) (some (at p ks)) s ≡ along act bs (some t) (act p ks b bs s)
  unfolding along
  byte p ks t b bs s e = rw e

  pub spaces_along : {p : Place} → Waits p → (ks : List Bracket) (w : Space) (bs : List ℕ) (s : S) → from_at p ks (spaces w bs) s ≡ from_at p ks bs s
  unfolding spaces
  spaces_along h ks [] bs s = refl
  spaces_along {p} h ks (c ∷ w) bs s =
      byte p ks (at p ks) (blank c) (spaces w bs) s (loops h ks c)
      ∙ ap (from_at p ks (spaces w bs)) (ok.blanks h ks c (spaces w bs) s)
      ∙ spaces_along h ks w bs s

  -- ---- numbers

  through : {p : Place} → Stops p → (ks : List Bracket) (bs : List ℕ) (s : S) → Follows ks bs → from_at p ks bs s ≡ from_at after ks bs (finish ks s)
  unfolding along step
  through h ks [] s f = ok.ends h ks 0x20 [] s (inl (omega arith))
  through {p} h ks (b ∷ bs) s f = let e = ending (innermost ks) b f in rw (continued ks p h b e, ok.ends h ks b bs s e)

  module _ (ks : List Bracket) where
    digits_along : (p : Place) → Counts [] ks p p → (ds : List Digit) (bs : List ℕ) (s : S)
        → from_at p ks (digits ds bs) s ≡ from_at p ks bs (digits_do act finish p ks ds bs s)
    unfolding digits digits_do
    digits_along p c [] bs s = refl
    digits_along p c (d ∷ ds) bs s =
        byte p ks (at p ks) (digit d) (digits ds bs) s (c d).1 ∙ digits_along p c ds bs (act p ks (digit d) (digits ds bs) s)

    digits1_along : (p q : Place) → Counts [] ks p q → Counts [] ks q q → (ds : Digits) (bs : List ℕ) (s : S)
        → from_at p ks (digits1 ds bs) s ≡ from_at q ks bs (digits1_do act finish p q ks ds bs s)
    digits1_along p q f c ds bs s =
        byte p ks (at q ks) (digit ds.first) (digits ds.others bs) s (f ds.first).1
        ∙ digits_along q c ds.others bs (act p ks (digit ds.first) (digits ds.others bs) s)

    signed_along : (x : Sign) (ds : Digits) (bs : List ℕ) (s : S) → from_at letter ks (signed x (digits1 ds bs)) s ≡ from_at power ks bs (signed_does act finish ks x ds bs s)
    unfolding step pick
    signed_along unsigned ds bs s = digits1_along letter power (letter_counts [] ks) (power_counts [] ks) ds bs s
    signed_along plus ds bs s =
        byte letter ks (at sign ks) 0x2B (digits1 ds bs) s refl
        ∙ digits1_along sign power (sign_counts [] ks) (power_counts [] ks) ds bs (act letter ks 0x2B (digits1 ds bs) s)
    signed_along T.minus ds bs s =
        byte letter ks (at sign ks) 0x2D (digits1 ds bs) s refl
        ∙ digits1_along sign power (sign_counts [] ks) (power_counts [] ks) ds bs (act letter ks 0x2D (digits1 ds bs) s)

    exponent_along : {p : Place} → Stops p → Letters [] ks p → (x : Exponent) (bs : List ℕ) (s : S) → Follows ks bs
        → from_at p ks (exponent x bs) s ≡ from_at after ks bs (finish ks (exponent_does act finish p ks x bs s))
    exponent_along {p} h l none bs s f = through h ks bs s f
    exponent_along {p} h l (some e) bs s f =
        let rest : List ℕ = signed e.sign (digits1 e.places bs) in
        let s' : S = act p ks (T.letter_e e.letter) rest s in
        byte p ks (at letter ks) (T.letter_e e.letter) rest s (l e.letter).1
        ∙ signed_along e.sign e.places bs s'
        ∙ through at_power ks bs (signed_does act finish ks e.sign e.places bs s') f

    tail_along : {p : Place} → Stops p → Letters [] ks p → Point [] ks p → (g : Fraction) (x : Exponent) (bs : List ℕ) (s : S) → Follows ks bs
        → from_at p ks (fraction g (exponent x bs)) s ≡ from_at after ks bs (finish ks (tail_does act finish p ks g x bs s))
    tail_along h l q none x bs s f = exponent_along h l x bs s f
    tail_along {p} h l q (some ds) x bs s f =
        let s' : S = act p ks 0x2E (digits1 ds (exponent x bs)) s in
        byte p ks (at point ks) 0x2E (digits1 ds (exponent x bs)) s q.1
        ∙ digits1_along point part (point_counts [] ks) (part_counts [] ks) ds (exponent x bs) s'
        ∙ exponent_along at_part (part_letter [] ks) x bs (digits1_do act finish point part ks ds (exponent x bs) s') f

    -- the whole part, where it starts at place p, and what follows it
    whole_along : (p : Place)
        → step (at p ks) 0x30 ≡ some (at nought ks)
        → ((d : Digit) → 0 < d.worth → step (at p ks) (digit d) ≡ some (at whole ks))
        → (i : Whole) (g : Fraction) (x : Exponent) (bs : List ℕ) (s : S) → Follows ks bs
        → from_at p ks (T.whole i (fraction g (exponent x bs))) s
        ≡ from_at after ks bs (finish ks (tail_does act finish (whole_end act finish i) ks g x bs (whole_does act finish p ks i (fraction g (exponent x bs)) s)))
    whole_along p z d T.nought g x bs s f =
        let rest : List ℕ = fraction g (exponent x bs) in
        byte p ks (at nought ks) 0x30 rest s z ∙ tail_along at_nought (nought_letter [] ks) (nought_point [] ks) g x bs (act p ks 0x30 rest s) f
    whole_along p z d (from e q ds) g x bs s f =
        let rest : List ℕ = fraction g (exponent x bs) in
        let s' : S = act p ks (digit e) (digits ds rest) s in
        byte p ks (at whole ks) (digit e) (digits ds rest) s (d e q)
        ∙ digits_along whole (whole_counts [] ks) ds rest s'
        ∙ tail_along at_whole (whole_letter [] ks) (whole_point [] ks) g x bs (digits_do act finish whole ks ds rest s') f

  -- a place at which a value may start is to the act as any other
  pub record Opening (p : Place) (ks : List Bracket) : Type 0 where
    pub starter : Starter p ks
    pub alike : (b : ℕ) (bs : List ℕ) (s : S) → b ≢ 0x5D → act p ks b bs s ≡ act ahead ks b bs s

  -- the first byte of a value
  pub opening : {p : Place} {ks : List Bracket} → Opening p ks → (t : State) (b : ℕ) (bs : List ℕ) (s : S) → b ≢ 0x5D → step (at p ks) b ≡ some t
      → from_at p ks (b ∷ bs) s ≡ along act bs (some t) (act ahead ks b bs s)
  opening {p} {ks} o t b bs s h e = byte p ks t b bs s e ∙ ap (along act bs (some t)) (o.alike b bs s h)

  pub number_along : {p : Place} {ks : List Bracket} → Opening p ks → (n : Number) (bs : List ℕ) (s : S) → Follows ks bs
      → from_at p ks (number n bs) s ≡ from_at after ks bs (number_does act finish ks n bs s)
  unfolding number_does step pick
  number_along {p} {ks} o n bs s f = go n.negative n.integer
    where
      end : List ℕ
      end = fraction n.part (exponent n.power bs)

      go : (m : Bool) (i : Whole)
          → from_at p ks (minus_if m (T.whole i end)) s
          ≡ from_at after ks bs (finish ks (tail_does act finish (whole_end act finish i) ks n.part n.power bs (minus_does act finish m ks i end s)))
      go true i =
          opening o (at minus ks) 0x2D (T.whole i end) s (λ e. omega arith) o.starter.numbers.0.1
          ∙ whole_along ks minus refl (λ d q. minus_first [] ks d q) i n.part n.power bs (act ahead ks 0x2D (T.whole i end) s) f
      go false i =
          whole_along ks p o.starter.numbers.1.1 (λ d q. (o.starter.numbers.2 d q).1) i n.part n.power bs s f
          ∙ ap (λ (z : S). from_at after ks bs (finish ks (tail_does act finish (whole_end act finish i) ks n.part n.power bs z))) (same i)
        where
          same : (i : Whole) → whole_does act finish p ks i end s ≡ whole_does act finish ahead ks i end s
          same T.nought = o.alike 0x30 end s (λ e. omega arith)
          same (from d q ds) = let l : d.worth < 10 = d.small in ap (digits_do act finish whole ks ds end) (o.alike (digit d) (digits ds end) s (λ e. omega arith))

  -- ---- strings

  module _ (r : Role) (ks : List Bracket) where
    within : (bs : List ℕ) {q : Place} {xs : List ℕ} → Within r ks q xs → (s : S) → from_at q ks (xs ++ bs) s ≡ from_at (text r) ks bs (tails_do act finish r ks xs bs s)
    unfolding tails_do
    within bs whole_char s = refl
    within bs (further {q} {c} {b} {bs = xs} e w) s =
        byte (char c r) ks (at q ks) b (xs ++ bs) s e
        ∙ ap (from_at q ks (xs ++ bs)) (ok.chars c r ks b (xs ++ bs) s)
        ∙ within bs w (act (char one r) ks b (xs ++ bs) s)

    plain_along : (c : ℕ) → Plain c → (bs : List ℕ) (s : S) → from_at (text r) ks (encode c bs) s ≡ from_at (text r) ks bs (char_does act finish r ks (encode c []) bs s)
    plain_along c p bs s =
        let f = spelled r ks c p in
        let alone : encode c [] ≡ f.first ∷ f.others = f.same [] ∙ ap (λ (x : List ℕ). f.first ∷ x) (append-nil f.others) in
        let s' : S = act (text r) ks f.first (f.others ++ bs) s in
        rw (f.same bs, alone) (byte (text r) ks (at f.place ks) f.first (f.others ++ bs) s f.lead ∙ within bs f.tail s')

    short_along : (m : Short) (bs : List ℕ) (s : S) → from_at (escape r) ks (short m ∷ bs) s ≡ from_at (text r) ks bs (act (escape r) ks (short m) bs s)
    unfolding step pick
    short_along quote bs s = byte (escape r) ks (at (text r) ks) (short quote) bs s refl
    short_along backslash bs s = byte (escape r) ks (at (text r) ks) (short backslash) bs s refl
    short_along slash bs s = byte (escape r) ks (at (text r) ks) (short slash) bs s refl
    short_along backspace bs s = byte (escape r) ks (at (text r) ks) (short backspace) bs s refl
    short_along form_feed bs s = byte (escape r) ks (at (text r) ks) (short form_feed) bs s refl
    short_along line_feed bs s = byte (escape r) ks (at (text r) ks) (short line_feed) bs s refl
    short_along carriage_return bs s = byte (escape r) ks (at (text r) ks) (short carriage_return) bs s refl
    short_along tabulator bs s = byte (escape r) ks (at (text r) ks) (short tabulator) bs s refl

    escape_along : (bs : List ℕ) (s : S) → from_at (text r) ks (0x5C ∷ bs) s ≡ from_at (escape r) ks bs (act (text r) ks 0x5C bs s)
    unfolding step pick
    escape_along bs s = byte (text r) ks (at (escape r) ks) 0x5C bs s refl

    unit_along : (bs : List ℕ) (s : S) → from_at (escape r) ks (0x75 ∷ bs) s ≡ from_at (unit hex4 r) ks bs (act (escape r) ks 0x75 bs s)
    unfolding step pick
    unit_along bs s = byte (escape r) ks (at (unit hex4 r) ks) 0x75 bs s refl

    pub pieces_along : (ps : T.Str) (bs : List ℕ) (s : S) → from_at (text r) ks (pieces ps bs) s ≡ from_at (text r) ks bs (pieces_do act finish r ks ps bs s)
    unfolding pieces pieces_do
    pieces_along [] bs s = refl
    pieces_along (plain c p ∷ ps) bs s = plain_along c p (pieces ps bs) s ∙ pieces_along ps bs (char_does act finish r ks (encode c []) (pieces ps bs) s)
    pieces_along (T.escape m ∷ ps) bs s =
        let z : List ℕ = pieces ps bs in
        let s' : S = act (text r) ks 0x5C (short m ∷ z) s in
        escape_along (short m ∷ z) s ∙ short_along m z s' ∙ pieces_along ps bs (act (escape r) ks (short m) z s')
    pieces_along (T.unit h i j k ∷ ps) bs s =
        let z : List ℕ = pieces ps bs in
        let s0 : S = act (text r) ks 0x5C (0x75 ∷ hex h ∷ hex i ∷ hex j ∷ hex k ∷ z) s in
        let s1 : S = act (escape r) ks 0x75 (hex h ∷ hex i ∷ hex j ∷ hex k ∷ z) s0 in
        let s2 : S = act (unit hex4 r) ks (hex h) (hex i ∷ hex j ∷ hex k ∷ z) s1 in
        let s3 : S = act (unit hex3 r) ks (hex i) (hex j ∷ hex k ∷ z) s2 in
        let s4 : S = act (unit hex2 r) ks (hex j) (hex k ∷ z) s3 in
        escape_along (0x75 ∷ hex h ∷ hex i ∷ hex j ∷ hex k ∷ z) s
        ∙ unit_along (hex h ∷ hex i ∷ hex j ∷ hex k ∷ z) s0
        ∙ byte (unit hex4 r) ks (at (unit hex3 r) ks) (hex h) (hex i ∷ hex j ∷ hex k ∷ z) s1 (hex_step r ks hex4 h)
        ∙ byte (unit hex3 r) ks (at (unit hex2 r) ks) (hex i) (hex j ∷ hex k ∷ z) s2 (hex_step r ks hex3 i)
        ∙ byte (unit hex2 r) ks (at (unit hex1 r) ks) (hex j) (hex k ∷ z) s3 (hex_step r ks hex2 j)
        ∙ byte (unit hex1 r) ks (at (text r) ks) (hex k) z s4 (hex_step r ks hex1 k)
        ∙ pieces_along ps bs (act (unit hex1 r) ks (hex k) z s4)
