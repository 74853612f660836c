-- Numbers are read by the automaton.
--     through-*          what may stand after a value may stand after a number
--     number_on          a number, and then what may stand after a value
-- Assumes nothing.
use mathlib.Core.Bool.{Bool, true, false}
use mathlib.Core.List.{List, [], ◌∷◌}
use mathlib.Core.Logic.{◌⊎◌, inl, inr}
use mathlib.Core.Option.{Option, none, some}
use mathlib.Core.Path.{◌≡◌, refl, sym, ◌∙◌, ap}
use Prim.Native.Nat.{ℕ, suc, ◌<◌}
use native.Mathlib.Omega.{arith}
use Rattle.jsontext.specs.Text.{Digit, digit, digits, Digits, digits1, Whole, whole, from, Fraction, fraction, Letter, capital, small, letter_e, Sign, signed, unsigned, plus, Exponent, exponent, Number, minus_if, number}
use Rattle.jsontext.specs.Text as T
use Rattle.jsontext.specs.Automaton.{Bracket, square, curly, Place, after, nought, point, part, letter, sign, power, at, Move, innermost, follow, ends, moves, pick, step, run, accepting}
use Rattle.jsontext.specs.Automaton as A
use Rattle.jsontext.proofs.Moves.{Fits, fits, hit, miss, Accepts, dead, Reading, quietly, loudly}
use Rattle.jsontext.specs.Sightings.{a_value, Sighting, sighting, sight, seen}
use lib.ListN.{length}

-- ---- the end of a number

-- what may stand after a value is below the point or is a closing bracket
abbrev pub Ending : ℕ → Type 0
Ending b = (b < 0x2E) ⊎ ((b ≡ 0x5D) ⊎ (b ≡ 0x7D))

pub ending : (k : Option Bracket) (b : ℕ) → Fits (ends k) b (λ m. Unit {0}) → Ending b
ending none b (inl f) = inl (omega arith)
ending none b (inr (inl f)) = inl (omega arith)
ending none b (inr (inr (inl f))) = inl (omega arith)
ending none b (inr (inr (inr (inl f)))) = inl (omega arith)
ending (some square) b (inl f) = inl (omega arith)
ending (some square) b (inr (inl f)) = inl (omega arith)
ending (some square) b (inr (inr (inl f))) = inl (omega arith)
ending (some square) b (inr (inr (inr (inl f)))) = inl (omega arith)
ending (some square) b (inr (inr (inr (inr (inl f))))) = inl (omega arith)
ending (some square) b (inr (inr (inr (inr (inr (inl f)))))) = inr (inl (omega arith))
ending (some curly) b (inl f) = inl (omega arith)
ending (some curly) b (inr (inl f)) = inl (omega arith)
ending (some curly) b (inr (inr (inl f))) = inl (omega arith)
ending (some curly) b (inr (inr (inr (inl f)))) = inl (omega arith)
ending (some curly) b (inr (inr (inr (inr (inl f))))) = inl (omega arith)
ending (some curly) b (inr (inr (inr (inr (inr (inl f)))))) = inr (inr (omega arith))
ending none b (inr (inr (inr (inr x5)))) = elim x5 [ ]
ending (some square) b (inr (inr (inr (inr (inr (inr x10)))))) = elim x10 [ ]
ending (some curly) b (inr (inr (inr (inr (inr (inr x11)))))) = elim x11 [ ]

-- the place has the moves of the end of a value
abbrev pub Continued : Place → List Bracket → Type 0
Continued p ks = (b : ℕ) → Ending b → pick (moves p (innermost ks)) b ≡ pick (ends (innermost ks)) b

-- accepted as after a value, and nothing else is seen
abbrev Through : Place → List Bracket → List ℕ → Type 0
Through p ks bs = Accepts (at p ks) bs × (seen bs (some (at p ks)) ≡ seen bs (some (at after ks)))

through : (p : Place) (ks : List Bracket)
    → Continued p ks
    → accepting (at p ks) ≡ accepting (at after ks)
    → ((b : ℕ) → sight p b ≡ none)
    → (bs : List ℕ)
    → Accepts (at after ks) bs
    → Through p ks bs
unfolding run step seen
through p ks same done silent [] a = (done ∙ a, refl)
through p ks same done silent (b ∷ bs) a = go (pick (ends (innermost ks)) b) refl
  where
    go : (o : Option Move) → pick (ends (innermost ks)) b ≡ o → Through p ks (b ∷ bs)
    go none e = let z : false ≡ true = sym (dead bs) ∙ rw e at a in absurd (let y : ◌≡◌ {A = ℕ} 0 1 = cc in omega arith)
    go (some m) e =
        let q = same b (ending (innermost ks) b (fits (λ u. Unit {0}) (ends (innermost ks)) b m e tt)) in
        (rw q a, rw (silent b, q))

skip_point : (s : Place) (ms : List Move) (b : ℕ) → Ending b → pick (A.only 0x2E s ∷ ms) b ≡ pick ms b
skip_point s ms b (inl h) = miss (A.only 0x2E s) ms b (inl h)
skip_point s ms b (inr (inl e)) = miss (A.only 0x2E s) ms b (inr (omega arith))
skip_point s ms b (inr (inr e)) = miss (A.only 0x2E s) ms b (inr (omega arith))

skip_digit : (s : Place) (ms : List Move) (b : ℕ) → Ending b → pick (A.range 0x30 0x39 s ∷ ms) b ≡ pick ms b
skip_digit s ms b (inl h) = miss (A.range 0x30 0x39 s) ms b (inl (omega arith))
skip_digit s ms b (inr (inl e)) = miss (A.range 0x30 0x39 s) ms b (inr (omega arith))
skip_digit s ms b (inr (inr e)) = miss (A.range 0x30 0x39 s) ms b (inr (omega arith))

skip_capital : (s : Place) (ms : List Move) (b : ℕ) → Ending b → pick (A.only 0x45 s ∷ ms) b ≡ pick ms b
skip_capital s ms b (inl h) = miss (A.only 0x45 s) ms b (inl (omega arith))
skip_capital s ms b (inr (inl e)) = miss (A.only 0x45 s) ms b (inr (omega arith))
skip_capital s ms b (inr (inr e)) = miss (A.only 0x45 s) ms b (inr (omega arith))

skip_small : (s : Place) (ms : List Move) (b : ℕ) → Ending b → pick (A.only 0x65 s ∷ ms) b ≡ pick ms b
skip_small s ms b (inl h) = miss (A.only 0x65 s) ms b (inl (omega arith))
skip_small s ms b (inr (inl e)) = miss (A.only 0x65 s) ms b (inl (omega arith))
skip_small s ms b (inr (inr e)) = miss (A.only 0x65 s) ms b (inr (omega arith))

skip_letters : (ms : List Move) (b : ℕ) → Ending b → pick (A.exponents ms) b ≡ pick ms b
skip_letters ms b e = skip_capital letter (A.only 0x65 letter ∷ ms) b e ∙ skip_small letter ms b e

-- a number may end at this place
pub data Stops : Place → Type 0 where
  at_nought : Stops nought
  at_whole : Stops A.whole
  at_part : Stops part
  at_power : Stops power

module _ (ks : List Bracket) where
  pub continued : (p : Place) → Stops p → Continued p ks
  continued nought at_nought b e = skip_point point (A.exponents (ends (innermost ks))) b e ∙ skip_letters (ends (innermost ks)) b e
  continued A.whole at_whole b e =
      skip_digit A.whole (A.only 0x2E point ∷ A.exponents (ends (innermost ks))) b e
      ∙ skip_point point (A.exponents (ends (innermost ks))) b e
      ∙ skip_letters (ends (innermost ks)) b e
  continued part at_part b e = skip_digit part (A.exponents (ends (innermost ks))) b e ∙ skip_letters (ends (innermost ks)) b e
  continued power at_power b e = skip_digit power (ends (innermost ks)) b e
  continued A.ahead x'' b e = elim x'' [ ]
  continued A.first_element x3 b e = elim x3 [ ]
  continued after x4 b e = elim x4 [ ]
  continued A.name x5 b e = elim x5 [ ]
  continued A.first_name x6 b e = elim x6 [ ]
  continued A.colon x7 b e = elim x7 [ ]
  continued (A.word _) x9 b e = elim x9 [ ]
  continued A.minus x9 b e = elim x9 [ ]
  continued point x10 b e = elim x10 [ ]
  continued letter x11 b e = elim x11 [ ]
  continued sign x12 b e = elim x12 [ ]
  continued (A.text _) x14 b e = elim x14 [ ]
  continued (A.escape _) x15 b e = elim x15 [ ]
  continued (A.unit _ _) x17 b e = elim x17 [ ]
  continued (A.char _ _) x18 b e = elim x18 [ ]

  abbrev Passes : Place → Type 0
  Passes p = (bs : List ℕ) → Accepts (at after ks) bs → Through p ks bs

  pub through_nought : Passes nought
  through_nought = through nought ks (continued nought at_nought) refl (λ b. refl)

  pub through_whole : Passes A.whole
  through_whole = through A.whole ks (continued A.whole at_whole) refl (λ b. refl)

  pub through_part : Passes part
  through_part = through part ks (continued part at_part) refl (λ b. refl)

  pub through_power : Passes power
  through_power = through power ks (continued power at_power) refl (λ b. refl)

module _ (L : List Sighting) (ks : List Bracket) where
  -- the number may end here
  abbrev Ends : Place → Type 0
  Ends p = (bs : List ℕ) → Accepts (at after ks) bs → Through p ks bs

  passed : (p : Place) → Ends p → (bs : List ℕ) → Reading L (at after ks) bs → Reading L (at p ks) bs
  passed p t bs a = let r = t bs a.0 in (r.0, r.1 ∙ a.1)

  -- ---- digits

  abbrev pub Counts : Place → Place → Type 0
  Counts p q = (d : Digit) → (sight p (digit d) ≡ none) × (step (at p ks) (digit d) ≡ some (at q ks))

  digits_on : (p : Place) → Counts p p → (ds : List Digit) (bs : List ℕ) → Reading L (at p ks) bs → Reading L (at p ks) (digits ds bs)
  unfolding digits
  digits_on p c [] bs a = a
  digits_on p c (d ∷ ds) bs a = quietly L p ks (at p ks) (digit d) (digits ds bs) (c d).0 (c d).1 (digits_on p c ds bs a)

  -- a digit, where the digits are the first move
  a_digit : (q : Place) (ms : List Move) (d : Digit) → follow ks (pick (A.range 0x30 0x39 q ∷ ms) (digit d)) ≡ some (at q ks)
  a_digit q ms d =
      let l : d.worth < 10 = d.small in ap (follow ks) (hit (A.range 0x30 0x39 q) ms (digit d) (omega arith) (omega arith))

  pub whole_counts : Counts A.whole A.whole
  unfolding step
  whole_counts d = (refl, a_digit A.whole (A.only 0x2E point ∷ A.exponents (ends (innermost ks))) d)

  pub part_counts : Counts part part
  unfolding step
  part_counts d = (refl, a_digit part (A.exponents (ends (innermost ks))) d)

  pub power_counts : Counts power power
  unfolding step
  power_counts d = (refl, a_digit power (ends (innermost ks)) d)

  pub point_counts : Counts point part
  unfolding step
  point_counts d = (refl, a_digit part [] d)

  pub sign_counts : Counts sign power
  unfolding step
  sign_counts d = (refl, a_digit power [] d)

  pub letter_counts : Counts letter power
  unfolding step
  letter_counts d =
      let l : d.worth < 10 = d.small in (
        refl,
        ap (follow ks) (miss (A.only 0x2B sign) (A.only 0x2D sign ∷ A.range 0x30 0x39 power ∷ []) (digit d) (inr (omega arith)))
            ∙ ap (follow ks) (miss (A.only 0x2D sign) (A.range 0x30 0x39 power ∷ []) (digit d) (inr (omega arith)))
            ∙ a_digit power [] d,
      )

  -- ---- parts of a number

  digits1_on : (p q : Place) → Counts p q → Counts q q
      → (ds : Digits) (bs : List ℕ)
      → Reading L (at q ks) bs
      → Reading L (at p ks) (digits1 ds bs)
  digits1_on p q f c ds bs a =
      quietly L p ks (at q ks) (digit ds.first) (digits ds.others bs) (f ds.first).0 (f ds.first).1 (digits_on q c ds.others bs a)

  power_on : (ds : Digits) (bs : List ℕ) → Reading L (at after ks) bs → Reading L (at sign ks) (digits1 ds bs)
  power_on ds bs a = digits1_on sign power sign_counts power_counts ds bs (passed power (through_power ks) bs a)

  signed_on : (s : Sign) (ds : Digits) (bs : List ℕ) → Reading L (at after ks) bs → Reading L (at letter ks) (signed s (digits1 ds bs))
  unfolding run step pick seen
  signed_on unsigned ds bs a = digits1_on letter power letter_counts power_counts ds bs (passed power (through_power ks) bs a)
  signed_on plus ds bs a = power_on ds bs a
  signed_on T.minus ds bs a = power_on ds bs a

  abbrev pub Letters : Place → Type 0
  Letters p = (l : Letter) → (sight p (letter_e l) ≡ none) × (step (at p ks) (letter_e l) ≡ some (at letter ks))

  exponent_on : (p : Place) → Ends p → Letters p → (x : Exponent) (bs : List ℕ) → Reading L (at after ks) bs → Reading L (at p ks) (exponent x bs)
  exponent_on p t l none bs a = passed p t bs a
  exponent_on p t l (some e) bs a =
      quietly L p ks (at letter ks) (letter_e e.letter) (signed e.sign (digits1 e.places bs)) (l e.letter).0 (l e.letter).1 (signed_on e.sign e.places bs a)

  pub nought_letter : Letters nought
  unfolding step pick
  nought_letter capital = (refl, refl)
  nought_letter small = (refl, refl)

  pub whole_letter : Letters A.whole
  unfolding step pick
  whole_letter capital = (refl, refl)
  whole_letter small = (refl, refl)

  pub part_letter : Letters part
  unfolding step pick
  part_letter capital = (refl, refl)
  part_letter small = (refl, refl)

  abbrev pub Point : Place → Type 0
  Point p = (sight p 0x2E ≡ none) × (step (at p ks) 0x2E ≡ some (at point ks))

  fraction_on : (p : Place) → Ends p → Letters p → Point p
      → (f : Fraction) (x : Exponent) (bs : List ℕ)
      → Reading L (at after ks) bs
      → Reading L (at p ks) (fraction f (exponent x bs))
  fraction_on p t l e none x bs a = exponent_on p t l x bs a
  fraction_on p t l e (some ds) x bs a =
      quietly L p ks (at point ks) 0x2E (digits1 ds (exponent x bs)) e.0 e.1 (digits1_on point part point_counts part_counts ds (exponent x bs) (exponent_on part (through_part ks) part_letter x bs a))

  pub nought_point : Point nought
  unfolding step pick
  nought_point = (refl, refl)

  pub whole_point : Point A.whole
  unfolding step pick
  whole_point = (refl, refl)

  -- after a first digit that is not 0
  whole_on : (ds : List Digit) (f : Fraction) (x : Exponent) (bs : List ℕ)
      → Reading L (at after ks) bs
      → Reading L (at A.whole ks) (digits ds (fraction f (exponent x bs)))
  whole_on ds f x bs a =
      digits_on A.whole whole_counts ds (fraction f (exponent x bs)) (fraction_on A.whole (through_whole ks) whole_letter whole_point f x bs a)

  nought_on : (f : Fraction) (x : Exponent) (bs : List ℕ)
      → Reading L (at after ks) bs
      → Reading L (at nought ks) (fraction f (exponent x bs))
  nought_on f x bs a = fraction_on nought (through_nought ks) nought_letter nought_point f x bs a

  pub minus_first : (d : Digit) → 0 < d.worth → step (at A.minus ks) (digit d) ≡ some (at A.whole ks)
  unfolding step
  minus_first d p =
      let l : d.worth < 10 = d.small in
      ap (follow ks) (miss (A.only 0x30 nought) (A.range 0x31 0x39 A.whole ∷ []) (digit d) (inr (omega arith)))
      ∙ ap (follow ks) (hit (A.range 0x31 0x39 A.whole) [] (digit d) (omega arith) (omega arith))

  minus_on : (i : Whole) (f : Fraction) (x : Exponent) (bs : List ℕ)
      → Reading L (at after ks) bs
      → Reading L (at A.minus ks) (whole i (fraction f (exponent x bs)))
  unfolding run step pick seen
  minus_on T.nought f x bs a = nought_on f x bs a
  minus_on (from d p ds) f x bs a =
      quietly L A.minus ks (at A.whole ks) (digit d) (digits ds (fraction f (exponent x bs))) refl (minus_first d p) (whole_on ds f x bs a)

  -- a value may start at this place with this byte, and goes on at q
  abbrev pub Opens : Place → ℕ → Place → Type 0
  Opens p b q = (sight p b ≡ some a_value) × (step (at p ks) b ≡ some (at q ks))

  abbrev pub Starts : Place → Type 0
  Starts p = Opens p 0x2D A.minus × Opens p 0x30 nought × ((d : Digit) → 0 < d.worth → Opens p (digit d) A.whole)

  pub number_on : (p : Place) → Starts p → (n : Number) (bs : List ℕ)
      → Reading L (at after ks) bs
      → Reading (sighting a_value (suc (length ks)) (number n bs) ∷ L) (at p ks) (number n bs)
  number_on p c n bs a = go n.negative n.integer
    where
      go : (m : Bool) (i : Whole)
          → Reading (sighting a_value (suc (length ks)) (minus_if m (whole i (fraction n.part (exponent n.power bs)))) ∷ L) (at p ks) (minus_if m (whole i (fraction n.part (exponent n.power bs))))
      go true i = loudly L a_value p ks (at A.minus ks) 0x2D (whole i (fraction n.part (exponent n.power bs))) c.0.0 c.0.1 (minus_on i n.part n.power bs a)
      go false T.nought = loudly L a_value p ks (at nought ks) 0x30 (fraction n.part (exponent n.power bs)) c.1.0 c.1.1 (nought_on n.part n.power bs a)
      go false (from d q ds) =
          loudly L a_value p ks (at A.whole ks) (digit d) (digits ds (fraction n.part (exponent n.power bs))) (c.2 d q).0 (c.2 d q).1 (whole_on ds n.part n.power bs a)
