-- What the first pass keeps of a number.
--     number_figure    after its bytes the number is the one of the text
--     number_told      so it is found too wide exactly if it is
-- Assumes nothing.
use mathlib.Core.Bool.{Bool, true, false, cond, and-false}
use mathlib.Core.List.{List, [], ◌∷◌}
use mathlib.Core.Logic.{◌≢◌, ◌⊎◌, inl, inr, ⊎_elim}
use mathlib.Core.Option.{none, some}
use mathlib.Core.Path.{◌≡◌, refl, ◌∙◌, ap}
use Prim.Native.Nat.{ℕ, suc, ◌-◌, ◌≤◌, ◌<◌}
use native.Mathlib.Omega.{arith}
use borrow.Author.Tests.{eq-eqb, ne_eqb, eqb-true, eqb-false, le-leb, le-ltb, lt-ltb}
use lib.Dec.{eqb}
use lib.ListN.{length}
use Rattle.jsontext.specs.Text as T
use Rattle.jsontext.specs.Text.{Digit, digit, digits, Digits, digits1, Whole, from, Fraction, fraction, Letter, capital, small, letter_e, Sign, unsigned, plus, signed, Exponent, exponent, Number, minus_if, number}
use Rattle.jsontext.specs.Number.{listed, exact_of, wide}
use Rattle.jsontext.specs.Automaton.{Bracket, Place, ahead, minus, nought, whole, point, part, letter, sign, power}
use Rattle.jsontext.specs.Sightings.{a_value}
use Rattle.jsontext.specs.Starts.{Start, starting}
use Rattle.jsontext.proofs.Doing.{digits_do, digits1_do, whole_does, whole_end, signed_does, exponent_does, tail_does, minus_does, number_does}
use Rattle.sheet.specs.Kinds.{number_max}
use Rattle.sheet.specs.Record.{rows_max}
use Rattle.sheet.specs.Faults.{level_refused}
use Rattle.figure.specs.declared.Figure.{Figure}
use Rattle.figure.specs.Figure.{no_figure, whole_more, part_more, power_back, power_more, digits_more, whole_figure, part_figure, sign_figure, power_figure, figure_of}
use Rattle.figure.proofs.Figured.{figure_wide, few_digits}
use Rattle.reader.specs.Faults.{value_fault, or_else, first_fault}
use Rattle.survey.specs.declared.Watch.{Watch}
use Rattle.survey.specs.Watching.{no_escapes, found, with_figure, numeric, first_figure, begun, ended, digited, digit_or, moved, watching}
use Rattle.survey.specs.Told.{told, unnamed}
use Rattle.survey.proofs.Orders.{stopping, going, stopped, stays, stays_stopped}
use Rattle.survey.proofs.Strung.{verdict}
use Rattle.survey.proofs.Still.{ending_still, whole_still, digits_still}

pub eq_or_not : (a b : ℕ) → (a ≡ b) ⊎ (a ≢ b)
eq_or_not a b = go (eqb a b) refl
  where
    go : (t : Bool) → eqb a b ≡ t → (a ≡ b) ⊎ (a ≢ b)
    go true e = inl (eqb-true a b e)
    go false e = inr (eqb-false a b e)

-- ---- digits

-- at this place a digit is taken by `more`
abbrev Takes : Place → (Figure → ℕ → Figure) → Type 0
Takes p more = (k : ℕ) (d : Digit) (left : ℕ) (s : Watch) → moved p k (digit d) left s ≡ with_figure (more s.figure d.worth) s

back : (d : Digit) → digit d - 0x30 ≡ d.worth
back d = omega arith

takes_digit : (more : Figure → ℕ → Figure) (d : Digit) (s : Watch) → digited more (digit d) s ≡ with_figure (more s.figure d.worth) s
unfolding digited
takes_digit more d s =
    let l : d.worth < 10 = d.small in
    rw (le-leb 0x30 (digit d) (omega arith), le-leb (digit d) 0x39 (omega arith), back d)

takes_or : (more : Figure → ℕ → Figure) (k : ℕ) (d : Digit) (s : Watch) → digit_or more k (digit d) s ≡ with_figure (more s.figure d.worth) s
takes_or more k d s =
    let l : d.worth < 10 = d.small in
    rw (le-ltb (digit d) 0x2E (omega arith), ne_eqb (digit d) 0x5D (λ e. omega arith), ne_eqb (digit d) 0x7D (λ e. omega arith)) (takes_digit more d s)

takes_whole : Takes whole whole_more
takes_whole k d left s = takes_or whole_more k d s

takes_part : Takes part part_more
takes_part k d left s = takes_or part_more k d s

takes_power : Takes power power_more
takes_power k d left s = takes_or power_more k d s

takes_minus : Takes minus whole_more
takes_minus k d left s = takes_digit whole_more d s

takes_point : Takes point part_more
takes_point k d left s = takes_digit part_more d s

takes_sign : Takes sign power_more
takes_sign k d left s = takes_digit power_more d s

takes_letter : Takes letter power_more
takes_letter k d left s = let l : d.worth < 10 = d.small in rw (ne_eqb (digit d) 0x2D (λ e. omega arith)) (takes_digit power_more d s)

module _ (ks : List Bracket) where
  digits_figure : (p : Place) (more : Figure → ℕ → Figure) → Takes p more → (ds : List Digit) (rest : List ℕ) (s : Watch) → s.fault ≡ 0
      → digits_do watching stopping p ks ds rest s ≡ with_figure (digits_more more s.figure ds) s
  unfolding digits_do digits_more
  digits_figure p more t [] rest s e = refl
  digits_figure p more t (d ∷ ds) rest s e =
      ap (digits_do watching stopping p ks ds rest) (going p ks (digit d) (digits ds rest) s e ∙ t (length ks) d (suc (length (digits ds rest))) s)
      ∙ digits_figure p more t ds rest (with_figure (more s.figure d.worth) s) e

  digits1_figure : (p q : Place) (more : Figure → ℕ → Figure) → Takes p more → Takes q more → (ds : Digits) (rest : List ℕ) (s : Watch) → s.fault ≡ 0
      → digits1_do watching stopping p q ks ds rest s ≡ with_figure (digits_more more s.figure (listed ds)) s
  unfolding digits_more
  digits1_figure p q more t u ds rest s e =
      ap (digits_do watching stopping q ks ds.others rest) (going p ks (digit ds.first) (digits ds.others rest) s e ∙ t (length ks) ds.first (suc (length (digits ds.others rest))) s)
      ∙ digits_figure q more u ds.others rest (with_figure (more s.figure ds.first.worth) s) e

  -- ---- behind the whole part

  -- the point and the letter e move nothing here
  record Passing (p : Place) : Type 0 where
    pointed : (k left : ℕ) (s : Watch) → moved p k 0x2E left s ≡ s
    lettered : (k : ℕ) (l : Letter) (left : ℕ) (s : Watch) → moved p k (letter_e l) left s ≡ s

  or_e : (more : Figure → ℕ → Figure) (k : ℕ) (l : Letter) (s : Watch) → digit_or more k (letter_e l) s ≡ s
  unfolding digited
  or_e more k capital s = refl
  or_e more k small s = refl

  nought_passes : Passing nought
  unfolding digited
  nought_passes = record { pointed = λ k bs s. refl; lettered = λ k l bs s. or_e whole_more k l s }

  whole_passes : Passing whole
  unfolding digited
  whole_passes = record { pointed = λ k bs s. refl; lettered = λ k l bs s. or_e whole_more k l s }

  part_passes : Passing part
  unfolding digited
  part_passes = record { pointed = λ k bs s. refl; lettered = λ k l bs s. or_e part_more k l s }

  signed_figure : (x : Sign) (ds : Digits) (rest : List ℕ) (s : Watch) → s.fault ≡ 0
      → signed_does watching stopping ks x ds rest s ≡ with_figure (digits_more power_more (sign_figure x s.figure) (listed ds)) s
  unfolding digited
  signed_figure unsigned ds rest s e = digits1_figure letter power power_more takes_letter takes_power ds rest s e
  signed_figure plus ds rest s e =
      ap (digits1_do watching stopping sign power ks ds rest) (going letter ks 0x2B (digits1 ds rest) s e) ∙ digits1_figure sign power power_more takes_sign takes_power ds rest s e
  signed_figure T.minus ds rest s e =
      ap (digits1_do watching stopping sign power ks ds rest) (going letter ks 0x2D (digits1 ds rest) s e)
      ∙ digits1_figure sign power power_more takes_sign takes_power ds rest (with_figure (power_back s.figure) s) e

  exponent_figure : {p : Place} → Passing p → (x : Exponent) (rest : List ℕ) (s : Watch) → s.fault ≡ 0
      → exponent_does watching stopping p ks x rest s ≡ with_figure (power_figure x s.figure) s
  exponent_figure h none rest s e = refl
  exponent_figure {p} h (some y) rest s e =
      let bs : List ℕ = signed y.sign (digits1 y.places rest) in
      ap (signed_does watching stopping ks y.sign y.places rest) (going p ks (letter_e y.letter) bs s e ∙ h.lettered (length ks) y.letter (suc (length bs)) s)
      ∙ signed_figure y.sign y.places rest s e

  tail_figure : {p : Place} → Passing p → (g : Fraction) (x : Exponent) (rest : List ℕ) (s : Watch) → s.fault ≡ 0
      → tail_does watching stopping p ks g x rest s ≡ with_figure (power_figure x (part_figure g s.figure)) s
  tail_figure h none x rest s e = exponent_figure h x rest s e
  tail_figure {p} h (some ds) x rest s e =
      let bs : List ℕ = digits1 ds (exponent x rest) in
      ap (λ (t : Watch). exponent_does watching stopping part ks x rest (digits1_do watching stopping point part ks ds (exponent x rest) t))
      (going p ks 0x2E bs s e ∙ h.pointed (length ks) (suc (length bs)) s)
      ∙ ap (exponent_does watching stopping part ks x rest) (digits1_figure point part part_more takes_point takes_part ds (exponent x rest) s e)
      ∙ exponent_figure part_passes x rest (with_figure (digits_more part_more s.figure (listed ds)) s) e

  whole_tail : (i : Whole) (g : Fraction) (x : Exponent) (rest : List ℕ) (s : Watch) → s.fault ≡ 0
      → tail_does watching stopping (whole_end watching stopping i) ks g x rest s ≡ with_figure (power_figure x (part_figure g s.figure)) s
  whole_tail T.nought g x rest s e = tail_figure nought_passes g x rest s e
  whole_tail (from d q ds) g x rest s e = tail_figure whole_passes g x rest s e

  -- ---- the first byte

  -- a value has started
  abbrev started : ℕ → Figure → Watch → Watch
  started left f s = record { fault = 0; left = 0; values = suc s.values; start = left; figure = f; escapes = no_escapes }

  module _ (s : Watch) (e : s.fault ≡ 0) where
    too_many : (b : ℕ) (bs : List ℕ) → s.values ≡ rows_max → 0x20 < b → watching ahead ks b bs s ≡ found 22 (suc (length bs)) s
    unfolding begun
    too_many b bs m h = going ahead ks b bs s e ∙ rw (lt-ltb 0x20 b h, eq-eqb s.values rows_max m)

    first_byte : (b : ℕ) (bs : List ℕ) → s.values ≢ rows_max → 0x20 < b → numeric b ≡ true → watching ahead ks b bs s ≡ started (suc (length bs)) (first_figure b) s
    unfolding begun
    first_byte b bs m h n = going ahead ks b bs s e ∙ rw (lt-ltb 0x20 b h, ne_eqb s.values rows_max m, n, and-false (eqb (suc (length ks)) level_refused))

    first_digit : (d : Digit) (bs : List ℕ) → s.values ≢ rows_max → watching ahead ks (digit d) bs s ≡ started (suc (length bs)) (whole_more no_figure d.worth) s
    first_digit d bs m =
        let l : d.worth < 10 = d.small in
        let no_minus : eqb (digit d) 0x2D ≡ false = ne_eqb (digit d) 0x2D (λ x. omega arith) in
        let is_number : numeric (digit d) ≡ true = rw (no_minus, le-leb 0x30 (digit d) (omega arith), le-leb (digit d) 0x39 (omega arith)) in
        first_byte (digit d) bs m (omega arith) is_number
        ∙ ap (λ (f : Figure). started (suc (length bs)) f s) (rw (le-leb 0x30 (digit d) (omega arith), le-leb (digit d) 0x39 (omega arith), back d))

    -- the whole part, and the minus before it
    whole_started : (m : Bool) (i : Whole) (end : List ℕ) → s.values ≢ rows_max
        → minus_does watching stopping m ks i end s ≡ started (length (minus_if m (T.whole i end))) (whole_figure i no_figure) s
    unfolding digited
    whole_started true T.nought end h =
        let t : Watch = started (suc (length (T.whole T.nought end))) no_figure s in
        ap (watching minus ks 0x30 end) (first_byte 0x2D (T.whole T.nought end) h (omega arith) refl) ∙ going minus ks 0x30 end t refl
    whole_started true (from d q ds) end h =
        let left : ℕ = suc (length (T.whole (from d q ds) end)) in
        let t : Watch = started left no_figure s in
        ap (whole_does watching stopping minus ks (from d q ds) end) (first_byte 0x2D (T.whole (from d q ds) end) h (omega arith) refl)
        ∙ ap (digits_do watching stopping whole ks ds end) (going minus ks (digit d) (digits ds end) t refl ∙ takes_minus (length ks) d (suc (length (digits ds end))) t)
        ∙ digits_figure whole whole_more takes_whole ds end (started left (whole_more no_figure d.worth) s) refl
    whole_started false T.nought end h = first_byte 0x30 end h (omega arith) refl
    whole_started false (from d q ds) end h =
        ap (digits_do watching stopping whole ks ds end) (first_digit d (digits ds end) h)
        ∙ digits_figure whole whole_more takes_whole ds end (started (suc (length (digits ds end))) (whole_more no_figure d.worth) s) refl

    number_figure : (n : Number) (rest : List ℕ) → s.values ≢ rows_max
        → number_does watching stopping ks n rest s ≡ ended (length ks) (started (length (number n rest)) (figure_of n) s)
    unfolding number_does figure_of
    number_figure n rest h =
        let end : List ℕ = fraction n.part (exponent n.power rest) in
        let left : ℕ = length (number n rest) in
        ap (λ (t : Watch). stopping ks (tail_does watching stopping (whole_end watching stopping n.integer) ks n.part n.power rest t)) (whole_started n.negative n.integer end h)
        ∙ ap (stopping ks) (whole_tail n.integer n.part n.power rest (started left (whole_figure n.integer no_figure) s) refl)
        ∙ stopped ks (started left (figure_of n) s) refl

    -- one value too many: the rest of the number moves nothing
    whole_over : (m : Bool) (i : Whole) (end : List ℕ) → s.values ≡ rows_max → minus_does watching stopping m ks i end s ≡ found 22 (length (minus_if m (T.whole i end))) s
    whole_over m i end h = go m i
      where
        no : (left : ℕ) → (found 22 left s).fault ≢ 0
        no left = λ x. omega arith

        go : (m : Bool) (i : Whole) → minus_does watching stopping m ks i end s ≡ found 22 (length (minus_if m (T.whole i end))) s
        go true i =
            let f : Watch = found 22 (suc (length (T.whole i end))) s in
            ap (whole_does watching stopping minus ks i end) (too_many 0x2D (T.whole i end) h (omega arith))
            ∙ whole_still watching stopping f (stays f (no (suc (length (T.whole i end))))) (stays_stopped f (no (suc (length (T.whole i end))))) minus ks i end
        go false T.nought = too_many 0x30 end h (omega arith)
        go false (from d q ds) =
            let l : d.worth < 10 = d.small in
            let f : Watch = found 22 (suc (length (digits ds end))) s in
            ap (digits_do watching stopping whole ks ds end) (too_many (digit d) (digits ds end) h (omega arith))
            ∙ digits_still watching stopping f (stays f (no (suc (length (digits ds end))))) (stays_stopped f (no (suc (length (digits ds end))))) whole ks ds end

    number_over : (n : Number) (rest : List ℕ) → s.values ≡ rows_max → number_does watching stopping ks n rest s ≡ found 22 (length (number n rest)) s
    unfolding number_does
    number_over n rest h =
        let end : List ℕ = fraction n.part (exponent n.power rest) in
        let f : Watch = found 22 (length (number n rest)) s in
        let no : f.fault ≢ 0 = λ x. omega arith in
        ap (λ (t : Watch). stopping ks (tail_does watching stopping (whole_end watching stopping n.integer) ks n.part n.power rest t)) (whole_over n.negative n.integer end h)
        ∙ ending_still watching stopping f (stays f no) (stays_stopped f no) (whole_end watching stopping n.integer) ks n.part n.power rest

    -- ---- what is told

    by_faults : (w d : Bool) (bs : List ℕ) (f : Figure) (later : List Start)
        → verdict (cond w (found 23 (length bs) (started (length bs) f s)) (cond d (found 24 (length bs) (started (length bs) f s)) (started (length bs) f s))) later
        ≡ told (or_else (cond w (some 23) (cond d (some 24) none)) bs (first_fault (suc s.values) (unnamed later)))
    unfolding told
    by_faults true d bs f later = refl
    by_faults false true bs f later = refl
    by_faults false false bs f later = refl

    pub number_told : (n : Number) (rest : List ℕ) (later : List Start) → length (number n rest) ≤ 65_536
        → verdict (number_does watching stopping ks n rest s) later
        ≡ verdict s (starting a_value (suc (length ks)) (number n rest) (wide number_max (exact_of n)) ∷ later)
    unfolding first_fault value_fault unnamed told ended
    number_told n rest later h =
        ⊎_elim
        (λ (m : s.values ≡ rows_max). ap (λ (t : Watch). verdict t later) (number_over n rest m) ∙ rw (eq-eqb s.fault 0 e, eq-eqb s.values rows_max m))
        (λ (m : s.values ≢ rows_max).
        ap (λ (t : Watch). verdict t later) (number_figure n rest m)
        ∙ rw (eq-eqb s.fault 0 e, ne_eqb s.values rows_max m, figure_wide n (few_digits n rest h)) (by_faults (wide number_max (exact_of n)) (eqb (suc (length ks)) level_refused) (number n rest) (figure_of n) later))
        (eq_or_not s.values rows_max)
