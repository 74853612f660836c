-- A number as it is read: its parts come one after the other, and what is kept of them gives its words.
--     number_read    the theorem
-- Assumes nothing.
use mathlib.Core.Bool.{Bool, true, false, cond, not, ◌&&◌}
use mathlib.Core.List.{List, [], ◌∷◌, ◌++◌}
use mathlib.Core.Logic.{◌≢◌}
use mathlib.Core.Option.{none, some}
use mathlib.Core.Path.{◌≡◌, refl, sym, ap, ◌∙◌}
use Prim.Native.Nat.{ℕ, suc, ◌+◌, ◌-◌, ◌*◌, ◌^◌, ◌≤◌, ◌<◌}
use native.Mathlib.Omega.{arith}
use borrow.Author.Tests.{leb-true, eq-eqb, ne_eqb}
use lib.Dec.{eqb, leb, lit<}
use lib.ListN.{length, get_or, drop}
use Rattle.laws.proofs.Tests.{right}
use Rattle.decimal.specs.Value.{scale_max}
use Rattle.sheet.specs.Kinds.{number_max}
use Rattle.jsontext.specs.Text.{Digit, digit, digits, Whole, nought, from, whole, Fraction, fraction, Letter, capital, small, letter_e, Sign, unsigned, plus, minus, Exponent, exponent, Number, minus_if}
use Rattle.jsontext.specs.Number.{Trimmed, trim_more, trim_after, trim, worth, whole_digits, listed, part_digits, right_by, left_by, right_of, left_of, exact_of, digits_room, room_for}
use Rattle.strings.proofs.Steps.{head_at}
use Rattle.numeral.specs.declared.Kept.{Kept}
use Rattle.numeral.specs.Numeral.{Writing, power_max, capped, kept_more, written_of, word_of}
use Rattle.numeral.proofs.Caps.{capped_most}
use Rattle.numeral.proofs.Digits.{Held, held_more, kept_written, right_written, left_written}
use Rattle.numeral.proofs.Writing.{written_words}
use Rattle.figures.specs.Figures.{is_digit, Stops, head_of, after, kept_all, DigitsAt, DigitsRead, FractionAt, FractionRead, ExponentAt, ExponentRead, NumberAt, NumberRead}

-- ---- what is kept

abbrev no_digits : Kept
no_digits = record { kept = 0; zeros = 0 }

kept_low : (k : Kept) (d : ℕ) → (kept_more k d).kept ≤ suc number_max
unfolding kept_more
kept_low k d = capped_most number_max (trim_more (record { kept = k.kept; zeros = k.zeros }) d).kept

held_all : (t : Trimmed) (k : Kept) (ds : List Digit) → k.kept ≤ suc number_max → Held t k → Held (trim_after t ds) (kept_all k ds)
unfolding trim_after after
held_all t k [] l h = h
held_all t k (d ∷ ds) l h = held_all (trim_more t d.worth) (kept_more k d.worth) ds (kept_low k d.worth) (held_more t k d.worth l h)

after_low : (k : Kept) (ds : List Digit) → k.kept ≤ suc number_max → (kept_all k ds).kept ≤ suc number_max
unfolding after
after_low k [] l = l
after_low k (d ∷ ds) l = after_low (kept_more k d.worth) ds (kept_low k d.worth)

trim_append : (t : Trimmed) (a b : List Digit) → trim_after t (a ++ b) ≡ trim_after (trim_after t a) b
unfolding trim_after
trim_append t [] b = refl
trim_append t (d ∷ a) b = trim_append (trim_more t d.worth) a b

-- a whole part's digits, the leading 0 among them
nought_digit : Digit
nought_digit = record { worth = 0; small = lit< tt }

abbrev whole_list : Whole → List Digit
whole_list nought = nought_digit ∷ []
whole_list (from d p ds) = d ∷ ds

whole_held : (w : Whole) → Held (trim_after (record { kept = 0; zeros = 0 }) (whole_digits w)) (kept_all no_digits (whole_list w))
unfolding trim_after after kept_more trim_more nought_digit
whole_held nought = record { kept_is = refl; zeros_are = refl }
whole_held (from d p ds) = held_all (record { kept = 0; zeros = 0 }) no_digits (d ∷ ds) (omega arith) (record { kept_is = refl; zeros_are = refl })

whole_spelled : (w : Whole) (rest : List ℕ) → whole w rest ≡ digits (whole_list w) rest
unfolding digits nought_digit
whole_spelled nought rest = refl
whole_spelled (from d p ds) rest = refl

-- ---- what is written

-- digits that are written are few enough
pub written_few : (kept up down : ℕ) → (written_of kept up down).digits ≤ number_max
unfolding written_of
written_few kept up down = go (room_for number_max kept up down) (eqb kept 0) refl refl
  where
    go : (r z : Bool) → room_for number_max kept up down ≡ r → eqb kept 0 ≡ z
        → (cond {A = Writing} (not r) (record { wide = true; digits = 0; scale = 0 })
        (cond z (record { wide = false; digits = 0; scale = 0 }) (record { wide = false; digits = kept * 10 ^ (up - down); scale = down - up }))).digits ≤ number_max
    go false z e f = omega arith
    go true true e f = omega arith
    go true false e f =
        let g : (leb down (up + scale_max) && (leb up (down + digits_room) && leb (kept * 10 ^ (up - down)) number_max)) ≡ true = rw f at e in
        leb-true (kept * 10 ^ (up - down)) number_max
        (right (leb up (down + digits_room)) (leb (kept * 10 ^ (up - down)) number_max) (right (leb down (up + scale_max)) (leb up (down + digits_room) && leb (kept * 10 ^ (up - down)) number_max) g))

-- exponents are held up to a bound
module _ (kept zeros places : ℕ) (few : zeros ≤ 65_536) (short : places ≤ 65_536) where
  same : (a b c d : ℕ) → a ≡ b → c ≡ d → written_of kept a c ≡ written_of kept b d
  same a b c d e f = rw (e, f)

  shift : (s : Sign) (w : ℕ)
      → written_of (capped number_max kept) (capped power_max (right_by s w) + zeros) (capped power_max (left_by s w) + places) ≡ written_of kept (right_by s w + zeros) (places + left_by s w)
  shift unsigned w =
      kept_written kept (capped power_max w + zeros) (0 + places)
      ∙ same (capped power_max w + zeros) (capped power_max w + zeros) (0 + places) places refl (omega arith)
      ∙ right_written kept zeros places few short w
      ∙ same (w + zeros) (w + zeros) places (places + 0) refl (omega arith)
  shift plus w =
      kept_written kept (capped power_max w + zeros) (0 + places)
      ∙ same (capped power_max w + zeros) (capped power_max w + zeros) (0 + places) places refl (omega arith)
      ∙ right_written kept zeros places few short w
      ∙ same (w + zeros) (w + zeros) places (places + 0) refl (omega arith)
  shift minus w =
      kept_written kept (0 + zeros) (capped power_max w + places)
      ∙ same (0 + zeros) zeros (capped power_max w + places) (places + capped power_max w) (omega arith) (swapped (capped power_max w))
      ∙ left_written kept zeros places few short w
      ∙ same zeros (0 + zeros) (places + w) (places + w) (omega arith) refl
    where
      swapped : (n : ℕ) → n + places ≡ places + n
      swapped n = omega arith

  shifts : (x : Exponent)
      → written_of (capped number_max kept) (capped power_max (right_of x) + zeros) (capped power_max (left_of x) + places) ≡ written_of kept (right_of x + zeros) (places + left_of x)
  shifts none = shift unsigned 0
  shifts (some e) = shift e.sign (worth (listed e.places))

-- ---- the parts, one after the other

letter_stop : (l : Letter) → (is_digit (letter_e l) ≡ false) × (letter_e l ≢ 0x2E)
letter_stop capital = (refl, λ z. omega arith)
letter_stop small = (refl, λ z. omega arith)

exponent_stop : (x : Exponent) (rest : List ℕ) → Stops (head_of rest) → (is_digit (head_of (exponent x rest)) ≡ false) × (head_of (exponent x rest) ≢ 0x2E)
exponent_stop none rest s = (s.no_digit, s.no_point)
exponent_stop (some e) rest s = letter_stop e.letter

fraction_stop : (f : Fraction) (x : Exponent) (rest : List ℕ) → Stops (head_of rest) → is_digit (head_of (fraction f (exponent x rest))) ≡ false
fraction_stop none x rest s = (exponent_stop x rest s).0
fraction_stop (some ds) x rest s = refl

minus_there : (json : List ℕ) (i : ℕ) (b : Bool) (w : Whole) (rest : List ℕ) → minus_if b (whole w rest) ≡ drop i json
    → (eqb (get_or json i 0) 0x2D ≡ b) × (whole w rest ≡ drop (i + cond b 1 0) json)
minus_there json i true w rest e = let h = head_at json i 0x2D (whole w rest) e in (eq-eqb (get_or json i 0) 0x2D h.byte, h.others)
minus_there json i false w rest e =
    (ne_eqb (get_or json i 0) 0x2D (λ (z : get_or json i 0 ≡ 0x2D). first w e z), e ∙ ap (λ (j : ℕ). drop j json) zero_more)
  where
    zero_more : i ≡ i + 0
    zero_more = omega arith

    first : (w : Whole) → whole w rest ≡ drop i json → get_or json i 0 ≡ 0x2D → ⊥
    first nought f z = omega (arith, (head_at json i 0x30 rest f).byte)
    first (from d p ds) f z = omega (arith, (head_at json i (digit d) (digits ds rest) f).byte)

module _ (json : List ℕ) (start : ℕ) (q : NumberAt json start) where
  abbrev fig : Number
  fig = q.figure

  abbrev exp_rest : List ℕ
  exp_rest = exponent fig.power q.behind

  abbrev frac_rest : List ℕ
  frac_rest = fraction fig.part exp_rest

  begun : (eqb (get_or json start 0) 0x2D ≡ fig.negative) × (whole fig.integer frac_rest ≡ drop (start + cond fig.negative 1 0) json)
  begun = minus_there json start fig.negative fig.integer frac_rest q.spelled

  module _ (below : Bool) (first wto pto eto up down places : ℕ) (wk pk : Kept) (w : Writing) (word : ℕ)
      (below_is : below ≡ eqb (get_or json start 0) 0x2D) (first_is : first ≡ start + cond below 1 0)
      (whole_read : (p : DigitsAt json first) → DigitsRead json first no_digits p wto wk)
      (part_read : (p : FractionAt json wto) → FractionRead json wto wk p pto pk places)
      (power_read : (p : ExponentAt json pto) → ExponentRead json pto p eto up down)
      (on : (wto ≤ pto) × (pto ≤ eto)) (few : pk.zeros ≤ 65_536) (short : places ≤ 65_536)
      (written_is : w ≡ written_of pk.kept (up + pk.zeros) (down + places)) (word_is : word ≡ word_of below w.digits) where
    below_so : below ≡ fig.negative
    below_so = below_is ∙ begun.0

    whole_at : DigitsAt json first
    whole_at =
        record {
          list = whole_list fig.integer;
          behind = frac_rest;
          spelled = sym (whole_spelled fig.integer frac_rest) ∙ begun.1 ∙ ap (λ (b : Bool). drop (start + cond b 1 0) json) (sym below_so) ∙ ap (λ (j : ℕ). drop j json) (sym first_is);
          stop = fraction_stop fig.part fig.power q.behind q.stop;
        }

    part_at : FractionAt json wto
    unfolding whole_at
    part_at =
        let s = exponent_stop fig.power q.behind q.stop in
        record { part = fig.part; behind = exp_rest; spelled = (whole_read whole_at).end; no_digit = s.0; no_point = s.1 }

    power_at : ExponentAt json pto
    unfolding part_at
    power_at = record { power = fig.power; behind = q.behind; spelled = (part_read part_at).end; stop = q.stop }

    -- what is kept of all the digits
    abbrev all : Trimmed
    all = trim (whole_digits fig.integer ++ part_digits fig.part)

    held : Held all pk
    unfolding whole_at part_at
    held =
        let k = (whole_read whole_at).kept_is in
        let p = (part_read part_at).kept_is in
        rw (trim_append (record { kept = 0; zeros = 0 }) (whole_digits fig.integer) (part_digits fig.part), p, k)
        (held_all (trim_after (record { kept = 0; zeros = 0 }) (whole_digits fig.integer)) (kept_all no_digits (whole_list fig.integer)) (part_digits fig.part)
        (after_low no_digits (whole_list fig.integer) (omega arith)) (whole_held fig.integer))

    written_so : w ≡ written_of all.kept (right_of fig.power + all.zeros) (length (part_digits fig.part) + left_of fig.power)
    unfolding part_at power_at
    written_so =
        let e = power_read power_at in
        let z = held.zeros_are in
        let n = (part_read part_at).count in
        written_is ∙ rw (held.kept_is, e.up_is, e.down_is, ← z, n)
        (shifts all.kept pk.zeros (length (part_digits fig.part)) few (rw (← n) short) fig.power)

    pub number_read : NumberRead json start q eto word w.scale
    unfolding exact_of power_at whole_at
    number_read =
        let x = written_words (exact_of fig) q.narrow in
        record {
          end = (power_read power_at).end;
          word_is = word_is ∙ rw (below_so, written_so) x.word;
          scale_is = rw written_so x.scale;
          forward = omega (arith, (whole_read whole_at).count, some_digits fig.integer, on.0, on.1, first_is);
        }
      where
        some_digits : (v : Whole) → 0 < length (whole_list v)
        some_digits nought = omega arith
        some_digits (from d p ds) = omega arith
