-- A fraction and an exponent as they are read.
-- Assumes nothing.
use mathlib.Core.Bool.{true, false}
use mathlib.Core.List.{List, [], ◌∷◌}
use mathlib.Core.Logic.{◌≢◌, ⊎_elim}
use mathlib.Core.Option.{none, some}
use mathlib.Core.Path.{◌≡◌, refl, sym, ap, ◌∙◌}
use Prim.Native.Nat.{ℕ, ◌+◌, ◌-◌, ◌*◌, ◌≤◌, ◌<◌}
use native.Mathlib.Omega.{arith}
use borrow.Author.Tests.{ne_eqb}
use lib.ListN.{length, get_or, drop, get_or-eq_default}
use Rattle.laws.proofs.Tests.{le_or_lt}
use Rattle.jsontext.specs.Text.{Digit, digit, digits, Fraction, fraction, Letter, capital, small, letter_e, Sign, unsigned, plus, minus, signed, Power, Exponent, exponent}
use Rattle.jsontext.specs.Number.{worth_after, worth, listed}
use Rattle.strings.proofs.Steps.{head_at, not_both}
use Rattle.numeral.specs.declared.Kept.{Kept}
use Rattle.numeral.specs.Numeral.{power_max, capped}
use Rattle.numeral.proofs.Digits.{power_held}
use Rattle.figures.specs.Figures.{is_letter, Stops, head_of, after, power_more, DigitsAt, DigitsRead, FractionAt, FractionRead, PowerRead, ExponentAt, ExponentRead}
use Rattle.figures.proofs.Digits.{apart, head_is}

-- a byte that is not 0 stands within the text
pub byte_inside : (json : List ℕ) (i : ℕ) → (get_or json i 0 ≡ 0 → ⊥) → i < length json
byte_inside json i n =
    ⊎_elim (λ (l : length json ≤ i). absurd (n (get_or-eq_default json 0 {n = i} l))) (λ (l : i < length json). l) (le_or_lt (length json) i)

pub letter_inside : (json : List ℕ) (i : ℕ) → is_letter (get_or json i 0) ≡ true → i < length json
letter_inside json i t = byte_inside json i (λ (z : get_or json i 0 ≡ 0). apart (is_letter (get_or json i 0)) t (ap is_letter z))

module _ (json : List ℕ) (i : ℕ) where
  -- ---- the fraction

  module _ (k : Kept) (q : FractionAt json i) where
    pub no_point_read : get_or json i 0 ≢ 0x2E → FractionRead json i k q i k 0
    unfolding after digits
    no_point_read n = go q.part q.spelled
      where
        go : (f : Fraction) (e : fraction f q.behind ≡ drop i json)
            → FractionRead json i k (record { part = f; behind = q.behind; spelled = e; no_digit = q.no_digit; no_point = q.no_point }) i k 0
        go none e = record { end = e; kept_is = refl; count = refl }
        go (some ds) e = absurd (n (head_at json i 0x2E (digits (listed ds) q.behind) e).byte)

    pub point_read : (j : ℕ) (r : Kept) → get_or json i 0 ≡ 0x2E → ((p : DigitsAt json (i + 1)) → DigitsRead json (i + 1) k p j r) → FractionRead json i k q j r (j - (i + 1))
    unfolding digits
    point_read j r b rec = go q.part q.spelled
      where
        go : (f : Fraction) (e : fraction f q.behind ≡ drop i json)
            → FractionRead json i k (record { part = f; behind = q.behind; spelled = e; no_digit = q.no_digit; no_point = q.no_point }) j r (j - (i + 1))
        go none e = absurd (q.no_point (head_is json i q.behind e ∙ b))
        go (some ds) e =
            let p : DigitsAt json (i + 1) =
            record { list = listed ds; behind = q.behind; spelled = (head_at json i 0x2E (digits (listed ds) q.behind) e).others; stop = q.no_digit } in
            let x = rec p in
            record { end = x.end; kept_is = x.kept_is; count = omega (arith, x.count) }

  -- ---- the exponent

  power_all : (p : ℕ) (ds : List Digit) → after power_more (capped power_max p) ds ≡ capped power_max (worth_after p ds)
  unfolding after worth_after
  power_all p [] = refl
  power_all p (d ∷ ds) = ap (λ (x : ℕ). after power_more x ds) (power_held p d.worth) ∙ power_all (p * 10 + d.worth) ds

  letter_is : (l : Letter) → is_letter (letter_e l) ≡ true
  letter_is capital = refl
  letter_is small = refl

  -- no letter stands where a number stops
  no_letter : (b : ℕ) → Stops b → is_letter b ≡ false
  no_letter b s = rw (ne_eqb b 0x45 s.no_capital, ne_eqb b 0x65 s.no_small)

  module _ (q : ExponentAt json i) where
    pub no_letter_read : is_letter (get_or json i 0) ≡ false → ExponentRead json i q i 0 0
    no_letter_read t = go q.power q.spelled
      where
        go : (x : Exponent) (e : exponent x q.behind ≡ drop i json) → ExponentRead json i (record { power = x; behind = q.behind; spelled = e; stop = q.stop }) i 0 0
        go none e = record { end = e; up_is = refl; down_is = refl }
        go (some x) e =
            apart (is_letter (get_or json i 0))
            (ap is_letter (head_at json i (letter_e x.letter) (signed x.sign (digit x.places.first ∷ digits x.places.others q.behind)) e).byte ∙ letter_is x.letter) t

    -- what stands behind the letter
    module _ (t : is_letter (get_or json i 0) ≡ true) (j r : ℕ) where
      abbrev Body : Power → List ℕ
      Body x = digit x.places.first ∷ digits x.places.others q.behind

      -- no exponent: the letter would end the number
      absent : {A : Type 0} → q.behind ≡ drop i json → A
      absent e = apart (is_letter (get_or json i 0)) t (ap is_letter (sym (head_is json i q.behind e)) ∙ no_letter (head_of q.behind) q.stop)

      -- the digits at place m
      digits_there : (x : Power) (m : ℕ) → Body x ≡ drop m json → DigitsAt json m
      unfolding digits
      digits_there x m e = record { list = listed x.places; behind = q.behind; spelled = e; stop = q.stop.no_digit }

      worth_there : (x : Power) (m : ℕ) (e : Body x ≡ drop m json) → PowerRead json m 0 (digits_there x m e) j r → r ≡ capped power_max (worth (listed x.places))
      unfolding digits_there digits
      worth_there x m e p = p.power_is ∙ power_all 0 (listed x.places)

      -- the byte behind the letter
      digit_there : (x : Power) (m b : ℕ) → Body x ≡ drop m json → get_or json m 0 ≡ b → b < 0x30 → ⊥
      digit_there x m b e z l = omega (arith, (head_at json m (digit x.places.first) (digits x.places.others q.behind) e).byte)

      pub minus_read : get_or json (i + 1) 0 ≡ 0x2D → ((p : DigitsAt json (i + 2)) → PowerRead json (i + 2) 0 p j r) → ExponentRead json i q j 0 r
      unfolding digits_there digits
      minus_read b rec = go q.power q.spelled
        where
          two : i + 1 + 1 ≡ i + 2
          two = omega arith

          go : (x : Exponent) (e : exponent x q.behind ≡ drop i json) → ExponentRead json i (record { power = x; behind = q.behind; spelled = e; stop = q.stop }) j 0 r
          go none e = absent e
          go (some x) e = by x.sign refl (head_at json i (letter_e x.letter) (signed x.sign (Body x)) e).others
            where
              by : (s : Sign) → x.sign ≡ s → signed x.sign (Body x) ≡ drop (i + 1) json
                  → ExponentRead json i (record { power = some x; behind = q.behind; spelled = e; stop = q.stop }) j 0 r
              by unsigned z f = absurd (digit_there x (i + 1) 0x2D (rw z at f) b (omega arith))
              by plus z f = not_both (get_or json (i + 1) 0) 0x2B 0x2D (head_at json (i + 1) 0x2B (Body x) (rw z at f)).byte b (λ y. omega arith)
              by minus z f =
                  let g : Body x ≡ drop (i + 2) json = (head_at json (i + 1) 0x2D (Body x) (rw z at f)).others ∙ ap (λ (m : ℕ). drop m json) two in
                  let p = rec (digits_there x (i + 2) g) in
                  record { end = p.end; up_is = rw z; down_is = rw z (worth_there x (i + 2) g p) }

      pub plus_read : get_or json (i + 1) 0 ≡ 0x2B → ((p : DigitsAt json (i + 2)) → PowerRead json (i + 2) 0 p j r) → ExponentRead json i q j r 0
      unfolding digits_there digits
      plus_read b rec = go q.power q.spelled
        where
          two : i + 1 + 1 ≡ i + 2
          two = omega arith

          go : (x : Exponent) (e : exponent x q.behind ≡ drop i json) → ExponentRead json i (record { power = x; behind = q.behind; spelled = e; stop = q.stop }) j r 0
          go none e = absent e
          go (some x) e = by x.sign refl (head_at json i (letter_e x.letter) (signed x.sign (Body x)) e).others
            where
              by : (s : Sign) → x.sign ≡ s → signed x.sign (Body x) ≡ drop (i + 1) json
                  → ExponentRead json i (record { power = some x; behind = q.behind; spelled = e; stop = q.stop }) j r 0
              by unsigned z f = absurd (digit_there x (i + 1) 0x2B (rw z at f) b (omega arith))
              by minus z f = not_both (get_or json (i + 1) 0) 0x2D 0x2B (head_at json (i + 1) 0x2D (Body x) (rw z at f)).byte b (λ y. omega arith)
              by plus z f =
                  let g : Body x ≡ drop (i + 2) json = (head_at json (i + 1) 0x2B (Body x) (rw z at f)).others ∙ ap (λ (m : ℕ). drop m json) two in
                  let p = rec (digits_there x (i + 2) g) in
                  record { end = p.end; up_is = rw z (worth_there x (i + 2) g p); down_is = rw z }

      pub unsigned_read : get_or json (i + 1) 0 ≢ 0x2D → get_or json (i + 1) 0 ≢ 0x2B → ((p : DigitsAt json (i + 1)) → PowerRead json (i + 1) 0 p j r) → ExponentRead json i q j r 0
      unfolding digits_there digits
      unsigned_read no_minus no_plus rec = go q.power q.spelled
        where
          go : (x : Exponent) (e : exponent x q.behind ≡ drop i json) → ExponentRead json i (record { power = x; behind = q.behind; spelled = e; stop = q.stop }) j r 0
          go none e = absent e
          go (some x) e = by x.sign refl (head_at json i (letter_e x.letter) (signed x.sign (Body x)) e).others
            where
              by : (s : Sign) → x.sign ≡ s → signed x.sign (Body x) ≡ drop (i + 1) json
                  → ExponentRead json i (record { power = some x; behind = q.behind; spelled = e; stop = q.stop }) j r 0
              by minus z f = absurd (no_minus (head_at json (i + 1) 0x2D (Body x) (rw z at f)).byte)
              by plus z f = absurd (no_plus (head_at json (i + 1) 0x2B (Body x) (rw z at f)).byte)
              by unsigned z f =
                  let g : Body x ≡ drop (i + 1) json = rw z at f in
                  let p = rec (digits_there x (i + 1) g) in
                  record { end = p.end; up_is = rw z (worth_there x (i + 1) g p); down_is = rw z }
