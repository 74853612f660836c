-- What is kept of a number in the end is what its row is written by.
--     figure_written    the theorem
--     figure_wide       so it is too wide exactly where the text's number is
-- Assumes nothing.
use mathlib.Core.Bool.{Bool, true, false, cond}
use mathlib.Core.List.{List, [], ◌∷◌, ◌++◌}
use mathlib.Core.Logic.{⊎_elim}
use mathlib.Core.Option.{none, some}
use mathlib.Core.Path.{◌≡◌, refl, sym, ap, ◌∙◌}
use Prim.Native.Nat.{ℕ, zero, suc, ◌+◌, ◌*◌, ◌≤◌, ◌<◌}
use native.Mathlib.Omega.{arith}
use lib.ListN.{length, length-append}
use Rattle.sheet.specs.Kinds.{number_max}
use Rattle.jsontext.specs.Text.{Digit, Digits, digit, digits, digits1, Whole, nought, from, whole, Fraction, fraction, Sign, unsigned, plus, minus, signed, Exponent, exponent, Number, minus_if, number}
use Rattle.jsontext.specs.Number.{Trimmed, trim_more, trim_after, trim, worth_after, worth, listed, whole_digits, part_digits, right_by, left_by, right_of, left_of, Exact, exact_of, wide}
use Rattle.jsontext.proofs.Trimming.{by_zero, more_zero, more_tail, more_digit}
use Rattle.numeral.specs.declared.Kept.{Kept}
use Rattle.numeral.specs.Numeral.{Writing, power_max, capped, kept_more, written_of}
use Rattle.numeral.proofs.Caps.{capped_most, capped_low, kept_none}
use Rattle.numeral.proofs.Digits.{Held, held_more, power_held, kept_written, right_written, left_written}
use Rattle.numeral.proofs.Writing.{written_wide_is}
use Rattle.figure.specs.declared.Figure.{Figure}
use Rattle.figure.specs.Figure.{no_figure, kept_of, with_kept, whole_more, part_more, power_back, power_more, figured, digits_more, whole_figure, part_figure, sign_figure, power_figure, figure_of}

-- ---- the digits

unfoldable kept_after : Kept → List Digit → Kept
kept_after k [] = k
kept_after k (d ∷ ds) = kept_after (kept_more k d.worth) ds

kept_append : (ds es : List Digit) (k : Kept) → kept_after k (ds ++ es) ≡ kept_after (kept_after k ds) es
unfolding kept_after
kept_append [] es k = refl
kept_append (d ∷ ds) es k = kept_append ds es (kept_more k d.worth)

wholes_are : (ds : List Digit) (f : Figure) → digits_more whole_more f ds ≡ with_kept (kept_after (kept_of f) ds) f.places f
unfolding digits_more kept_after
wholes_are [] f = refl
wholes_are (d ∷ ds) f = wholes_are ds (whole_more f d.worth)

parts_are : (ds : List Digit) (f : Figure) → digits_more part_more f ds ≡ with_kept (kept_after (kept_of f) ds) (f.places + length ds) f
unfolding digits_more kept_after
parts_are [] f = ap (λ (n : ℕ). with_kept (kept_of f) n f) (omega arith)
parts_are (d ∷ ds) f =
    parts_are ds (part_more f d.worth)
    ∙ ap (λ (n : ℕ). with_kept (kept_after (kept_more (kept_of f) d.worth) ds) n f) (omega arith)

held_after : (ds : List Digit) (t : Trimmed) (k : Kept) → Held t k → Held (trim_after t ds) (kept_after k ds)
unfolding trim_after kept_after
held_after [] t k h = h
held_after (d ∷ ds) t k h =
    held_after ds (trim_more t d.worth) (kept_more k d.worth) (held_more t k d.worth (rw h.kept_is (capped_most number_max t.kept)) h)

-- no more zeros than digits
zeros_step : (t : Trimmed) (d : ℕ) → (trim_more t d).zeros ≤ t.zeros + 1
zeros_step t d =
    ⊎_elim
    (λ (e : d ≡ 0). ⊎_elim (λ (k : t.kept ≡ 0). rw (more_zero t d e k) (omega arith)) (λ (k : t.kept ≡ 0 → ⊥). rw (more_tail t d e k) (omega arith)) (by_zero t.kept))
    (λ (e : d ≡ 0 → ⊥). rw (more_digit t d e) (omega arith))
    (by_zero d)

zeros_few : (ds : List Digit) (t : Trimmed) → (trim_after t ds).zeros ≤ t.zeros + length ds
unfolding trim_after
zeros_few [] t = omega arith
zeros_few (d ∷ ds) t = omega (arith, zeros_few ds (trim_more t d.worth), zeros_step t d.worth)

-- ---- the exponent

powers_are : (ds : List Digit) (m : ℕ) (f : Figure) → f.power ≡ capped power_max m
    → digits_more power_more f ds ≡ record { kept = f.kept; zeros = f.zeros; places = f.places; back = f.back; power = capped power_max (worth_after m ds) }
unfolding digits_more worth_after
powers_are [] m f e = ap (λ (p : ℕ). record { kept = f.kept; zeros = f.zeros; places = f.places; back = f.back; power = p }) e
powers_are (d ∷ ds) m f e =
    powers_are ds (m * 10 + d.worth) (power_more f d.worth) (ap (λ (p : ℕ). capped power_max (p * 10 + d.worth)) e ∙ power_held m d.worth)

-- ---- writing

pub figured_back : (f : Figure) → f.back ≡ true → figured f ≡ written_of f.kept f.zeros (f.places + f.power)
unfolding figured
figured_back f e = rw e (ap (λ (n : ℕ). written_of f.kept n (f.places + f.power)) (omega arith))

pub figured_on : (f : Figure) → f.back ≡ false → figured f ≡ written_of f.kept (f.power + f.zeros) f.places
unfolding figured
figured_on f e = rw e (ap (λ (n : ℕ). written_of f.kept (f.power + f.zeros) n) (omega arith))

-- what is kept of the digits of a number, before its exponent
abbrev all_digits : Number → List Digit
all_digits n = whole_digits n.integer ++ part_digits n.part

abbrev shown : Kept → ℕ → Figure
shown k places = record { kept = k.kept; zeros = k.zeros; places = places; back = false; power = 0 }

abbrev none_kept : Kept
none_kept = record { kept = 0; zeros = 0 }

whole_is : (i : Whole) → whole_figure i no_figure ≡ shown (kept_after none_kept (whole_digits i)) 0
unfolding kept_after
whole_is nought = ap (λ (k : Kept). shown k 0) (kept_none none_kept 0 refl refl)
whole_is (from d q ds) = wholes_are ds (whole_more no_figure d.worth)

-- a record is what its fields are
kept_fields : (k : Kept) → record { kept = k.kept; zeros = k.zeros } ≡ k
kept_fields k = refl

part_is : (x : Fraction) (k : Kept) → part_figure x (shown k 0) ≡ shown (kept_after k (part_digits x)) (length (part_digits x))
unfolding kept_after
part_is none k = refl
part_is (some ds) k = parts_are (listed ds) (shown k 0) ∙ ap (λ (j : Kept). shown (kept_after j (listed ds)) (0 + length (listed ds))) (kept_fields k) ∙ ap (shown (kept_after k (listed ds))) (omega arith)

digits_are : (n : Number) → part_figure n.part (whole_figure n.integer no_figure) ≡ shown (kept_after none_kept (all_digits n)) (length (part_digits n.part))
digits_are n =
    ap (part_figure n.part) (whole_is n.integer)
    ∙ part_is n.part (kept_after none_kept (whole_digits n.integer))
    ∙ ap (λ (k : Kept). shown k (length (part_digits n.part))) (sym (kept_append (whole_digits n.integer) (part_digits n.part) none_kept))

-- by the exponent
module _ (t : Trimmed) (k : Kept) (h : Held t k) (places : ℕ) (few : t.zeros ≤ 65_536) (short : places ≤ 65_536) where
  same : (up down : ℕ) → written_of k.kept (up + k.zeros) down ≡ written_of t.kept (up + t.zeros) down
  same up down = rw (h.kept_is, h.zeros_are) (kept_written t.kept (up + t.zeros) down)

  bare : (down : ℕ) → written_of k.kept k.zeros down ≡ written_of t.kept t.zeros down
  bare down = rw (h.kept_is, h.zeros_are) (kept_written t.kept t.zeros down)

  exponent_is : (x : Exponent) → figured (power_figure x (shown k places)) ≡ written_of t.kept (right_of x + t.zeros) (places + left_of x)
  exponent_is none = figured_on (shown k places) refl ∙ same 0 places ∙ ap (written_of t.kept (0 + t.zeros)) (omega arith)
  exponent_is (some e) = by_sign e.sign
    where
      ds : List Digit
      ds = listed e.places

      p : ℕ
      p = worth ds

      onward : (b : Bool) → Figure
      onward b = record { kept = k.kept; zeros = k.zeros; places = places; back = b; power = capped power_max p }

      ahead : figured (digits_more power_more (shown k places) ds) ≡ written_of t.kept (p + t.zeros) (places + 0)
      ahead =
          ap figured (powers_are ds 0 (shown k places) (sym (capped_low power_max 0 (omega arith))))
          ∙ figured_on (onward false) refl
          ∙ same (capped power_max p) places
          ∙ right_written t.kept t.zeros places few short p
          ∙ ap (written_of t.kept (p + t.zeros)) (omega arith)

      behind : figured (digits_more power_more (power_back (shown k places)) ds) ≡ written_of t.kept (0 + t.zeros) (places + p)
      behind =
          ap figured (powers_are ds 0 (power_back (shown k places)) (sym (capped_low power_max 0 (omega arith))))
          ∙ figured_back (onward true) refl
          ∙ bare (places + capped power_max p)
          ∙ left_written t.kept t.zeros places few short p
          ∙ ap (λ (z : ℕ). written_of t.kept z (places + p)) (omega arith)

      by_sign : (s : Sign) → figured (digits_more power_more (sign_figure s (shown k places)) ds) ≡ written_of t.kept (right_by s p + t.zeros) (places + left_by s p)
      by_sign unsigned = ahead
      by_sign plus = ahead
      by_sign minus = behind

pub figure_written : (n : Number) → length (all_digits n) ≤ 65_536
    → figured (figure_of n) ≡ written_of (trim (exact_of n).digits).kept ((exact_of n).up + (trim (exact_of n).digits).zeros) (exact_of n).down
unfolding figure_of exact_of
figure_written n h =
    let ds : List Digit = all_digits n in
    let t : Trimmed = trim ds in
    let k : Kept = kept_after none_kept ds in
    let few = zeros_few ds (record { kept = 0; zeros = 0 }) in
    ap (λ (f : Figure). figured (power_figure n.power f)) (digits_are n)
    ∙ exponent_is t k (held_after ds (record { kept = 0; zeros = 0 }) none_kept (record { kept_is = sym (capped_low number_max 0 (omega arith)); zeros_are = refl })) (length (part_digits n.part)) (omega arith) (omega (arith, length-append (whole_digits n.integer) (part_digits n.part))) n.power

pub figure_wide : (n : Number) → length (all_digits n) ≤ 65_536 → (figured (figure_of n)).wide ≡ wide number_max (exact_of n)
figure_wide n h = ap (λ (w : Writing). w.wide) (figure_written n h) ∙ written_wide_is (exact_of n)

-- a number has no more digits than bytes
digits_long : (ds : List Digit) (bs : List ℕ) → length (digits ds bs) ≡ length ds + length bs
unfolding digits
digits_long [] bs = omega arith
digits_long (d ∷ ds) bs = omega (arith, digits_long ds bs)

whole_long : (i : Whole) (bs : List ℕ) → length (whole_digits i) + length bs ≤ length (whole i bs)
whole_long nought bs = omega arith
whole_long (from d q ds) bs = omega (arith, digits_long ds bs)

part_long : (x : Fraction) (bs : List ℕ) → length (part_digits x) + length bs ≤ length (fraction x bs)
part_long none bs = omega arith
part_long (some ds) bs = omega (arith, digits_long ds.others bs)

minus_long : (m : Bool) (bs : List ℕ) → length bs ≤ length (minus_if m bs)
minus_long true bs = omega arith
minus_long false bs = omega arith

pub few_digits : (n : Number) (bs : List ℕ) → length (number n bs) ≤ 65_536 → length (all_digits n) ≤ 65_536
few_digits n bs h =
    let x : List ℕ = exponent n.power bs in
    let f : List ℕ = fraction n.part x in
    omega (arith, minus_long n.negative (whole n.integer f), whole_long n.integer f, part_long n.part x, length-append (whole_digits n.integer) (part_digits n.part))
