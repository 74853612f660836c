-- A number of a JSON text under way, byte by byte: its digits without the zeros at their end, how many of them stand behind the point, and the exponent.
-- Assumes nothing.
use Rattle.std.specs.Prelude.{true, false, cond, List, [], ◌∷◌, ◌≡◌, ℕ, suc, ◌+◌, ◌*◌, ◌≤◌, ◌<◌}
use Rattle.std.proofs.Math.Option.{none, some}
use Rattle.sheet.specs.Kinds.{number_max}
use Rattle.jsontext.specs.Text.{Digit, Digits, Whole, nought, from, Fraction, Sign, unsigned, plus, minus, Exponent, Number}
use Rattle.jsontext.specs.Number.{listed}
use Rattle.numeral.specs.declared.Kept.{Kept}
use Rattle.numeral.specs.Numeral.{power_max, capped, kept_more, Writing, written_of}
use Rattle.figure.specs.declared.Figure.{Figure}

-- before the first digit
abbrev pub no_figure : Figure
no_figure = record { kept = 0; zeros = 0; places = 0; back = false; power = 0 }

abbrev pub kept_of : Figure → Kept
kept_of f = record { kept = f.kept; zeros = f.zeros }

abbrev pub with_kept : Kept → ℕ → Figure → Figure
with_kept k places f = record { kept = k.kept; zeros = k.zeros; places = places; back = f.back; power = f.power }

-- a digit of the whole part; one behind the point
abbrev pub whole_more : Figure → ℕ → Figure
whole_more f d = with_kept (kept_more (kept_of f) d) f.places f

abbrev pub part_more : Figure → ℕ → Figure
part_more f d = with_kept (kept_more (kept_of f) d) (f.places + 1) f

-- the minus of the exponent; a digit of it
abbrev pub power_back : Figure → Figure
power_back f = record { kept = f.kept; zeros = f.zeros; places = f.places; back = true; power = f.power }

abbrev pub power_more : Figure → ℕ → Figure
power_more f d = record { kept = f.kept; zeros = f.zeros; places = f.places; back = f.back; power = capped power_max (f.power * 10 + d) }

-- the digits and the scale of the number, or that no row can hold it
unfoldable pub figured : Figure → Writing
figured f = written_of f.kept (cond f.back 0 f.power + f.zeros) (f.places + cond f.back f.power 0)

-- ---- all of a number

unfoldable pub digits_more : (Figure → ℕ → Figure) → Figure → List Digit → Figure
digits_more more f [] = f
digits_more more f (d ∷ ds) = digits_more more (more f d.worth) ds

abbrev pub whole_figure : Whole → Figure → Figure
whole_figure nought f = whole_more f 0
whole_figure (from d q ds) f = digits_more whole_more (whole_more f d.worth) ds

abbrev pub part_figure : Fraction → Figure → Figure
part_figure none f = f
part_figure (some ds) f = digits_more part_more f (listed ds)

abbrev pub sign_figure : Sign → Figure → Figure
sign_figure unsigned f = f
sign_figure plus f = f
sign_figure minus f = power_back f

abbrev pub power_figure : Exponent → Figure → Figure
power_figure none f = f
power_figure (some e) f = digits_more power_more (sign_figure e.sign f) (listed e.places)

unfoldable pub figure_of : Number → Figure
figure_of n = power_figure n.power (part_figure n.part (whole_figure n.integer no_figure))

-- ---- what is kept is within bounds

pub record Fair (f : Figure) : Type 0 where
  pub bounded : f.kept ≤ suc number_max
  pub no_zeros : f.kept ≡ 0 → f.zeros ≡ 0
  pub few : f.zeros < power_max
  pub short : f.places < power_max
  pub held : f.power ≤ suc power_max
