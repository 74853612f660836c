-- The first pass over a JSON text, as far as it looks for faults (02, #101: 22, 23, 24 and 26; 25 is not asked here). What is kept is moved on by each byte
-- beside the automaton (`along`), until a fault is found: the first that is found is the one that starts first. A place is told by how many bytes are left from there on.
-- Assumes nothing.
use Rattle.std.specs.Prelude.{Bool, cond, ◌&&◌, ◌||◌, not, ℕ, suc, ◌+◌, ◌-◌, ◌*◌, ◌%◌, eqb, leb, ltb, length}
use Rattle.jsontext.specs.Value.{is_high, is_low}
use Rattle.jsontext.specs.Automaton.{Left, hex1, hex2, hex3, hex4, Place, ahead, first_element, after, name, first_name, colon, word, minus, nought, whole, point, part, letter, sign, power, text, escape, unit, char}
use Rattle.jsontext.specs.Along.{Act}
use Rattle.escapes.specs.Escapes.{hex_at}
use Rattle.sheet.specs.Record.{rows_max}
use Rattle.sheet.specs.Faults.{level_refused}
use Rattle.figure.specs.declared.Figure.{Figure}
use Rattle.figure.specs.Figure.{no_figure, whole_more, part_more, power_back, power_more, figured}
use Rattle.survey.specs.declared.Escapes.{Escapes}
use Rattle.survey.specs.declared.Watch.{Watch}

abbrev pub no_escapes : Escapes
no_escapes = record { code = 0; here = 0; waits = 0; waiting = 0 }

-- before the first byte
abbrev pub watch : Watch
watch = record { fault = 0; left = 0; values = 0; start = 0; figure = no_figure; escapes = no_escapes }

-- a fault is found
abbrev pub found : ℕ → ℕ → Watch → Watch
found number left s = record { fault = number; left = left; values = s.values; start = s.start; figure = s.figure; escapes = s.escapes }

abbrev pub with_figure : Figure → Watch → Watch
with_figure f s = record { fault = s.fault; left = s.left; values = s.values; start = s.start; figure = f; escapes = s.escapes }

abbrev pub with_escapes : Escapes → Watch → Watch
with_escapes e s = record { fault = s.fault; left = s.left; values = s.values; start = s.start; figure = s.figure; escapes = e }

-- ---- values

abbrev pub is_digit : ℕ → Bool
is_digit b = leb 0x30 b && leb b 0x39

-- the byte is a number's first
abbrev pub numeric : ℕ → Bool
numeric b = eqb b 0x2D || is_digit b

-- the figure of a value's first byte
abbrev pub first_figure : ℕ → Figure
first_figure b = cond (is_digit b) (whole_more no_figure (b - 0x30)) no_figure

-- one value more
abbrev pub counted : ℕ → ℕ → Watch → Watch
counted b left s =
    record { fault = 0; left = 0; values = suc s.values; start = left; figure = first_figure b; escapes = no_escapes }

-- a value starts with the byte b, with so many brackets open; of a number it is asked at its end whether it is on level 33, since 23 comes before 24
unfoldable pub begun : ℕ → ℕ → ℕ → Watch → Watch
begun k b left s =
    cond (eqb s.values rows_max) (found 22 left s)
    (cond (eqb (suc k) level_refused && not (numeric b)) (found 24 left (counted b left s)) (counted b left s))

-- a number ends
unfoldable pub ended : ℕ → Watch → Watch
ended k s =
    cond (figured s.figure).wide (found 23 s.start s)
    (cond (eqb (suc k) level_refused) (found 24 s.start s) s)

-- ---- strings

-- a high surrogate that waits is lone, unless a low one follows directly
unfoldable pub parted : Watch → Watch
parted s = cond (eqb s.escapes.waits 0) s (found 26 s.escapes.waiting s)

abbrev pub wait_for : ℕ → ℕ → Escapes → Escapes
wait_for c left e = record { code = e.code; here = e.here; waits = c; waiting = left }

-- an escape of the code c is whole
unfoldable pub coded : ℕ → Watch → Watch
coded c s =
    cond (is_low c)
    (cond (eqb s.escapes.waits 0) (found 26 s.escapes.here s) (with_escapes (wait_for 0 0 s.escapes) s))
    (cond (eqb s.escapes.waits 0) (cond (is_high c) (with_escapes (wait_for c s.escapes.here s.escapes) s) s)
    (found 26 s.escapes.waiting s))

-- a backslash
abbrev pub slashed : ℕ → Watch → Watch
slashed left s = with_escapes (record { code = 0; here = left; waits = s.escapes.waits; waiting = s.escapes.waiting }) s

-- a hexadecimal digit; of the code so far no more than three digits are looked at, so that it stays small whatever the bytes are
abbrev pub code_more : ℕ → Watch → ℕ
code_more b s = s.escapes.code % 0x1000 * 16 + hex_at b

abbrev pub hexed : ℕ → Watch → Watch
hexed b s = with_escapes (record { code = code_more b s; here = s.escapes.here; waits = s.escapes.waits; waiting = s.escapes.waiting }) s

abbrev pub hex_done : Left → ℕ → Watch → Watch
hex_done hex4 b s = hexed b s
hex_done hex3 b s = hexed b s
hex_done hex2 b s = hexed b s
hex_done hex1 b s = coded (code_more b s) s

-- ---- a byte

-- with the byte a value starts here
abbrev pub opened : ℕ → ℕ → ℕ → Watch → Watch
opened k b left s = cond (ltb 0x20 b) (begun k b left s) s

-- a digit
unfoldable pub digited : (Figure → ℕ → Figure) → ℕ → Watch → Watch
digited more b s = cond (is_digit b) (with_figure (more s.figure (b - 0x30)) s) s

-- the byte behind a number
abbrev pub is_end : ℕ → Bool
is_end b = ltb b 0x2E || (eqb b 0x5D || eqb b 0x7D)

-- a digit, or a byte with which the number ends, or goes on without one
abbrev pub digit_or : (Figure → ℕ → Figure) → ℕ → ℕ → Watch → Watch
digit_or more k b s = cond (is_end b) (ended k s) (digited more b s)

-- with so many brackets open, and so many bytes left from this one on
abbrev pub moved : Place → ℕ → ℕ → ℕ → Watch → Watch
moved ahead k b left s = opened k b left s
moved first_element k b left s = cond (eqb b 0x5D) s (opened k b left s)
moved after k b left s = s
moved name k b left s = cond (ltb 0x20 b) (with_escapes no_escapes s) s
moved first_name k b left s = cond (ltb 0x20 b) (cond (eqb b 0x7D) s (with_escapes no_escapes s)) s
moved colon k b left s = s
moved (word w) k b left s = s
moved minus k b left s = digited whole_more b s
moved nought k b left s = digit_or whole_more k b s
moved whole k b left s = digit_or whole_more k b s
moved point k b left s = digited part_more b s
moved part k b left s = digit_or part_more k b s
moved letter k b left s = cond (eqb b 0x2D) (with_figure (power_back s.figure) s) (digited power_more b s)
moved sign k b left s = digited power_more b s
moved power k b left s = digit_or power_more k b s
moved (text r) k b left s = cond (eqb b 0x5C) (slashed left s) (parted s)
moved (escape r) k b left s = cond (eqb b 0x75) s (parted s)
moved (unit h r) k b left s = hex_done h b s
moved (char c r) k b left s = s

-- after a fault nothing is kept any more
unfoldable pub watching : Act Watch
watching p ks b bs s = cond (eqb s.fault 0) (moved p (length ks) b (suc (length bs)) s) s
