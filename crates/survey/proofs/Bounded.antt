-- What is kept stays within bounds, whatever the byte is.
--     Bounded         after n bytes
--     bounded_moved   after one more
--     bounded_sound   these are the bounds that the code asks for, if the text is not too long
-- Assumes nothing.
use mathlib.Core.Bool.{Bool, true, false, cond, ◌&&◌, not}
use mathlib.Core.Logic.{◌≢◌, ⊎_elim}
use mathlib.Core.Path.{◌≡◌, refl}
use Prim.Native.Nat.{ℕ, suc, ◌-◌, ◌≤◌, ◌<◌}
use native.Mathlib.Omega.{arith}
use borrow.Author.Tests.{eqb-false}
use lib.Dec.{eqb, ltb}
use Rattle.laws.proofs.Tests.{le_or_lt}
use Rattle.jsontext.specs.Value.{is_high, is_low}
use Rattle.jsontext.specs.Automaton.{Left, hex1, hex2, hex3, hex4, Place, ahead, first_element, after, name, first_name, colon, word, minus, nought, whole, point, part, letter, sign, power, text, escape, unit, char}
use Rattle.escapes.specs.Escapes.{hex_at}
use Rattle.escapes.proofs.Escaped.{at_digit, at_capital, at_small}
use Rattle.sheet.specs.Record.{rows_max}
use Rattle.sheet.specs.Faults.{level_refused}
use Rattle.figure.specs.declared.Figure.{Figure}
use Rattle.figure.specs.Figure.{no_figure, whole_more, part_more, power_back, power_more, figured}
use Rattle.figure.proofs.Bounds.{Kin, kin_none, kin_whole, kin_part, kin_back, kin_power, kin_more, kin_fair}
use Rattle.survey.specs.declared.Watch.{Watch}
use Rattle.survey.specs.Bounds.{Sound}
use Rattle.survey.specs.Watching.{found, with_figure, with_escapes, no_escapes, numeric, is_digit, first_figure, counted, begun, ended, parted, wait_for, coded, slashed, code_more, hexed, hex_done, opened, digited, digit_or, is_end, moved}

pub record Bounded (n : ℕ) (s : Watch) : Type 0 where
  pub kin : Kin n s.figure
  pub few : s.values ≤ rows_max
  pub small : s.escapes.code < 0x20000

pub bounded_sound : (n : ℕ) (s : Watch) → n ≤ 65_536 → Bounded n s → Sound s
bounded_sound n s h b = record { fair = kin_fair n s.figure h b.kin; few = b.few; small = b.small }

hex_low : (b : ℕ) → b < 256 → hex_at b < 256
hex_low b h =
    ⊎_elim
    (λ (l : b ≤ 0x39). omega (arith, at_digit b l))
    (λ (l : 0x39 < b). ⊎_elim (λ (m : b ≤ 0x46). omega (arith, at_capital b l m)) (λ (m : 0x46 < b). omega (arith, at_small b m)) (le_or_lt b 0x46))
    (le_or_lt b 0x39)

module _ (n b : ℕ) (byte : b < 256) where
  -- by a test
  either : (t : Bool) (x y : Watch) → Bounded (suc n) x → Bounded (suc n) y → Bounded (suc n) (cond t x y)
  either true x y p q = p
  either false x y p q = q

  module _ (s : Watch) (h : Bounded n s) where
    pub same : Bounded (suc n) s
    same = record { kin = kin_more n (suc n) s.figure (omega arith) h.kin; few = h.few; small = h.small }

    at_fault : (number left : ℕ) → Bounded (suc n) (found number left s)
    at_fault number left = record { kin = same.kin; few = h.few; small = h.small }

    with_code : (c here waits waiting : ℕ) → c < 0x20000 → Bounded (suc n) (with_escapes (record { code = c; here = here; waits = waits; waiting = waiting }) s)
    with_code c here waits waiting l = record { kin = same.kin; few = h.few; small = l }

    with_figure_lem : (f : Figure) → Kin (suc n) f → Bounded (suc n) (with_figure f s)
    with_figure_lem f k = record { kin = k; few = h.few; small = h.small }

    first_kin : Kin (suc n) (first_figure b)
    first_kin = go (is_digit b)
      where
        go : (t : Bool) → Kin (suc n) (cond t (whole_more no_figure (b - 0x30)) no_figure)
        go true = kin_whole n no_figure (b - 0x30) (kin_none n)
        go false = kin_none (suc n)

    begins : (k left : ℕ) → Bounded (suc n) (begun k b left s)
    unfolding begun
    begins k left = go (eqb s.values rows_max) refl
      where
        go : (t : Bool) → eqb s.values rows_max ≡ t
            → Bounded (suc n) (cond t (found 22 left s) (cond (eqb (suc k) level_refused && not (numeric b)) (found 24 left (counted b left s)) (counted b left s)))
        go true e = at_fault 22 left
        go false e =
            let l : s.values ≢ rows_max = eqb-false s.values rows_max e in
            let more : suc s.values ≤ rows_max = omega (arith, h.few) in
            either (eqb (suc k) level_refused && not (numeric b)) (found 24 left (counted b left s)) (counted b left s)
            (record { kin = first_kin; few = more; small = omega arith })
            (record { kin = first_kin; few = more; small = omega arith })

    opens : (k left : ℕ) → Bounded (suc n) (opened k b left s)
    opens k left = either (ltb 0x20 b) (begun k b left s) s (begins k left) same

    ends : (k : ℕ) → Bounded (suc n) (ended k s)
    unfolding ended
    ends k =
        either (figured s.figure).wide (found 23 s.start s) (cond (eqb (suc k) level_refused) (found 24 s.start s) s)
        (at_fault 23 s.start)
        (either (eqb (suc k) level_refused) (found 24 s.start s) s (at_fault 24 s.start) same)

    digits : (more : Figure → ℕ → Figure) → Kin (suc n) (more s.figure (b - 0x30)) → Bounded (suc n) (digited more b s)
    unfolding digited
    digits more k = either (is_digit b) (with_figure (more s.figure (b - 0x30)) s) s (with_figure_lem (more s.figure (b - 0x30)) k) same

    digit_or_lem : (more : Figure → ℕ → Figure) → Kin (suc n) (more s.figure (b - 0x30)) → (k : ℕ) → Bounded (suc n) (digit_or more k b s)
    digit_or_lem more x k = either (is_end b) (ended k s) (digited more b s) (ends k) (digits more x)

    parts : Bounded (suc n) (parted s)
    unfolding parted
    parts = either (eqb s.escapes.waits 0) s (found 26 s.escapes.waiting s) same (at_fault 26 s.escapes.waiting)

    codes : (c : ℕ) → Bounded (suc n) (coded c s)
    unfolding coded
    codes c =
        let e = s.escapes in
        let low : Watch = with_escapes (wait_for 0 0 s.escapes) s in
        let high : Watch = with_escapes (wait_for c s.escapes.here s.escapes) s in
        either (is_low c)
        (cond (eqb s.escapes.waits 0) (found 26 s.escapes.here s) low)
        (cond (eqb s.escapes.waits 0) (cond (is_high c) high s) (found 26 s.escapes.waiting s))
        (either (eqb s.escapes.waits 0) (found 26 s.escapes.here s) low (at_fault 26 s.escapes.here) (with_code s.escapes.code s.escapes.here 0 0 h.small))
        (either (eqb s.escapes.waits 0) (cond (is_high c) high s) (found 26 s.escapes.waiting s)
        (either (is_high c) high s (with_code s.escapes.code s.escapes.here c s.escapes.here h.small) same)
        (at_fault 26 s.escapes.waiting))

    whole_kin : Kin (suc n) (whole_more s.figure (b - 0x30))
    whole_kin = kin_whole n s.figure (b - 0x30) h.kin

    part_kin : Kin (suc n) (part_more s.figure (b - 0x30))
    part_kin = kin_part n s.figure (b - 0x30) h.kin

    power_kin : Kin (suc n) (power_more s.figure (b - 0x30))
    power_kin = kin_power (suc n) s.figure (b - 0x30) same.kin

    hexes : Bounded (suc n) (hexed b s)
    hexes = with_code (code_more b s) s.escapes.here s.escapes.waits s.escapes.waiting (omega (arith, hex_low b byte))

    hex_done_lem : (l : Left) → Bounded (suc n) (hex_done l b s)
    hex_done_lem hex4 = hexes
    hex_done_lem hex3 = hexes
    hex_done_lem hex2 = hexes
    hex_done_lem hex1 = codes (code_more b s)

    fresh : Bounded (suc n) (with_escapes no_escapes s)
    fresh = with_code 0 0 0 0 (omega arith)

    pub bounded_moved : (p : Place) (k left : ℕ) → Bounded (suc n) (moved p k b left s)
    bounded_moved ahead k left = opens k left
    bounded_moved first_element k left = either (eqb b 0x5D) s (opened k b left s) same (opens k left)
    bounded_moved after k left = same
    bounded_moved name k left = either (ltb 0x20 b) (with_escapes no_escapes s) s fresh same
    bounded_moved first_name k left =
        either (ltb 0x20 b) (cond (eqb b 0x7D) s (with_escapes no_escapes s)) s (either (eqb b 0x7D) s (with_escapes no_escapes s) same fresh) same
    bounded_moved colon k left = same
    bounded_moved (word w) k left = same
    bounded_moved minus k left = digits whole_more whole_kin
    bounded_moved nought k left = digit_or_lem whole_more whole_kin k
    bounded_moved whole k left = digit_or_lem whole_more whole_kin k
    bounded_moved point k left = digits part_more part_kin
    bounded_moved part k left = digit_or_lem part_more part_kin k
    bounded_moved letter k left =
        either (eqb b 0x2D) (with_figure (power_back s.figure) s) (digited power_more b s)
        (with_figure_lem (power_back s.figure) (kin_back (suc n) s.figure same.kin))
        (digits power_more power_kin)
    bounded_moved sign k left = digits power_more power_kin
    bounded_moved power k left = digit_or_lem power_more power_kin k
    bounded_moved (text r) k left =
        either (eqb b 0x5C) (slashed left s) (parted s) (with_code 0 left s.escapes.waits s.escapes.waiting (omega arith)) parts
    bounded_moved (escape r) k left = either (eqb b 0x75) s (parted s) same parts
    bounded_moved (unit l r) k left = hex_done_lem l
    bounded_moved (char c r) k left = same
