-- What a byte does to what is kept of faults, as far as places of the text go: where R is so of the place of this byte and of those that are kept, it is so of all
-- that are kept then.
--     found_after    the theorem
-- Assumes nothing.
use mathlib.Core.Bool.{Bool, true, false, cond, ◌&&◌, ◌||◌, not}
use mathlib.Core.Logic.{◌≢◌}
use mathlib.Core.Path.{◌≡◌, refl, sym, ◌∙◌}
use Prim.Native.Nat.{ℕ, suc, ◌-◌, ◌<◌}
use native.Mathlib.Omega.{arith}
use borrow.Author.Tests.{eqb-true, eqb-false, eq-eqb, lt-ltb}
use lib.Dec.{eqb, ltb}
use Rattle.jsontext.specs.Value.{is_high, is_low}
use Rattle.jsontext.specs.Automaton.{Left, hex1, hex2, hex3, hex4, Place, ahead, first_element, after, name, first_name, colon, word, minus, nought, whole, point, part, letter, sign, power, text, escape, unit, char}
use Rattle.sheet.specs.Record.{rows_max}
use Rattle.sheet.specs.Faults.{level_refused}
use Rattle.figure.specs.declared.Figure.{Figure}
use Rattle.figure.specs.Figure.{whole_more, part_more, power_back, power_more, figured}
use Rattle.laws.proofs.Tests.{right}
use Rattle.survey.specs.declared.Watch.{Watch}
use Rattle.survey.specs.Watching.{found, with_figure, with_escapes, no_escapes, is_digit, numeric, counted, begun, ended, parted, coded, slashed, code_more, hexed, hex_done, opened, digited, is_end, digit_or, moved}
use Rattle.trail.proofs.Places.{is_number, in_escape, is_text, starts_value, numbered, escaping, bracketed}

-- the places that are kept after a byte, and that no bracket is opened on level 33
pub record After (R : ℕ → Type 0) (p : Place) (k b : ℕ) (w : Watch) : Type 0 where
  pub found : w.fault ≢ 0 → R w.left
  pub number : w.fault ≡ 0 → numbered p b ≡ true → R w.start
  pub escape : w.fault ≡ 0 → escaping p b ≡ true → R w.escapes.here
  pub waits : w.fault ≡ 0 → w.escapes.waits ≢ 0 → R w.escapes.waiting
  pub low : w.fault ≡ 0 → bracketed p b ≡ true → suc k ≢ level_refused

false_is : {A : Type 0} → false ≡ true → A
false_is e = absurd (let z : ◌≡◌ {A = ℕ} 0 1 = cc in omega arith)

module _ (R : ℕ → Type 0) (k b lft : ℕ) (here : R lft) (w : Watch) (calm : w.fault ≡ 0) (waiting : w.escapes.waits ≢ 0 → R w.escapes.waiting) where
  by : (p : Place) (t : Bool) (x y : Watch) → (t ≡ true → After R p k b x) → (t ≡ false → After R p k b y) → After R p k b (cond t x y)
  by p true x y f g = f refl
  by p false x y f g = g refl

  -- a fault
  at_fault : (p : Place) (n l : ℕ) (s : Watch) → n ≢ 0 → R l → After R p k b (found n l s)
  at_fault p n l s z r =
      record {
        found = λ (e : n ≢ 0). r;
        number = λ (e : n ≡ 0). absurd (z e);
        escape = λ (e : n ≡ 0). absurd (z e);
        waits = λ (e : n ≡ 0). absurd (z e);
        low = λ (e : n ≡ 0). absurd (z e);
      }

  -- nothing is moved, or the figure alone
  stays : (p : Place) (f : Figure) → (numbered p b ≡ true → R w.start) → (escaping p b ≡ true → R w.escapes.here) → (bracketed p b ≡ true → ⊥)
      → After R p k b (with_figure f w)
  stays p f n e c =
      record {
        found = λ (z : w.fault ≢ 0). absurd (z calm);
        number = λ (z : w.fault ≡ 0). n;
        escape = λ (z : w.fault ≡ 0). e;
        waits = λ (z : w.fault ≡ 0). waiting;
        low = λ (z : w.fault ≡ 0) o. absurd (c o);
      }

  -- where no number, escape or bracket begins
  still : (p : Place) → numbered p b ≡ false → escaping p b ≡ false → bracketed p b ≡ false → After R p k b w
  still p n e c = stays p w.figure (λ o. false_is (sym n ∙ o)) (λ o. false_is (sym e ∙ o)) (λ o. false_is (sym c ∙ o))

  -- ---- values

  -- a value starts
  counts : (p : Place) → is_text p ≡ false → in_escape p ≡ false → (bracketed p b ≡ true → suc k ≢ level_refused) → After R p k b (counted b lft w)
  counts p t e o =
      record {
        found = λ z. absurd (z refl);
        number = λ z y. here;
        escape = λ z y. false_is (sym (rw (e, t)) ∙ y);
        waits = λ z y. absurd (y refl);
        low = λ z. o;
      }

  bracket_plain : eqb b 0x5B || eqb b 0x7B ≡ true → numeric b ≡ false
  bracket_plain o = go (eqb b 0x5B) refl o
    where
      go : (t : Bool) → eqb b 0x5B ≡ t → t || eqb b 0x7B ≡ true → numeric b ≡ false
      go true e q = let z : b ≡ 0x5B = eqb-true b 0x5B e in rw z
      go false e q = let z : b ≡ 0x7B = eqb-true b 0x7B q in rw z

  begins : (p : Place) → is_text p ≡ false → in_escape p ≡ false → After R p k b (begun k b lft w)
  unfolding begun
  begins p t e =
      by p (eqb w.values rows_max) _ _ (λ o. at_fault p 22 lft w (λ z. omega arith) here)
      (λ o. by p (eqb (suc k) level_refused && not (numeric b)) _ _ (λ q. at_fault p 24 lft (counted b lft w) (λ z. omega arith) here)
      (λ (q : eqb (suc k) level_refused && not (numeric b) ≡ false).
      counts p t e
      (λ (c : starts_value p && (eqb b 0x5B || eqb b 0x7B) ≡ true) (z : suc k ≡ level_refused).
      let plain : numeric b ≡ false = bracket_plain (right (starts_value p) (eqb b 0x5B || eqb b 0x7B) c) in
      false_is (sym q ∙ rw (eq-eqb (suc k) level_refused z, plain)))))

  -- ---- numbers

  module _ (p : Place) (start : R w.start) (e : escaping p b ≡ false) (c : bracketed p b ≡ false) where
    figure_more : (f : Figure) → After R p k b (with_figure f w)
    figure_more f = stays p f (λ o. start) (λ o. false_is (sym e ∙ o)) (λ o. false_is (sym c ∙ o))

    digits : (more : Figure → ℕ → Figure) → After R p k b (digited more b w)
    unfolding digited
    digits more = by p (is_digit b) _ _ (λ o. figure_more (more w.figure (b - 0x30))) (λ o. figure_more w.figure)

    ends : After R p k b (ended k w)
    unfolding ended
    ends =
        by p (figured w.figure).wide _ _ (λ o. at_fault p 23 w.start w (λ z. omega arith) start)
        (λ o. by p (eqb (suc k) level_refused) _ _ (λ q. at_fault p 24 w.start w (λ z. omega arith) start) (λ q. figure_more w.figure))

    digit_or_lem : (more : Figure → ℕ → Figure) → After R p k b (digit_or more k b w)
    digit_or_lem more = by p (is_end b) _ _ (λ o. ends) (λ o. digits more)

  -- ---- strings

  parts : (p : Place) → numbered p b ≡ false → bracketed p b ≡ false → (escaping p b ≡ true → R w.escapes.here) → After R p k b (parted w)
  unfolding parted
  parts p n c e =
      by p (eqb w.escapes.waits 0) _ _ (λ o. stays p w.figure (λ q. false_is (sym n ∙ q)) e (λ q. false_is (sym c ∙ q)))
      (λ o. at_fault p 26 w.escapes.waiting w (λ z. omega arith) (waiting (eqb-false w.escapes.waits 0 o)))

  module _ (p : Place) (n : numbered p b ≡ false) (c : bracketed p b ≡ false) (slash : R w.escapes.here) where
    -- an escape goes on
    with_units : (code waits : ℕ) (at : ℕ) → (waits ≢ 0 → R at) → After R p k b (with_escapes (record { code = code; here = w.escapes.here; waits = waits; waiting = at }) w)
    with_units code waits at y =
        record {
          found = λ (z : w.fault ≢ 0). absurd (z calm);
          number = λ z q. false_is (sym n ∙ q);
          escape = λ z q. slash;
          waits = λ z. y;
          low = λ z q. false_is (sym c ∙ q);
        }

    codes : (code : ℕ) → After R p k b (coded code w)
    unfolding coded
    codes code =
        by p (is_low code) _ _
        (λ o. by p (eqb w.escapes.waits 0) _ _ (λ q. at_fault p 26 w.escapes.here w (λ z. omega arith) slash)
        (λ q. with_units w.escapes.code 0 0 (λ z. absurd (z refl))))
        (λ o. by p (eqb w.escapes.waits 0) _ _
        (λ q. by p (is_high code) _ _ (λ r. with_units w.escapes.code code w.escapes.here (λ z. slash))
        (λ r. with_units w.escapes.code w.escapes.waits w.escapes.waiting waiting))
        (λ q. at_fault p 26 w.escapes.waiting w (λ z. omega arith) (waiting (eqb-false w.escapes.waits 0 q))))

    hexes : After R p k b (hexed b w)
    hexes = with_units (code_more b w) w.escapes.waits w.escapes.waiting waiting

    hex_done_lem : (h : Left) → After R p k b (hex_done h b w)
    hex_done_lem hex1 = codes (code_more b w)
    hex_done_lem hex2 = hexes
    hex_done_lem hex3 = hexes
    hex_done_lem hex4 = hexes

  -- a backslash in a string
  slashes : (p : Place) → numbered p b ≡ false → bracketed p b ≡ false → After R p k b (slashed lft w)
  slashes p n c =
      record {
        found = λ (z : w.fault ≢ 0). absurd (z calm);
        number = λ z q. false_is (sym n ∙ q);
        escape = λ z q. here;
        waits = λ z. waiting;
        low = λ z q. false_is (sym c ∙ q);
      }

  -- a name starts
  fresh : (p : Place) → numbered p b ≡ false → escaping p b ≡ false → bracketed p b ≡ false → After R p k b (with_escapes no_escapes w)
  fresh p n e c =
      record {
        found = λ (z : w.fault ≢ 0). absurd (z calm);
        number = λ z q. false_is (sym n ∙ q);
        escape = λ z q. false_is (sym e ∙ q);
        waits = λ z y. absurd (y refl);
        low = λ z q. false_is (sym c ∙ q);
      }

  -- ---- white space where a value may start

  blank : ltb 0x20 b ≡ false → After R ahead k b w
  blank e = still ahead (rw e) refl (go (eqb b 0x5B) (eqb b 0x7B) refl refl)
    where
      low : (n : ℕ) → b ≡ n → 0x20 < n → true ≡ false
      low n q l = sym (lt-ltb 0x20 b (omega arith)) ∙ e

      go : (s t : Bool) → eqb b 0x5B ≡ s → eqb b 0x7B ≡ t → s || t ≡ false
      go true t q r = low 0x5B (eqb-true b 0x5B q) (omega arith)
      go false true q r = low 0x7B (eqb-true b 0x7B r) (omega arith)
      go false false q r = refl

  pub found_after : (p : Place) → (is_number p ≡ true → R w.start) → (in_escape p ≡ true → R w.escapes.here) → After R p k b (moved p k b lft w)
  found_after ahead n e = by ahead (ltb 0x20 b) _ _ (λ o. begins ahead refl refl) blank
  found_after first_element n e =
      by first_element (eqb b 0x5D) _ _ (λ o. let z : b ≡ 0x5D = eqb-true b 0x5D o in still first_element (rw z) refl (rw z))
      (λ o. by first_element (ltb 0x20 b) _ _ (λ q. begins first_element refl refl)
      (λ q. let x = blank q in record { found = x.found; number = x.number; escape = x.escape; waits = x.waits; low = x.low }))
  found_after after n e = still after refl refl refl
  found_after name n e = by name (ltb 0x20 b) _ _ (λ o. fresh name refl refl refl) (λ o. still name refl refl refl)
  found_after first_name n e =
      by first_name (ltb 0x20 b) _ _ (λ o. by first_name (eqb b 0x7D) _ _ (λ q. still first_name refl refl refl) (λ q. fresh first_name refl refl refl)) (λ o. still first_name refl refl refl)
  found_after colon n e = still colon refl refl refl
  found_after (word v) n e = still (word v) refl refl refl
  found_after minus n e = digits minus (n refl) refl refl whole_more
  found_after nought n e = digit_or_lem nought (n refl) refl refl whole_more
  found_after whole n e = digit_or_lem whole (n refl) refl refl whole_more
  found_after point n e = digits point (n refl) refl refl part_more
  found_after part n e = digit_or_lem part (n refl) refl refl part_more
  found_after letter n e =
      by letter (eqb b 0x2D) _ _ (λ o. figure_more letter (n refl) refl refl (power_back w.figure)) (λ o. digits letter (n refl) refl refl power_more)
  found_after sign n e = digits sign (n refl) refl refl power_more
  found_after power n e = digit_or_lem power (n refl) refl refl power_more
  found_after (text r) n e =
      by (text r) (eqb b 0x5C) _ _ (λ o. slashes (text r) refl refl) (λ (o : eqb b 0x5C ≡ false). parts (text r) refl refl (λ (q : eqb b 0x5C ≡ true). false_is (sym o ∙ q)))
  found_after (escape r) n e =
      by (escape r) (eqb b 0x75) _ _ (λ o. stays (escape r) w.figure (λ q. false_is q) (λ q. e refl) (λ q. false_is q)) (λ o. parts (escape r) refl refl (λ q. e refl))
  found_after (unit h r) n e = hex_done_lem (unit h r) refl refl (e refl) h
  found_after (char c r) n e = still (char c r) refl refl refl
