-- What is done, branch by branch, as the code asks.
-- Assumes nothing.
use mathlib.Core.Bool.{true, false, ◌&&◌, not}
use mathlib.Core.Logic.{◌≢◌}
use mathlib.Core.Path.{◌≡◌}
use Prim.Native.Nat.{ℕ, suc, ◌+◌, ◌-◌, ◌≤◌, ◌<◌}
use native.Mathlib.Omega.{arith}
use borrow.Author.Tests.{eq-eqb, ne_eqb, leb-true}
use lib.Dec.{eqb, leb}
use Rattle.laws.proofs.Tests.{left, right}
use Rattle.jsontext.specs.Value.{is_high, is_low}
use Rattle.sheet.specs.Record.{rows_max}
use Rattle.sheet.specs.Faults.{level_refused}
use Rattle.figure.specs.declared.Figure.{Figure}
use Rattle.figure.specs.Figure.{figured}
use Rattle.survey.specs.declared.Escapes.{Escapes}
use Rattle.survey.specs.declared.Watch.{Watch}
use Rattle.survey.specs.Watching.{found, with_figure, with_escapes, no_escapes, is_digit, numeric, counted, begun, ended, digited, parted, wait_for, coded}

-- what `Escapes::default` gives
pub blank : (e : Escapes) → (e.code ≡ 0) × ((e.here ≡ 0) × ((e.waits ≡ 0) × (e.waiting ≡ 0))) → e ≡ no_escapes
blank e h = rw (h.0, h.1.0, h.1.1.0, h.1.1.1)

pub digit_low : (b : ℕ) → is_digit b ≡ true → 0x30 ≤ b
digit_low b e = leb-true 0x30 b (left (leb 0x30 b) (leb b 0x39) e)

pub digit_small : (b : ℕ) → is_digit b ≡ true → b - 0x30 < 10
digit_small b e = omega (arith, leb-true b 0x39 (right (leb 0x30 b) (leb b 0x39) e))

module _ (more : Figure → ℕ → Figure) (b : ℕ) (s : Watch) where
  pub digited_yes : is_digit b ≡ true → digited more b s ≡ with_figure (more s.figure (b - 0x30)) s
  unfolding digited
  digited_yes e = rw e

  pub digited_no : is_digit b ≡ false → digited more b s ≡ s
  unfolding digited
  digited_no e = rw e

module _ (k : ℕ) (s : Watch) where
  pub ended_wide : (figured s.figure).wide ≡ true → ended k s ≡ found 23 s.start s
  unfolding ended
  ended_wide e = rw e

  pub ended_deep : (figured s.figure).wide ≡ false → k + 1 ≡ 33 → ended k s ≡ found 24 s.start s
  unfolding ended
  ended_deep e d = rw (e, eq-eqb (suc k) level_refused (omega arith))

  pub ended_fine : (figured s.figure).wide ≡ false → (k + 1 ≡ 33 → ⊥) → ended k s ≡ s
  unfolding ended
  ended_fine e d = rw (e, ne_eqb (suc k) level_refused (λ x. d (omega arith)))

  module _ (b lft : ℕ) where
    pub begun_over : s.values ≡ 1024 → begun k b lft s ≡ found 22 lft s
    unfolding begun
    begun_over e = rw (eq-eqb s.values rows_max e)

    pub begun_deep : (s.values ≡ 1024 → ⊥) → (eqb (k + 1) 33 && not (numeric b)) ≡ true → begun k b lft s ≡ found 24 lft (counted b lft s)
    unfolding begun
    begun_deep e d = rw (ne_eqb s.values rows_max e, same (k + 1) (suc k) (omega arith), d)
      where
        same : (x y : ℕ) → x ≡ y → eqb y level_refused ≡ eqb x 33
        same x y q = rw q

    pub begun_fine : (s.values ≡ 1024 → ⊥) → (eqb (k + 1) 33 && not (numeric b)) ≡ false → begun k b lft s ≡ counted b lft s
    unfolding begun
    begun_fine e d = rw (ne_eqb s.values rows_max e, same (k + 1) (suc k) (omega arith), d)
      where
        same : (x y : ℕ) → x ≡ y → eqb y level_refused ≡ eqb x 33
        same x y q = rw q

module _ (s : Watch) where
  pub parted_none : s.escapes.waits ≡ 0 → parted s ≡ s
  unfolding parted
  parted_none e = rw (eq-eqb s.escapes.waits 0 e)

  pub parted_some : s.escapes.waits ≢ 0 → parted s ≡ found 26 s.escapes.waiting s
  unfolding parted
  parted_some e = rw (ne_eqb s.escapes.waits 0 e)

  module _ (c : ℕ) where
    pub low_lone : is_low c ≡ true → s.escapes.waits ≡ 0 → coded c s ≡ found 26 s.escapes.here s
    unfolding coded
    low_lone l e = rw (l, eq-eqb s.escapes.waits 0 e)

    pub low_paired : is_low c ≡ true → s.escapes.waits ≢ 0 → coded c s ≡ with_escapes (wait_for 0 0 s.escapes) s
    unfolding coded
    low_paired l e = rw (l, ne_eqb s.escapes.waits 0 e)

    pub other_parts : is_low c ≡ false → s.escapes.waits ≢ 0 → coded c s ≡ found 26 s.escapes.waiting s
    unfolding coded
    other_parts l e = rw (l, ne_eqb s.escapes.waits 0 e)

    pub high_waits : is_low c ≡ false → s.escapes.waits ≡ 0 → is_high c ≡ true → coded c s ≡ with_escapes (wait_for c s.escapes.here s.escapes) s
    unfolding coded
    high_waits l e h = rw (l, eq-eqb s.escapes.waits 0 e, h)

    pub plain_code : is_low c ≡ false → s.escapes.waits ≡ 0 → is_high c ≡ false → coded c s ≡ s
    unfolding coded
    plain_code l e h = rw (l, eq-eqb s.escapes.waits 0 e, h)
