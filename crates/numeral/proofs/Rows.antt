-- What code has of a number that is written.
--     wide_told      there is a row exactly where the number is not too wide
--     row_told       its digits and its scale, or 0 where there is none
-- Assumes nothing.
use mathlib.Core.Bool.{Bool, true, false, cond, not}
use mathlib.Core.Path.{◌≡◌, refl, sym, ap, ◌∙◌}
use Prim.Native.Nat.{ℕ, ◌-◌, ◌*◌, ◌^◌}
use lib.Dec.{eqb}
use Rattle.std.specs.Prelude.{Option, Some, None, is_some}
use Rattle.std.specs.Option.{unwrap_or}
use Rattle.sheet.specs.Kinds.{number_max}
use Rattle.jsontext.specs.Number.{room_for}
use Rattle.numeral.specs.declared.Written.{Written}
use Rattle.numeral.specs.Numeral.{Writing, row_of, written_of}

pub wide_told : (w : Writing) (r : Option Written) (none : Bool) → r ≡ row_of w → is_some r ≡ not none → w.wide ≡ none
wide_told w r none e q = go w.wide none (sym (ap is_some e) ∙ q)
  where
    go : (t b : Bool) → is_some {T = Written} (cond t None (Some (record { digits = w.digits; scale = w.scale }))) ≡ not b → t ≡ b
    go true true p = refl
    go true false p = cc
    go false true p = cc
    go false false p = refl

abbrev pub nought : Written
nought = record { digits = 0; scale = 0 }

module _ (kept up down : ℕ) where
  -- by whether there is room, and whether anything is kept
  abbrev answer : Bool → Bool → Writing
  answer r z =
      cond (not r) (record { wide = true; digits = 0; scale = 0 })
      (cond z (record { wide = false; digits = 0; scale = 0 }) (record { wide = false; digits = kept * 10 ^ (up - down); scale = down - up }))

  pub row_told : unwrap_or (row_of (written_of kept up down)) nought ≡ record { digits = (written_of kept up down).digits; scale = (written_of kept up down).scale }
  unfolding written_of
  row_told = go (room_for number_max kept up down) (eqb kept 0)
    where
      go : (r z : Bool) → unwrap_or (row_of (answer r z)) nought ≡ record { digits = (answer r z).digits; scale = (answer r z).scale }
      go false z = refl
      go true true = refl
      go true false = refl
