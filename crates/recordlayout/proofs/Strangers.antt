-- A row in a range that names another owner, as the row that was read tells it.
-- Assumes nothing.
use mathlib.Core.Bool.{true, false, not}
use mathlib.Core.List.{List}
use mathlib.Core.Path.{◌≡◌, sym, ap, ◌∙◌}
use Prim.Native.Nat.{ℕ}
use lib.Dec.{eqb}
use borrow.Author.Tests.{eq-eqb, ne_eqb}
use Rattle.sheet.specs.declared.record.Row.{Row}
use Rattle.sheet.specs.Record.{row_at, owner_at}

module _ (ws : List ℕ) (j k : ℕ) (row : Row) (read : row ≡ row_at ws k) where
  pub stranger_here : (row.owner ≡ j → ⊥) → not (eqb (owner_at ws k) j) ≡ true
  stranger_here other = ap (λ (r : Row). not (eqb r.owner j)) (sym read) ∙ rw (ne_eqb row.owner j other)

  pub none_here : row.owner ≡ j → not (eqb (owner_at ws k) j) ≡ false
  none_here same = ap (λ (r : Row). not (eqb r.owner j)) (sym read) ∙ rw (eq-eqb row.owner j same)
