-- The numbers of types.
-- Assumes nothing.
use Rattle.std.specs.Prelude.{ℕ}
use Rattle.sheet.specs.declared.kind.RowKind.{RowKind}
use Rattle.sheet.specs.declared.kind.RowKind.TheVariants.{Null, False, True, Number, String, Array, Object}

-- 01's number of the type that the rows of a kind have; a whole number is an integer besides
abbrev pub type_number : RowKind → ℕ
type_number Null = 1
type_number False = 2
type_number True = 2
type_number Number = 8
type_number String = 16
type_number Array = 32
type_number Object = 64
