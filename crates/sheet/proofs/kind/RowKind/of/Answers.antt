-- `RowKind::of` meets its contract: a number that is no kind's reads as `Null`. Assumes nothing.
use Rattle.std.proofs.Common.{◌≡◌, ℕ, ◌<◌, false, sym, ◌∙◌, arith}
use Rattle.std.specs.Prelude.{Result, Ok, Err}
use Rattle.std.specs.Result.{result_unwrap_or}
use borrow.Author.Tests.{ne_eqb, leb-false}
use Rattle.sheet.specs.declared.kind.RowKind.{RowKind}
use Rattle.sheet.specs.declared.kind.UnknownKind.{UnknownKind}
use Rattle.sheet.specs.declared.kind.RowKind.TheVariants.{Null}
use Rattle.sheet.specs.Kinds.{is_kind, kind_of, KindRead}
use Rattle.sheet.proofs.kind.RowKind.of.Goals as goal

no_kind : (n : ℕ) → is_kind n ≡ false → kind_of n ≡ Null
unfolding kind_of
no_kind n h =
    let past : 6 < n = leb-false n 6 h in
    simp (ne_eqb n 1 (omega arith), ne_eqb n 2 (omega arith), ne_eqb n 3 (omega arith), ne_eqb n 4 (omega arith), ne_eqb n 5 (omega arith), ne_eqb n 6 (omega arith))

read_or : (n : ℕ) (r : Result RowKind UnknownKind) → KindRead n r → result_unwrap_or r Null ≡ kind_of n
read_or n (Ok k) h = h.1
read_or n (Err e) h = sym (no_kind n h.0)

pub returns : goal.returns
returns c = c.unwrap_or.ensures ∙ read_or _ _ c.try_from.ensures
