-- How many members and elements a row has.
--     or_nought                             0 where none were found
--     members_counted, elements_counted    they are those of its value
--     members_some, elements_some          and children of it
-- Assumes nothing.
use Rattle.std.specs.Prelude.{Option as Found, Some, None, unwrap_or}
use mathlib.Core.Path.{◌≡◌, refl}
use Prim.Native.Nat.{ℕ, ◌≤◌}
use native.Mathlib.Omega.{arith}
use Rattle.sheet.specs.Doc.{Value, null, bool, number, string, array, object, child_count}
use Rattle.meaning.specs.Tests.{members?, elements?}
use Rattle.looking.specs.Read.{size_in, size_of, or_none}
use Rattle.meaning.proofs.Members.{range_length}
use Rattle.plan.specs.Plan.{member_count, element_count}

pub or_nought : (found : Found ℕ) → unwrap_or found 0 ≡ or_none (size_in found)
or_nought (Some n) = refl
or_nought None = refl

pub members_counted : (v : Value) → or_none (size_of (members? v)) ≡ member_count v
unfolding members?
members_counted null = refl
members_counted (bool b) = refl
members_counted (number z) = refl
members_counted (string bytes) = refl
members_counted (array first k) = refl
members_counted (object first k) = range_length first k

pub elements_counted : (v : Value) → or_none (size_of (elements? v)) ≡ element_count v
unfolding elements?
elements_counted null = refl
elements_counted (bool b) = refl
elements_counted (number z) = refl
elements_counted (string bytes) = refl
elements_counted (array first k) = range_length first k
elements_counted (object first k) = refl

pub members_some : (v : Value) → member_count v ≤ child_count v
members_some null = omega arith
members_some (bool b) = omega arith
members_some (number z) = omega arith
members_some (string bytes) = omega arith
members_some (array first k) = omega arith
members_some (object first k) = omega arith

pub elements_some : (v : Value) → element_count v ≤ child_count v
elements_some null = omega arith
elements_some (bool b) = omega arith
elements_some (number z) = omega arith
elements_some (string bytes) = omega arith
elements_some (array first k) = omega arith
elements_some (object first k) = omega arith
