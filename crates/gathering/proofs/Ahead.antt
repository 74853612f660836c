-- The escape of a low surrogate, looked for byte by byte.
-- Assumes nothing.
use mathlib.Core.Bool.{false, ◌&&◌}
use mathlib.Core.List.{List}
use mathlib.Core.Logic.{◌≢◌}
use mathlib.Core.Path.{◌≡◌, sym, ◌∙◌}
use Prim.Native.Nat.{ℕ, ◌+◌}
use native.Mathlib.Omega.{arith}
use borrow.Author.Tests.{eq-eqb, ne_eqb}
use lib.Dec.{eqb}
use lib.ListN.{get_or, drop}
use lib.Seq.{get_or-drop}
use Rattle.jsontext.specs.Value.{is_low}
use Rattle.naming.specs.Gathering.{low_ahead}
use Rattle.gathering.specs.Held.{unit_from}

module _ (json : List ℕ) (i : ℕ) where
  low_at : low_ahead (drop i json) ≡ (eqb (get_or json i 0) 0x5C && (eqb (get_or json (i + 1) 0) 0x75 && is_low (unit_from json (i + 2))))
  unfolding low_ahead
  low_at =
      let z : i + 0 ≡ i = omega arith in
      let a : i + 2 + 1 ≡ i + 3 = omega arith in
      let b : i + 2 + 2 ≡ i + 4 = omega arith in
      let c : i + 2 + 3 ≡ i + 5 = omega arith in
      rw (a, b, c, get_or-drop i json 0 0, get_or-drop i json 1 0, get_or-drop i json 2 0, get_or-drop i json 3 0, get_or-drop i json 4 0, get_or-drop i json 5 0, z)

  pub no_slash : get_or json i 0 ≢ 0x5C → false ≡ low_ahead (drop i json)
  no_slash n = sym (low_at ∙ rw (ne_eqb (get_or json i 0) 0x5C n))

  pub no_u : get_or json i 0 ≡ 0x5C → get_or json (i + 1) 0 ≢ 0x75 → false ≡ low_ahead (drop i json)
  no_u e n = sym (low_at ∙ rw (eq-eqb (get_or json i 0) 0x5C e, ne_eqb (get_or json (i + 1) 0) 0x75 n))

  pub escape_here : get_or json i 0 ≡ 0x5C → get_or json (i + 1) 0 ≡ 0x75 → is_low (unit_from json (i + 2)) ≡ low_ahead (drop i json)
  escape_here e f = sym (low_at ∙ rw (eq-eqb (get_or json i 0) 0x5C e, eq-eqb (get_or json (i + 1) 0) 0x75 f))
