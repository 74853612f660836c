-- Names of which none is among those before it differ.
--     FreshAfter     each name of some members is none of those before it
--     fresh_apart    no two of them are then the same
-- Assumes nothing.
use mathlib.Core.Bool.{Bool, true, false, ◌||◌}
use mathlib.Core.List.{List, [], ◌∷◌}
use mathlib.Core.Path.{◌≡◌, refl}
use Prim.Native.Nat.{ℕ, zero, suc, ◌<◌}
use native.Mathlib.Omega.{arith}
use Rattle.text.specs.Part.{same_bytes}
use Rattle.text.proofs.Bytes.{eq_same}
use Rattle.jsontext.specs.Datum.{Fields, no_field, field}
use Rattle.jsontext.specs.Starts.{among}
use Rattle.breadth.specs.Meaning.{field_count, name_in, Apart}

abbrev pub FreshAfter : List (List ℕ) → Fields → Type 0
FreshAfter names no_field = Unit {0}
FreshAfter names (field s v fs) = (among names s ≡ false) × FreshAfter (s ∷ names) fs

neither_left : (a b : Bool) → (a || b) ≡ false → a ≡ false
neither_left true b e = e
neither_left false b e = refl

neither_right : (a b : Bool) → (a || b) ≡ false → b ≡ false
neither_right true true e = e
neither_right true false e = refl
neither_right false b e = e

none_among : (fs : Fields) (names : List (List ℕ)) → FreshAfter names fs → (j : ℕ) → j < field_count fs → among names (name_in fs j) ≡ false
unfolding among
none_among no_field names f j h = absurd (omega arith)
none_among (field s v fs) names f zero h = f.0
none_among (field s v fs) names f (suc j) h =
    neither_right (same_bytes s (name_in fs j)) (among names (name_in fs j)) (none_among fs (s ∷ names) f.1 j (omega arith))

fresh_after : (fs : Fields) (names : List (List ℕ)) → FreshAfter names fs → Apart fs
unfolding among
fresh_after no_field names f i j l h e = omega arith
fresh_after (field s v fs) names f zero zero l h e = omega arith
fresh_after (field s v fs) names f zero (suc j) l h e =
    let no = neither_left (same_bytes s (name_in fs j)) (among names (name_in fs j)) (none_among fs (s ∷ names) f.1 j (omega arith)) in
    let same = eq_same s (name_in fs j) e in
    let z : ◌≡◌ {A = ℕ} 0 1 = cc in
    omega arith
fresh_after (field s v fs) names f (suc i) zero l h e = omega arith
fresh_after (field s v fs) names f (suc i) (suc j) l h e = fresh_after fs (s ∷ names) f.1 i j (omega arith) (omega arith) e

pub fresh_apart : (fs : Fields) → FreshAfter [] fs → Apart fs
fresh_apart fs f = fresh_after fs [] f
