-- The places at which a text may end, by their numbers.
--     other_places    no other is one
-- Assumes nothing.
use mathlib.Core.Bool.{Bool, true, false, cond, ◌&&◌, ◌||◌}
use mathlib.Core.List.{List, [], ◌∷◌}
use mathlib.Core.Path.{◌≡◌, refl, ap, ◌∙◌}
use Prim.Native.Nat.{ℕ, zero, suc, ◌+◌, ◌<◌}
use native.Mathlib.Omega.{arith}
use borrow.Author.Tests.{ne_eqb}
use lib.Dec.{eqb}
use lib.ListN.{length, get_or}
use Rattle.jsontext.specs.Automaton.{Place, after, ended}
use Rattle.grammar.specs.Codes.{places, place_at}
use Rattle.laws.proofs.Tests.{left, right}

abbrev is_ending : ℕ → Bool
is_ending n = eqb n 2 || (eqb n 17 || (eqb n 18 || (eqb n 20 || eqb n 23)))

abbrev same : Bool → Bool → Bool
same true b = b
same false b = cond b false true

same_so : (a b : Bool) → same a b ≡ true → a ≡ b
same_so true true e = refl
same_so true false e = cc
same_so false true e = cc
same_so false false e = refl

-- each place's number tells it, from number k on
unfoldable tell : ℕ → List Place → Bool
tell k [] = true
tell k (p ∷ ps) = same (ended p) (is_ending k) && tell (suc k) ps

told : (k i : ℕ) (ps : List Place) → tell k ps ≡ true → i < length ps → ended (get_or ps i after) ≡ is_ending (k + i)
unfolding tell
told k i [] e h = absurd (omega arith)
told k zero (p ∷ ps) e h = let z : k ≡ k + 0 = omega arith in same_so (ended p) (is_ending k) (left (same (ended p) (is_ending k)) (tell (suc k) ps) e) ∙ ap is_ending z
told k (suc i) (p ∷ ps) e h =
    let z : suc k + i ≡ k + suc i = omega arith in
    told (suc k) i ps (right (same (ended p) (is_ending k)) (tell (suc k) ps) e) (omega arith) ∙ ap is_ending z

all_told : tell 0 places ≡ true
unfolding tell
all_told = refl

pub other_places : (n : ℕ) → n < 50 → (n ≡ 2 → ⊥) → (n ≡ 17 → ⊥) → (n ≡ 18 → ⊥) → (n ≡ 20 → ⊥) → (n ≡ 23 → ⊥) → ended (place_at n) ≡ false
other_places n h a b c d e =
    told 0 n places all_told h ∙ (let z : 0 + n ≡ n = omega arith in ap is_ending z ∙ rw (ne_eqb n 2 a, ne_eqb n 17 b, ne_eqb n 18 c, ne_eqb n 20 d, ne_eqb n 23 e))
