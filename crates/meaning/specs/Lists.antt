-- Lists of verdicts, rows and schemas.
-- Assumes nothing.
use Rattle.std.specs.Prelude.{ℕ, zero, suc, ◌+◌, Bool, true, false, not, ◌&&◌, ◌||◌, cond, List, [], ◌∷◌, ◌++◌, map, eqb}

unfoldable pub all : List Bool → Bool
all [] = true
all (b ∷ bs) = b && all bs

unfoldable pub any : List Bool → Bool
any [] = false
any (b ∷ bs) = b || any bs

-- how many are true
unfoldable pub count : List Bool → ℕ
count [] = 0
count (b ∷ bs) = cond b (suc (count bs)) (count bs)

-- the numbers from a on, k of them
unfoldable pub range : ℕ → ℕ → List ℕ
range a zero = []
range a (suc k) = a ∷ range (suc a) k

unfoldable pub elem : ℕ → List ℕ → Bool
elem x [] = false
elem x (y ∷ ys) = eqb x y || elem x ys

unfoldable pub keep : (ℕ → Bool) → List ℕ → List ℕ
keep p [] = []
keep p (x ∷ xs) = cond (p x) (x ∷ keep p xs) (keep p xs)

unfoldable pub concat_map {ℓ κ} : {A : Type ℓ} {B : Type κ} → (A → List B) → List A → List B
concat_map f [] = []
concat_map f (x ∷ xs) = f x ++ concat_map f xs

-- opens this module to a computation
unfoldable pub lists_computes : Unit {0}
unfolding all any count range elem keep concat_map
lists_computes = tt
