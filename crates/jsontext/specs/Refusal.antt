-- Refusal 21 (request #101): not JSON in well-formed UTF-8. Its place is the first byte at which no JSON text can continue, or the length.
-- First the rule, with no automaton in it; then the same, computed.
-- Assumes nothing.
use Rattle.std.specs.Prelude.{cond, List, [], ◌∷◌, ◌≡◌, ℕ, suc, ◌<◌, length, take}
use Rattle.std.proofs.Math.Option.{Option, none, some}
use Rattle.jsontext.specs.Text.{Json, Continues}
use Rattle.jsontext.specs.Automaton.{State, step, start, accepts}

-- ---- the rule

-- byte n is the first with which no JSON text begins so
pub record Broken (bs : List ℕ) (n : ℕ) : Type 0 where
  pub inside : n < length bs
  pub begins : (j : ℕ) → j < n → Continues (take (suc j) bs)
  pub stops : Continues (take (suc n) bs) → ⊥

-- some JSON text begins with all the n bytes, but they are none
pub record Unfinished (bs : List ℕ) (n : ℕ) : Type 0 where
  pub all : n ≡ length bs
  pub begins : Continues bs
  pub short : Json bs → ⊥

pub data Finding : Type 0 where
  json : Finding
  refused : ℕ → Finding

pub data Found (bs : List ℕ) : Finding → Type 0 where
  is_json : Json bs → Found bs json
  broken : {n : ℕ} → Broken bs n → Found bs (refused n)
  unfinished : {n : ℕ} → Unfinished bs n → Found bs (refused n)

-- ---- the same, computed

abbrev pub onward : Option State → (State → ℕ) → ℕ
onward none k = 0
onward (some s) k = suc (k s)

-- how many bytes the automaton takes
unfoldable pub reach : List ℕ → State → ℕ
reach [] s = 0
reach (b ∷ bs) s = onward (step s b) (λ t. reach bs t)

unfoldable pub finding : List ℕ → Finding
finding bs = let place = reach bs start in cond (accepts bs) json (refused place)
