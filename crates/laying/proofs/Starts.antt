-- Where the levels start.
--     start_low       no level starts behind the end
--     started_more    one cell more
--     starts_hold     the cells that the second pass starts from
-- Assumes nothing.
use mathlib.Core.List.{List}
use mathlib.Core.Logic.{⊎_elim}
use mathlib.Core.Path.{◌≡◌, refl, ap, ◌∙◌}
use Prim.Native.Nat.{ℕ, zero, suc, ◌+◌, ◌-◌, ◌≤◌, ◌<◌}
use native.Mathlib.Omega.{arith}
use lib.ListN.{length, get_or, set}
use lib.Seq.{get_or-set_same, get_or-set_other}
use Rattle.breadth.specs.Breadth.{Entry}
use Rattle.breadth.specs.Tokens.{Token, tally, begin}
use Rattle.breadth.proofs.Lists.{same_or_not}
use Rattle.breadth.proofs.Tables.{Holds}
use Rattle.laying.specs.Laying.{start_at, Started}

start_climbs : (counters : List ℕ) (k d : ℕ) → start_at counters k ≤ start_at counters (k + d)
unfolding start_at
start_climbs counters k zero = let z : k + 0 ≡ k = omega arith in rw z (omega arith)
start_climbs counters k (suc d) = let z : k + suc d ≡ suc (k + d) = omega arith in rw z (omega (arith, start_climbs counters k d))

-- the sum that the code makes
pub start_low : (counters : List ℕ) (k n : ℕ) → k < n → start_at counters k + get_or counters k 0 ≤ start_at counters n
unfolding start_at
start_low counters k n l =
    let z : suc k + (n - suc k) ≡ n = omega arith in
    omega (arith, start_climbs counters (suc k) (n - suc k), ap (start_at counters) z)

pub started_more : (counters cells : List ℕ) (k v : ℕ) → Started counters cells k → k < length cells → v ≡ start_at counters k → Started counters (set cells k v) (suc k)
started_more counters cells k v s l e j h =
    ⊎_elim
    (λ (q : j ≡ k). rw (q, get_or-set_same cells k v 0 l) e)
    (λ (q : j ≡ k → ⊥). get_or-set_other cells k j v 0 q ∙ s j (omega arith))
    (same_or_not j k)

-- they are the starts of the second pass, where the counters are those of the first
pub start_begins : (w : Entry → ℕ) (ts : List Token) (counters : List ℕ) (d : ℕ) → ((j : ℕ) → j < d → get_or counters j 0 ≡ tally w 0 (λ i. 0) ts j)
    → (k : ℕ) → k ≤ d → start_at counters k ≡ begin w ts k
unfolding start_at begin
start_begins w ts counters d e zero h = refl
start_begins w ts counters d e (suc k) h = omega (arith, start_begins w ts counters d e k (omega arith), e k (omega arith))

pub starts_hold : (w : Entry → ℕ) (ts : List Token) (counters cells : List ℕ) → ((j : ℕ) → j < length counters → get_or counters j 0 ≡ tally w 0 (λ i. 0) ts j)
    → Started counters cells (suc (length counters)) → (d : ℕ) → d ≡ suc (length counters) → length cells ≡ d → Holds cells (begin w ts) d
starts_hold w ts counters cells e s d m l =
    record {
      long = l;
      cell = λ (k : ℕ) (h : k < d). s k (omega arith) ∙ start_begins w ts counters (length counters) e k (omega arith);
    }
