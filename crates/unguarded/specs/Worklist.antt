-- A worklist: a mark for each schema that was visited, and the visited schemas in a queue, in the order in which they were.
-- Assumes nothing.
use mathlib.Core.List.{List, [], ◌∷◌, Memᴰ as In}
use Rattle.std.specs.Prelude.{Bool, true, false, ◌⊎◌, ◌≡◌, ℕ, suc, ◌≤◌, ◌<◌, length, get_or}
use Rattle.rulesheet.specs.Faults.{schemas_max}

-- how many marks are set
unfoldable pub mark_count : List Bool → ℕ
mark_count [] = 0
mark_count (false ∷ marks) = mark_count marks
mark_count (true ∷ marks) = suc (mark_count marks)

abbrev pub Marked : List Bool → ℕ → Type 0
Marked seen t = get_or seen t false ≡ true

-- the first `tail` places of the queue hold each marked schema once, and nothing else
pub record Tidy (seen : List Bool) (queue : List ℕ) (tail : ℕ) : Type 0 where
  pub seen_long : length seen ≡ schemas_max
  pub queue_long : length queue ≡ schemas_max
  pub counted : mark_count seen ≡ tail
  pub listed : (t : ℕ) → Marked seen t → (i : ℕ) × ((i < tail) × (get_or queue i 0 ≡ t))
  pub queued : (i : ℕ) → i < tail → Marked seen (get_or queue i 0)

-- all of ts, and nothing else, was marked, and put at the queue's end if it was new
pub record Visited (ts : List ℕ) (seen₀ : List Bool) (queue₀ : List ℕ) (tail₀ : ℕ) (seen : List Bool) (queue : List ℕ) (tail : ℕ) : Type 0 where
  pub tidy : Tidy seen queue tail
  pub more : tail₀ ≤ tail
  pub kept : (t : ℕ) → Marked seen₀ t → Marked seen t
  pub fixed : (i : ℕ) → i < tail₀ → get_or queue i 0 ≡ get_or queue₀ i 0
  pub all : (t : ℕ) → In t ts → Marked seen t
  pub only : (t : ℕ) → Marked seen t → Marked seen₀ t ⊎ In t ts
