-- Both passes over starts and ends, from the counts on.
--     tallied     the first pass gives each level's counter
--     sizes       the sizes needed, before anything is written
--     rows_read   the two passes write the rows
--     text_read   and the text
-- Assumes nothing.
use mathlib.Core.List.{List, [], ◌∷◌, ◌++◌, append_assoc, append-nil}
use mathlib.Core.Path.{◌≡◌, refl, sym, ap, ◌∙◌, fun_ext}
use Prim.Native.Nat.{ℕ, zero, suc, ◌≤◌}
use native.Mathlib.Omega.{arith}
use lib.ListN.{length, drop}
use lib.Seq.{sets}
use Rattle.breadth.specs.Forest.{Label, Head, Forest, empty, node, trees}
use Rattle.breadth.specs.Breadth.{Entry, Event, entry_of, event, walk, depth}
use Rattle.breadth.specs.Sheet.{KindRow, bytes_of, rows, text}
use Rattle.breadth.specs.Counters.{one, size, bump, after, counted, starts, write_text}
use Rattle.breadth.specs.Tokens.{Token, ends, tokens, begun, run, tally, begin, run_text}
use Rattle.breadth.proofs.Passes.{after_append, starts_is}
use Rattle.breadth.proofs.Walks.{high_all, total_one}
use Rattle.breadth.proofs.Shape.{rows_counted}
use Rattle.breadth.proofs.Texts.{text_high, text_written}
use Rattle.breadth.proofs.Runs.{rows_run}

-- a weight that does not ask for the children
abbrev Blind : (Entry → ℕ) → Type 0
Blind w = (l : Label) (h : Head) (n : ℕ) → w (record { label = l; head = h; count = 0 }) ≡ w (record { label = l; head = h; count = n })

module _ (w : Entry → ℕ) (blind : Blind w) where
  begun_is : (next : ℕ → ℕ) (k : ℕ) (l : Label) (h : Head) (c : Forest) → bump w next (begun k l h) ≡ bump w next (event k (entry_of l h c))
  unfolding bump
  begun_is next k l h c = fun_ext (λ i. rw (blind l h (trees c)))

  tally_on : (g : Forest) (k : ℕ) (next : ℕ → ℕ) (ts : List Token) → tally w k next (tokens g ++ ts) ≡ tally w k (after w next (walk k g)) ts
  unfolding tally tokens after walk
  tally_on empty k next ts = refl
  tally_on (node l h c s) k next ts =
      let b = bump w next (event k (entry_of l h c)) in
      ap (λ (x : List Token). tally w (suc k) (bump w next (begun k l h)) x) (append_assoc (tokens c) (ends ∷ tokens s) ts)
      ∙ ap (λ (n : ℕ → ℕ). tally w (suc k) n (tokens c ++ (ends ∷ (tokens s ++ ts)))) (begun_is next k l h c)
      ∙ tally_on c (suc k) b (ends ∷ (tokens s ++ ts))
      ∙ tally_on s k (after w b (walk (suc k) c)) ts
      ∙ ap (λ (n : ℕ → ℕ). tally w k n ts) (sym (after_append w (walk (suc k) c) (walk k s) b))

  pub tallied : (f : Forest) → tally w 0 (λ i. 0) (tokens f) ≡ counted w (walk 0 f)
  unfolding tally counted
  tallied f = rw (append-nil (tokens f)) at (tally_on f 0 (λ i. 0) [])

  begin_is : (f : Forest) (k : ℕ) → begin w (tokens f) k ≡ starts w (walk 0 f) k
  unfolding begin starts
  begin_is f zero = refl
  begin_is f (suc k) = rw (begin_is f k, tallied f)

  pub begins_at : (f : Forest) → begin w (tokens f) ≡ starts w (walk 0 f)
  begins_at f = fun_ext (begin_is f)

write_append : (a b : List Event) (bytes : ℕ → ℕ) (area : List ℕ) → write_text bytes (a ++ b) area ≡ write_text (after size bytes a) b (write_text bytes a area)
unfolding write_text after
write_append [] b bytes area = refl
write_append (x ∷ a) b bytes area = write_append a b (bump size bytes x) (sets area (bytes x.level) (bytes_of x.entry))

text_on : (g : Forest) (k : ℕ) (bytes : ℕ → ℕ) (ts : List Token) (area : List ℕ)
    → run_text k bytes (tokens g ++ ts) area ≡ run_text k (after size bytes (walk k g)) ts (write_text bytes (walk k g) area)
unfolding run_text tokens after walk write_text
text_on empty k bytes ts area = refl
text_on (node l h c s) k bytes ts area =
    let b = bump size bytes (event k (entry_of l h c)) in
    let area₁ = sets area (bytes k) (bytes_of (entry_of l h c)) in
    ap (λ (x : List Token). run_text (suc k) (bump size bytes (begun k l h)) x area₁) (append_assoc (tokens c) (ends ∷ tokens s) ts)
    ∙ ap (λ (n : ℕ → ℕ). run_text (suc k) n (tokens c ++ (ends ∷ (tokens s ++ ts))) area₁) (begun_is size (λ l' h' n. refl) bytes k l h c)
    ∙ text_on c (suc k) b (ends ∷ (tokens s ++ ts)) area₁
    ∙ text_on s k (after size b (walk (suc k) c)) ts (write_text b (walk (suc k) c) area₁)
    ∙ ap (λ (n : ℕ → ℕ). run_text k n ts (write_text (after size b (walk (suc k) c)) (walk k s) (write_text b (walk (suc k) c) area₁))) (sym (after_append size (walk (suc k) c) (walk k s) b))
    ∙ ap (run_text k (after size b (walk (suc k) c ++ walk k s)) ts) (sym (write_append (walk (suc k) c) (walk k s) b area₁))

text_run : (f : Forest) (bytes : ℕ → ℕ) (area : List ℕ) → run_text 0 bytes (tokens f) area ≡ write_text bytes (walk 0 f) area
unfolding run_text
text_run f bytes area = rw (append-nil (tokens f)) at (text_on f 0 bytes [] area)

-- ---- both passes

pub rows_read : (f : Forest) → trees f ≡ 1 → (area : List KindRow) → length (rows f) ≤ length area
    → run 0 (begin one (tokens f)) (begin size (tokens f)) (tokens f) area ≡ rows f ++ drop (length (rows f)) area
rows_read f root area room = rw (begins_at one (λ l h n. refl) f, begins_at size (λ l h n. refl) f) (rows_run f root area room)

pub text_read : (f : Forest) (area : List ℕ) → length (text f) ≤ length area
    → run_text 0 (begin size (tokens f)) (tokens f) area ≡ text f ++ drop (length (text f)) area
text_read f area room = rw (begins_at size (λ l h n. refl) f) (text_run f (starts size (walk 0 f)) area ∙ text_written f area room)

-- the sizes needed: where the level after the last one would start
pub sizes : (f : Forest) (d : ℕ) → depth f ≤ d → (begin one (tokens f) d ≡ length (rows f)) × (begin size (tokens f) d ≡ length (text f))
sizes f d p = (
  begin_is one (λ l h n. refl) f d ∙ starts_is one (walk 0 f) d ∙ high_all one f 0 d (omega arith) ∙ total_one f ∙ sym (rows_counted f),
  begin_is size (λ l h n. refl) f d ∙ starts_is size (walk 0 f) d ∙ high_all size f 0 d (omega arith) ∙ sym (high_all size f 0 (depth f) (omega arith)) ∙ sym (text_high f),
)
