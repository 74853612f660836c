-- What the first pass gathers has room.
--     text_fits, words_fit      after i bytes of a text there are at most i + 1 bytes of names, and no more names than values have started
--     text_held, words_held     where there is room, the slices begin with what was gathered
-- Assumes nothing.
use mathlib.Core.List.{List}
use mathlib.Core.Option.{some}
use mathlib.Core.Path.{◌≡◌, ap, ◌∙◌}
use Prim.Native.Nat.{ℕ, suc, ◌+◌, ◌*◌, ◌≤◌}
use native.Mathlib.Omega.{arith}
use lib.ListN.{length, get_or, take, drop}
use lib.Seq.{sets, sets-eq, take-append_seam}
use Rattle.jsontext.specs.Automaton.{State, at, step}
use Rattle.naming.specs.Gathering.{Gather}
use Rattle.trail.specs.Trail.{Kept, keeping, Trail, begins, goes}
use Rattle.gathering.specs.declared.Gathered.{Gathered}
use Rattle.gathering.specs.Held.{Held}
use Rattle.room.proofs.Taken.{took}
use Rattle.room.proofs.Fitting.{Owing, owing_moved}
use Rattle.room.proofs.Numbering.{Behind, behind_moved}

abbrev Fitting : ℕ → State → Gather → Type 0
Fitting i (at p ks) g = Owing i p g × Behind p g

-- a byte on
moved_on : (i b : ℕ) (bs : List ℕ) (x : Kept) (s t : State) → step s b ≡ some t → Fitting i s x.names → Fitting (suc i) t (keeping s b bs x).names
moved_on i b bs x (at p ks) (at q js) e h =
    let m = took p ks b q js e in
    (owing_moved 0 i p ks b bs q x.names m h.0, behind_moved 0 ks b bs q x.names p m h.1)

fitting : {json : List ℕ} {i : ℕ} {s : State} {x : Kept} → Trail json i s x → Fitting i s x.names
fitting begins = (omega arith, omega arith)
fitting {json} (goes {i} {s} {t} {x} r g l e) = moved_on i (get_or json i 0) (drop (suc i) json) x s t e (fitting r)

both_fit : (i : ℕ) (s : State) (g : Gather) → Fitting i s g → (length g.text ≤ i + 1) × (length g.words ≤ 3 * g.values)
both_fit i (at p ks) g h = (omega (arith, h.0), omega (arith, h.1))

module _ {json : List ℕ} {i : ℕ} {s : State} {x : Kept} (r : Trail json i s x) where
  pub text_fits : length x.names.text ≤ i + 1
  text_fits = (both_fit i s x.names (fitting r)).0

  pub words_fit : length x.names.words ≤ 3 * x.names.values
  words_fit = (both_fit i s x.names (fitting r)).1

-- what is put from the start on stands there
starts_with : (l vs : List ℕ) → length vs ≤ length l → take (length vs) (sets l 0 vs) ≡ vs
starts_with l vs h = ap (take (length vs)) (sets-eq vs l 0 (omega arith)) ∙ take-append_seam vs (drop (0 + length vs) l)

module _ (text₀ words₀ text words objects : List ℕ) (n : Gathered) (g : Gather) (h : Held text₀ words₀ text words objects n g) where
  pub text_held : length g.text ≤ length text₀ → take n.size text ≡ g.text
  text_held l = rw (h.text_is, h.numbers_are) (starts_with text₀ g.text l)

  pub words_held : length g.words ≤ length words₀ → take n.filled words ≡ g.words
  words_held l = rw (h.words_are, h.numbers_are) (starts_with words₀ g.words l)
