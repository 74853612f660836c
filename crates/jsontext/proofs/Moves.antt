-- Moves of the automaton, and texts that it accepts from a state.
--     Fits, fits         a byte that goes somewhere is in the range of a move to there
--     hit, miss          the first move is taken, or is not
--     apart, picked      where no two moves share a byte, every move is taken
--     Accepts, dead      the automaton accepts these bytes from a state; it never does once it has died
--     Reading, quietly   the same, with the starts of values, names and escapes that it sees on the way
-- Assumes nothing.
use mathlib.Core.Bool.{Bool, true, false, ◌&&◌, ◌||◌, cond, and-false}
use mathlib.Core.List.{List, [], ◌∷◌}
use mathlib.Core.Logic.{◌⊎◌, inl, inr, ⊎_elim}
use mathlib.Core.Option.{Option, none, some}
use mathlib.Core.Path.{◌≡◌, refl, ap, subst}
use Prim.Native.Nat.{ℕ, suc, ◌≤◌, ◌<◌}
use native.Mathlib.Omega.{arith}
use lib.Dec.{leb, ltb}
use borrow.Author.Tests.{leb-true, le-leb, lt-leb, ltb-true}
use lib.ListN.{length}
use Rattle.laws.proofs.Tests.{left, right, either}
use Rattle.jsontext.specs.Sightings.{What, Sighting, sighting, sight, seen}
use Rattle.jsontext.specs.Automaton.{Place, Bracket, at, State, Move, pick, step, run, accepted}

-- ---- moves

-- the byte is in the range of a move of which P holds
abbrev pub Fits : List Move → ℕ → (Move → Type 0) → Type 0
Fits [] b P = ⊥
Fits (m ∷ ms) b P = ((m.low ≤ b) × (b ≤ m.high) × P m) ⊎ Fits ms b P

absurd_none : {m : Move} → none ≡ some m → ⊥
absurd_none e = let z : ◌≡◌ {A = ℕ} 0 1 = cc in omega arith

pub fits : (P : Move → Type 0) (ms : List Move) (b : ℕ) (t : Move) → pick ms b ≡ some t → P t → Fits ms b P
unfolding pick
fits P [] b t e p = absurd_none e
fits P (m ∷ ms) b t e p = go (leb m.low b) (leb b m.high) refl refl e (λ f. fits P ms b t f p)
  where
    go : (x y : Bool)
        → leb m.low b ≡ x
        → leb b m.high ≡ y
        → cond (x && y) (some m) (pick ms b) ≡ some t
        → (pick ms b ≡ some t → Fits ms b P)
        → Fits (m ∷ ms) b P
    go true true l h f g = let same : t ≡ m = cc in inl (leb-true m.low b l, leb-true b m.high h, subst P same p)
    go true false l h f g = inr (g f)
    go false y l h f g = inr (g f)

pub hit : (m : Move) (ms : List Move) (b : ℕ) → m.low ≤ b → b ≤ m.high → pick (m ∷ ms) b ≡ some m
unfolding pick
hit m ms b l h = rw (le-leb m.low b l, le-leb b m.high h)

pub miss : (m : Move) (ms : List Move) (b : ℕ) → (b < m.low) ⊎ (m.high < b) → pick (m ∷ ms) b ≡ pick ms b
unfolding pick
miss m ms b (inl l) = rw (lt-leb m.low b l)
miss m ms b (inr h) = rw (lt-leb b m.high h, and-false)

-- m shares no byte with the moves
unfoldable pub clear : Move → List Move → Bool
clear m [] = true
clear m (n ∷ ms) = (ltb m.high n.low || ltb n.high m.low) && clear m ms

unfoldable pub apart : List Move → Bool
apart [] = true
apart (m ∷ ms) = clear m ms && apart ms

outside : (P : Move → Type 0) (m : Move) (ms : List Move) (b : ℕ) → clear m ms ≡ true → Fits ms b P → (b < m.low) ⊎ (m.high < b)
unfolding clear
outside P m [] b e f = absurd f
outside P m (n ∷ ms) b e (inl f) =
    ⊎_elim
    (λ h. inr (let l = ltb-true m.high n.low h in omega (arith, f.0)))
    (λ h. inl (let l = ltb-true n.high m.low h in omega (arith, f.1)))
    (either (ltb m.high n.low) (ltb n.high m.low) (left (ltb m.high n.low || ltb n.high m.low) (clear m ms) e))
outside P m (n ∷ ms) b e (inr f) = outside P m ms b (right (ltb m.high n.low || ltb n.high m.low) (clear m ms) e) f

pub picked : (P : Option Move → Type 0) (ms : List Move) (b : ℕ) → apart ms ≡ true → Fits ms b (λ m. P (some m)) → P (pick ms b)
unfolding apart
picked P [] b e f = absurd f
picked P (m ∷ ms) b e (inl f) = rw (hit m ms b f.0 f.1) f.2
picked P (m ∷ ms) b e (inr f) =
    rw
    (miss m ms b (outside (λ n. P (some n)) m ms b (left (clear m ms) (apart ms) e) f))
    (picked P ms b (right (clear m ms) (apart ms) e) f)

-- ---- accepted from a state

abbrev pub Accepts : State → List ℕ → Type 0
Accepts s bs = accepted (run bs (some s)) ≡ true

pub dead : (bs : List ℕ) → accepted (run bs none) ≡ false
unfolding run
dead [] = refl
dead (b ∷ bs) = refl

pub by : (s t : State) (b : ℕ) (bs : List ℕ) → step s b ≡ some t → Accepts t bs → Accepts s (b ∷ bs)
unfolding run
by s t b bs e a = rw e a

-- the automaton accepts these bytes from a state, and sees these starts
abbrev pub Reading : List Sighting → State → List ℕ → Type 0
Reading sightings s bs = Accepts s bs × (seen bs (some s) ≡ sightings)

-- a byte with which nothing starts
pub quietly : (L : List Sighting) (p : Place) (ks : List Bracket) (t : State) (b : ℕ) (bs : List ℕ)
    → sight p b ≡ none
    → step (at p ks) b ≡ some t
    → Reading L t bs
    → Reading L (at p ks) (b ∷ bs)
unfolding seen
quietly L p ks t b bs q e r = (by (at p ks) t b bs e r.0, rw (q, e) r.1)

-- a byte with which something starts
pub loudly : (L : List Sighting) (w : What) (p : Place) (ks : List Bracket) (t : State) (b : ℕ) (bs : List ℕ)
    → sight p b ≡ some w
    → step (at p ks) b ≡ some t
    → Reading L t bs
    → Reading (sighting w (suc (length ks)) (b ∷ bs) ∷ L) (at p ks) (b ∷ bs)
unfolding seen
loudly L w p ks t b bs q e r = (by (at p ks) t b bs e r.0, rw (q, e) (ap (λ l. sighting w (suc (length ks)) (b ∷ bs) ∷ l) r.1))
