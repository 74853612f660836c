-- A step of the automaton, by its moves.
--     Took, took       the move that was taken
--     every, next      a test that holds of each move's place holds of the next place; the same with the byte, and of a quote
-- Assumes nothing.
use mathlib.Core.Bool.{Bool, true, ◌&&◌}
use mathlib.Core.List.{List, [], ◌∷◌}
use mathlib.Core.Logic.{inl, inr}
use mathlib.Core.Option.{Option, none, some}
use mathlib.Core.Path.{◌≡◌, refl, ap, ◌∙◌}
use Prim.Native.Nat.{ℕ, ◌≤◌}
use native.Mathlib.Omega.{arith}
use Rattle.laws.proofs.Tests.{left, right}
use Rattle.jsontext.specs.Automaton.{Bracket, Place, at, Move, moves, pick, innermost, follow, step}
use Rattle.jsontext.proofs.Moves.{Fits, fits}

-- the test holds of every move
unfoldable pub every : (Move → Bool) → List Move → Bool
every q [] = true
every q (m ∷ ms) = q m && every q ms

of_fits : (q : Move → Bool) (ms : List Move) (b : ℕ) (m : Move) → every q ms ≡ true → Fits ms b (λ x. m ≡ x) → (q m ≡ true) × (m.low ≤ b)
unfolding every
of_fits q [] b m e f = absurd f
of_fits q (x ∷ ms) b m e (inl f) = rw f.2 (left (q x) (every q ms) e, f.0)
of_fits q (x ∷ ms) b m e (inr f) = of_fits q ms b m (right (q x) (every q ms) e) f

pub of_every : (q : Move → Bool) (ms : List Move) (b : ℕ) (m : Move) → every q ms ≡ true → pick ms b ≡ some m → (q m ≡ true) × (m.low ≤ b)
of_every q ms b m e p = of_fits q ms b m e (fits (λ x. m ≡ x) ms b m p refl)

-- the move that was taken
pub record Took (p : Place) (ks : List Bracket) (b : ℕ) (p' : Place) : Type 0 where
  pub move : Move
  pub picked : pick (moves p (innermost ks)) b ≡ some move
  pub place_is : move.place ≡ p'

pub took : (p : Place) (ks : List Bracket) (b : ℕ) (p' : Place) (ks' : List Bracket) → step (at p ks) b ≡ some (at p' ks') → Took p ks b p'
unfolding step
took p ks b p' ks' e = go (pick (moves p (innermost ks)) b) refl e
  where
    go : (o : Option Move) → pick (moves p (innermost ks)) b ≡ o → follow ks o ≡ some (at p' ks') → Took p ks b p'
    go none f h = absurd (let z : ◌≡◌ {A = ℕ} 0 1 = cc in omega arith)
    go (some m) f h = record { move = m; picked = f; place_is = cc }

module _ (p : Place) (ks : List Bracket) (b : ℕ) (p' : Place) (s : Took p ks b p') where
  pub next : (q : Place → Bool) → every (λ m. q m.place) (moves p (innermost ks)) ≡ true → q p' ≡ true
  next q e = rw s.place_is at (of_every (λ m. q m.place) (moves p (innermost ks)) b s.move e s.picked).0

  -- where the byte is known
  pub next_at : (c : ℕ) (m : Move) → pick (moves p (innermost ks)) c ≡ some m → b ≡ c → m.place ≡ p'
  next_at c m e h =
      let same : pick (moves p (innermost ks)) b ≡ pick (moves p (innermost ks)) c = ap (pick (moves p (innermost ks))) h in
      let f : pick (moves p (innermost ks)) b ≡ some s.move = s.picked in
      let g : m ≡ s.move = cc in
      ap (λ (x : Move). x.place) g ∙ s.place_is
