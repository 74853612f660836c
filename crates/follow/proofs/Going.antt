-- What is left of a text, from a state on, comes to what there was.
--     Going       from one place and state to another
--     on          one byte more
--     breaks, ends    where it ends
-- Assumes nothing.
use mathlib.Core.Bool.{false}
use mathlib.Core.List.{List, [], ◌∷◌}
use mathlib.Core.Option.{Option, none, some}
use mathlib.Core.Path.{◌≡◌, refl, sym, ◌∙◌, ap}
use Prim.Native.Nat.{ℕ, suc, ◌+◌, ◌≤◌, ◌<◌}
use native.Mathlib.Numerals.{add-one}
use native.Mathlib.Omega.{arith}
use lib.ListN.{length, get_or, drop}
use lib.Seq.{drop-cons, drop-length}
use Rattle.jsontext.specs.Automaton.{State, step, run, accepting, accepted}
use Rattle.jsontext.specs.Refusal.{onward, reach}
use Rattle.follow.specs.declared.End.{End}
use Rattle.follow.specs.Following.{Followed}

pub record Going (json : List ℕ) (from : ℕ) (s₀ : State) (i : ℕ) (s : State) : Type 0 where
  pub inside : i ≤ length json
  pub reached : from + reach (drop from json) s₀ ≡ i + reach (drop i json) s
  pub ran : run (drop from json) (some s₀) ≡ run (drop i json) (some s)

pub sets_out : (json : List ℕ) (from : ℕ) (s₀ : State) → from ≤ length json → Going json from s₀ from s₀
sets_out json from s₀ h = record { inside = h; reached = refl; ran = refl }

none_on : (bs : List ℕ) → run bs none ≡ none
unfolding run
none_on [] = refl
none_on (x ∷ bs) = refl

module _ (json : List ℕ) (from : ℕ) (s₀ : State) (i : ℕ) (s : State) (g : Going json from s₀ i s) where
  -- at a byte
  module _ (more : i < length json) where
    here : drop i json ≡ get_or json i 0 ∷ drop (suc i) json
    here = drop-cons json i 0 more

    pub on : (t : State) → step s (get_or json i 0) ≡ some t → Going json from s₀ (i + 1) t
    unfolding reach run
    on t e =
        rw (add-one i)
        (record {
          inside = omega arith;
          reached = g.reached ∙ omega (arith, ap (λ (x : List ℕ). reach x s) here ∙ ap (λ (x : Option State). onward x (λ u. reach (drop (suc i) json) u)) e);
          ran = g.ran ∙ ap (λ (x : List ℕ). run x (some s)) here ∙ ap (run (drop (suc i) json)) e;
        })

    pub breaks : step s (get_or json i 0) ≡ none → Followed json from s₀ (record { at = i; whole = false })
    unfolding reach run
    breaks e =
        record {
          inside = omega arith;
          at_is = sym (g.reached ∙ omega (arith, ap (λ (x : List ℕ). reach x s) here ∙ ap (λ (x : Option State). onward x (λ u. reach (drop (suc i) json) u)) e));
          whole_is = sym (ap accepted (g.ran ∙ ap (λ (x : List ℕ). run x (some s)) here ∙ ap (run (drop (suc i) json)) e ∙ none_on (drop (suc i) json)));
        }

  pub ends : length json ≤ i → (r : End) → r.at ≡ i → r.whole ≡ accepting s → Followed json from s₀ r
  unfolding reach run
  ends h r p q =
      let all : i ≡ length json = omega (arith, g.inside) in
      let none_left : drop i json ≡ [] = ap (λ (k : ℕ). drop k json) all ∙ drop-length json in
      record {
        inside = omega (arith, g.inside);
        at_is = p ∙ sym (g.reached ∙ ap (λ (x : List ℕ). i + reach x s) none_left ∙ omega arith);
        whole_is = q ∙ sym (ap accepted (g.ran ∙ ap (λ (x : List ℕ). run x (some s)) none_left));
      }

  -- what is followed from there is followed from the start
  pub then : (r : End) → Followed json i s r → Followed json from s₀ r
  then r f = record { inside = f.inside; at_is = f.at_is ∙ sym g.reached; whole_is = f.whole_is ∙ sym (ap accepted g.ran) }
