-- What is left of a text, from where the first pass has come to, comes to what the whole comes to.
--     watch_along, tally_along    what is kept of faults, and the counters
--     unmoved_on                  what no byte moves stays
-- Assumes nothing.
use mathlib.Core.List.{List, [], ◌∷◌}
use mathlib.Core.Option.{Option, none, some}
use mathlib.Core.Path.{◌≡◌, refl, ◌∙◌, ap}
use Prim.Native.Nat.{ℕ, suc, ◌<◌}
use lib.ListN.{length, get_or, drop}
use lib.Seq.{drop-cons}
use Rattle.jsontext.specs.Automaton.{Bracket, Place, State, at, step, start}
use Rattle.jsontext.specs.Along.{Act, along}
use Rattle.survey.specs.Watching.{watch, watching}
use Rattle.tally.specs.Tallying.{no_tally, tallying}
use Rattle.trail.specs.Trail.{Kept, Trail, begins, goes}

module _ {S : Type 0} (act : Act S) where
  -- one byte more
  pub one_more : (json : List ℕ) (i : ℕ) (p : Place) (ks : List Bracket) (t : State) (x : S) → i < length json → step (at p ks) (get_or json i 0) ≡ some t
      → along act (drop i json) (some (at p ks)) x ≡ along act (drop (suc i) json) (some t) (act p ks (get_or json i 0) (drop (suc i) json) x)
  unfolding along
  one_more json i p ks t x more e =
      ap (λ (l : List ℕ). along act l (some (at p ks)) x) (drop-cons json i 0 more)
      ∙ ap (λ (o : Option State). along act (drop (suc i) json) o (act p ks (get_or json i 0) (drop (suc i) json) x)) e

  pub unmoved_on : (x : S) → ((p : Place) (ks : List Bracket) (b : ℕ) (bs : List ℕ) → act p ks b bs x ≡ x) → (l : List ℕ) (o : Option State) → along act l o x ≡ x
  unfolding along
  unmoved_on x h [] none = refl
  unmoved_on x h [] (some (at p ks)) = h p ks 0x20 []
  unmoved_on x h (b ∷ bs) none = refl
  unmoved_on x h (b ∷ bs) (some (at p ks)) = ap (along act bs (step (at p ks) b)) (h p ks b bs) ∙ unmoved_on x h bs (step (at p ks) b)

pub watch_along : {json : List ℕ} {i : ℕ} {s : State} {x : Kept} → Trail json i s x → along watching json (some start) watch ≡ along watching (drop i json) (some s) x.watch
watch_along begins = refl
watch_along {json = json} (goes {i} {s = at p ks} {t} {x} tr on more e) = watch_along tr ∙ one_more watching json i p ks t x.watch more e

pub tally_along : {json : List ℕ} {i : ℕ} {s : State} {x : Kept} → Trail json i s x → along tallying json (some start) no_tally ≡ along tallying (drop i json) (some s) x.tally
tally_along begins = refl
tally_along {json = json} (goes {i} {s = at p ks} {t} {x} tr on more e) = tally_along tr ∙ one_more tallying json i p ks t x.tally more e
