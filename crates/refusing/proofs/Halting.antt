-- Where the first pass halts.
--     come       the automaton died there, or goes on from there
--     whole      in a JSON text it halts at the end or behind a fault
--     died, lives, last_number, last_other    what the functions ask
-- Assumes nothing.
use mathlib.Core.Bool.{true, false, cond, ◌&&◌}
use mathlib.Core.List.{List, []}
use mathlib.Core.Logic.{◌≢◌, ◌⊎◌, ⊎_elim}
use mathlib.Core.Option.{some}
use mathlib.Core.Path.{◌≡◌, refl, sym, ◌∙◌, ap, subst}
use Prim.Native.Nat.{ℕ, zero, suc, ◌/◌, ◌≤◌, ◌<◌}
use native.Mathlib.Numerals.{add-one}
use native.Mathlib.Omega.{arith}
use borrow.Author.Tests.{eq-eqb}
use lib.Dec.{eqb}
use lib.ListN.{length, drop}
use lib.Seq.{drop-length}
use Rattle.laws.proofs.Tests.{left}
use Rattle.jsontext.specs.Automaton.{Bracket, Place, State, at, start, run, ended, none_open, accepted, accepts}
use Rattle.grammar.specs.Codes.{place_at}
use Rattle.brackets.specs.declared.Open.{Open}
use Rattle.brackets.specs.Brackets.{brackets_of, brackets, Fits}
use Rattle.follow.specs.Following.{Followed}
use Rattle.follow.proofs.Ends.{other_places}
use Rattle.follow.proofs.Going.{Going, sets_out, on, breaks}
use Rattle.breadth.proofs.Lists.{same_or_not}
use Rattle.survey.proofs.Ranges.{ranged}
use Rattle.survey.specs.declared.Watch.{Watch}
use Rattle.survey.specs.Watching as Watching
use Rattle.survey.specs.Watching.{moved}
use Rattle.trail.specs.Trail.{Kept, Trail, begins, goes}
use Rattle.trail.proofs.Ordered.{ordered}
use Rattle.trail.proofs.Whole.{Stopped, at_fault, at_end}
use Rattle.scan.specs.declared.Halt.{Halt}
use Rattle.scan.specs.Scanning as Scanning
use Rattle.scan.specs.Scanning.{Areas, Carried, Halted}
use Rattle.refusing.specs.Refusing as Refusing
use Rattle.refusing.specs.Refusing.{Come}

pub trail_going : {json : List ℕ} {i : ℕ} {s : State} {x : Kept} → Trail json i s x → Going json 0 start i s
trail_going {json} begins = sets_out json 0 start (omega arith)
trail_going {json} (goes {i} {s} {t} {x} tr g more e) = subst (λ (k : ℕ). Going json 0 start k t) (add-one i) (on json 0 start i s (trail_going tr) more t e)

module _ (json : List ℕ) (a₀ : Areas) (r : Halt) (a : Areas) where
  carried_come : Carried json a₀ r.at r.scan a → Come json r.at r.scan.place r.scan.opened
  carried_come c = Refusing.goes_on c.known c.fits (trail_going c.trail)

  pub come : Halted json a₀ r a → Come json r.at r.scan.place r.scan.opened
  come (Scanning.broken {s} {x} d more tr e) = Refusing.breaks d (breaks json 0 start r.at s (trail_going tr) more e)
  come (Scanning.at_end c e) = carried_come c
  come (Scanning.at_fault c e o) = carried_come c
  come (Scanning.deep c l) = carried_come c

  -- ---- in a JSON text

  pub record Whole : Type 0 where
    pub carried : Carried json a₀ r.at r.scan a
    pub stopped : Stopped json r.at (place_at r.scan.place) carried.kept

  -- it may end where it ends
  ends_well : (i : ℕ) (p : Place) (ks : List Bracket) → Going json 0 start i (at p ks) → i ≡ length json → accepts json ≡ true → ended p ≡ true
  unfolding run
  ends_well i p ks g e y =
      let none_left : drop i json ≡ [] = ap (λ (k : ℕ). drop k json) e ∙ drop-length json in
      let same : accepts json ≡ ended p && none_open ks = ap accepted (g.ran ∙ ap (λ (l : List ℕ). run l (some (at p ks))) none_left) in
      left (ended p) (none_open ks) (sym same ∙ y)

  not_dead : {A : Type 0} → (f : Followed json 0 start (record { at = r.at; whole = false })) → accepts json ≡ true → A
  not_dead f y = absurd (let e : false ≡ true = f.whole_is ∙ y in let z : ◌≡◌ {A = ℕ} 0 1 = cc in omega arith)

  pub how_many : (bits d : ℕ) → length (brackets_of bits d) ≡ d
  unfolding brackets_of
  how_many bits zero = refl
  how_many bits (suc d) = ap suc (how_many (bits / 2) d)

  pub whole : Halted json a₀ r a → accepts json ≡ true → Whole
  whole (Scanning.broken {s} {x} d more tr e) y = not_dead (breaks json 0 start r.at s (trail_going tr) more e) y
  whole (Scanning.at_end c e) y =
      record { carried = c; stopped = at_end e (ends_well r.at (place_at r.scan.place) (brackets r.scan.opened) (trail_going c.trail) e y) }
  whole (Scanning.at_fault c e o) y =
      record {
        carried = c;
        stopped = at_fault (λ z. e (ap (λ w. w.fault) (sym c.watch_is) ∙ z)) (ap (λ n. n.on) (sym c.names_are.numbers_are) ∙ o);
      }
  whole (Scanning.deep c l) y = absurd (omega (arith, how_many r.scan.opened.bits r.scan.opened.depth, (ordered c.trail).depth))

-- ---- the automaton behind the halt

dead_low : {A : Type 0} (place : ℕ) → place ≡ 63 → place < 50 → A
dead_low place e l = absurd (omega arith)

pub died : {json : List ℕ} {i place : ℕ} {opened : Open} → Come json i place opened → place ≡ 63 → Followed json 0 start (record { at = i; whole = false })
died (Refusing.breaks d f) e = f
died {place = place} (Refusing.goes_on k f g) e = dead_low place e k

pub record Lives (json : List ℕ) (i place : ℕ) (opened : Open) : Type 0 where
  pub known : place < 50
  pub fits : Fits opened
  pub going : Going json 0 start i (at (place_at place) (brackets opened))

pub lives : {json : List ℕ} {i place : ℕ} {opened : Open} → Come json i place opened → (place ≡ 63 → ⊥) → Lives json i place opened
lives (Refusing.breaks d f) e = absurd (e d)
lives (Refusing.goes_on k f g) e = record { known = k; fits = f; going = g }

-- ---- the end of the text

false_is : {A : Type 0} → false ≡ true → A
false_is e = absurd (let z : ◌≡◌ {A = ℕ} 0 1 = cc in omega arith)

-- in a number it ends
pub last_number : (place k : ℕ) (w : Watch) → 16 ≤ place → place < 24 → w.fault ≡ 0 → (r : Watch) → r ≡ Watching.ended k w
    → (w.fault ≢ 0) ⊎ (ended (place_at place) ≡ true) → r ≡ cond (eqb w.fault 0) (moved (place_at place) k 0x20 1 w) w
last_number place k w low high calm r q h =
    ⊎_elim
    (λ (z : w.fault ≢ 0). absurd (z calm))
    (λ (z : ended (place_at place) ≡ true).
    rw (eq-eqb w.fault 0 calm)
    (q
    ∙ sym
    (ranged (λ p. ended p ≡ true → moved p k 0x20 1 w ≡ Watching.ended k w) 16 8 refl
    ((λ e. false_is e), ((λ e. refl), ((λ e. refl), ((λ e. false_is e), ((λ e. refl), ((λ e. false_is e), ((λ e. false_is e), ((λ e. refl), tt)))))))) place low high z)))
    h

-- at another nothing is moved
pub last_other : (place k : ℕ) (w : Watch) → place < 50 → (place ≡ 17 → ⊥) → (place ≡ 18 → ⊥) → (place ≡ 20 → ⊥) → (place ≡ 23 → ⊥) → w.fault ≡ 0
    → (w.fault ≢ 0) ⊎ (ended (place_at place) ≡ true) → w ≡ cond (eqb w.fault 0) (moved (place_at place) k 0x20 1 w) w
last_other place k w low a b c d calm h =
    ⊎_elim
    (λ (z : w.fault ≢ 0). absurd (z calm))
    (λ (z : ended (place_at place) ≡ true).
    rw (eq-eqb w.fault 0 calm)
    (⊎_elim
    (λ (e : place ≡ 2). ap (λ (x : ℕ). moved (place_at x) k 0x20 1 w) (sym e))
    (λ (e : place ≡ 2 → ⊥). absurd (let f : false ≡ true = sym (other_places place low e a b c d) ∙ z in let y : ◌≡◌ {A = ℕ} 0 1 = cc in omega arith))
    (same_or_not place 2)))
    h
