-- Marks.
--     marks_children     a pair marks children of its row only
--     failed_none        a schema that fails marks nothing
-- Assumes nothing.
use mathlib.Core.Bool.{Bool, true, false, cond, ◌&&◌, ◌||◌, true≢false}
use mathlib.Core.List.{List, [], ◌∷◌, ◌++◌, map}
use mathlib.Core.Logic.{⊎_elim}
use mathlib.Core.Path.{◌≡◌, refl, sym, ap, ◌∙◌, subst}
use Prim.Native.Nat.{ℕ, zero, suc}
use lib.Dec.{eqb}
use borrow.Author.Tests.{eqb-true}
use Rattle.laws.proofs.Tests.{either, right}
use Rattle.sheet.specs.Doc.{Doc, Child}
use Rattle.rulesheet.specs.Ruleset.{Clause, asserts, in_place, if_then_else, dependent_schemas, contains, takes, Mode, guarded, Ruleset}
use Rattle.meaning.specs.Lists.{elem}
use Rattle.meaning.specs.Rules.{Pair, Marks, nothing, ◌∪◌, these, unions, Result, to, here, under, holding, elements_of, taken, depended, found, answer, whole, stops, way_in, clause, clauses, depth, judgement, derive, truth}
use Rattle.meaning.proofs.Lists.{Every, every_nil, every_cons, every_map, every_image}
use Rattle.meaning.proofs.Judgements.{answer_each, answer_then}
use Rattle.meaning.proofs.Steps.{Taken, taken_steps, elements_taken, Here, depended_here}

-- an element has what every element has
elem_every : (P : ℕ → Type 0) (k : ℕ) {ks : List ℕ} → Every P ks → elem k ks ≡ true → P k
unfolding elem
elem_every P k every_nil e = absurd (true≢false (sym e))
elem_every P k (every_cons {x = x} {xs = xs} h hs) e =
    ⊎_elim (λ a. subst P (sym (eqb-true k x a)) h) (λ a. elem_every P k hs a) (either (eqb k x) (elem k xs) e)

-- what holds of all pairs holds of those that hold
every_holding : (P : Pair → Type 0) {ps : List Pair} (rs : List Result) → Every P ps → Every P (holding ps rs)
unfolding holding
every_holding P rs every_nil = every_nil
every_holding P [] (every_cons h hs) = every_nil
every_holding P (r ∷ rs) (every_cons {x = x} {xs = xs} h hs) = maybe r.holds (every_holding P rs hs)
  where
    maybe : (b : Bool) → Every P (holding xs rs) → Every P (cond b (x ∷ holding xs rs) (holding xs rs))
    maybe true rest = every_cons h rest
    maybe false rest = rest

module _ (D : Doc) (R : Ruleset) where
  -- the result marks children of the row only
  abbrev pub Within : ℕ → Result → Type 0
  Within j r = (k : ℕ) → r.marks k ≡ true → Child D j k

  module _ (sub : Pair → Result) (known : (q : Pair) → Within q.row (sub q)) where
    unions_in : (p : Pair) (ss : List ℕ) (k : ℕ) → unions (map sub (here p ss)) k ≡ true → Child D p.row k
    unfolding unions here to nothing ◌∪◌
    unions_in p [] k e = absurd (true≢false (sym e))
    unions_in p (s ∷ ss) k e =
        ⊎_elim (λ a. known (to p p.row s) k a) (λ a. unions_in p ss k a)
        (either ((sub (to p p.row s)).marks k) (unions (map sub (here p ss)) k) e)

    unions_on : (p : Pair) (ps : List Pair) → Every (λ (q : Pair). q.row ≡ p.row) ps → (k : ℕ) → unions (map sub ps) k ≡ true → Child D p.row k
    unfolding unions nothing ◌∪◌
    unions_on p [] h k e = absurd (true≢false (sym e))
    unions_on p (q ∷ qs) (every_cons s h) k e =
        ⊎_elim (λ a. subst (λ j. Child D j k) s (known q k a)) (λ a. unions_on p qs h k a) (either ((sub q).marks k) (unions (map sub qs) k) e)

    clause_in : (p : Pair) (before : List Clause) (κ : Marks) (c : Clause) → Within p.row (answer sub (clause D whole p before κ c))
    unfolding clause answer nothing these to ◌∪◌ way_in
    clause_in p before κ (asserts t) = λ k e. absurd (true≢false (sym e))
    clause_in p before κ (in_place m ss) = rw answer_each (λ k e. unions_in p ss k e)
    clause_in p before κ (if_then_else i t e) = λ k h. ⊎_elim (known (to p p.row i) k) (known (to p p.row _) k) (either _ _ h)
    clause_in p before κ (dependent_schemas es) = rw answer_each (λ k e. unions_on p (depended D p es) (every_map (λ q (h : Here D p es q). h.0) (depended_here D p es)) k e)
    clause_in p before κ (contains s least most) =
        rw answer_each
        (λ k e. elem_every (Child D p.row) k (every_image (λ (q : Pair). q.row) (λ q (t : Taken D p (s ∷ []) q). t.child) (every_holding (Taken D p (s ∷ [])) _ (elements_taken D p s))) e)
    clause_in p before κ (takes c) =
        rw answer_each
        (λ k e. elem_every (Child D p.row) k (every_image (λ (q : Pair). q.row) (λ q (t : Taken D p (guarded c) q). t.child) (taken_steps D p before κ c)) e)

    clauses_in : (p : Pair) (before : List Clause) (r : Result) (cs : List Clause) → Within p.row r → Within p.row (answer sub (clauses D whole p before r cs))
    unfolding clauses answer ◌∪◌ stops
    clauses_in p before r [] h = h
    clauses_in p before r (c ∷ cs) h =
        rw answer_then
        (clauses_in p (before ++ c ∷ []) _ cs
        (λ k e. ⊎_elim (h k) (clause_in p before r.marks c k) (either (r.marks k) ((answer sub (clause D whole p before r.marks c)).marks k) e)))

    judgement_in : (p : Pair) → Within p.row (answer sub (judgement D R whole p))
    unfolding judgement answer nothing
    judgement_in p =
        rw answer_then
        (λ k e. clauses_in p [] (record { holds = true; marks = nothing }) (R.clauses p.rule) (λ i a. absurd (true≢false (sym a))) k
        (right (answer sub (clauses D whole p [] (record { holds = true; marks = nothing }) (R.clauses p.rule))).holds _ e))

    judgement_none : (p : Pair) → (answer sub (judgement D R whole p)).holds ≡ false → (k : ℕ) → (answer sub (judgement D R whole p)).marks k ≡ false
    unfolding judgement answer
    judgement_none p =
        rw answer_then
        (λ e k. ap (λ b. b && (answer sub (clauses D whole p [] (record { holds = true; marks = nothing }) (R.clauses p.rule))).marks k) e)

  derive_in : (f : ℕ) (p : Pair) → Within p.row (derive D R f p)
  unfolding derive nothing
  derive_in zero p = λ k e. absurd (true≢false (sym e))
  derive_in (suc f) p = judgement_in (λ q. derive D R f q) (derive_in f) p

  pub marks_children : (p : Pair) (k : ℕ) → (truth D R p).marks k ≡ true → Child D p.row k
  unfolding truth
  marks_children p = derive_in depth p

  derive_none : (f : ℕ) (p : Pair) → (derive D R f p).holds ≡ false → (k : ℕ) → (derive D R f p).marks k ≡ false
  unfolding derive nothing
  derive_none zero p = λ e k. refl
  derive_none (suc f) p = judgement_none (λ q. derive D R f q) (derive_in f) p

  pub failed_none : (p : Pair) → (truth D R p).holds ≡ false → (k : ℕ) → (truth D R p).marks k ≡ false
  unfolding truth
  failed_none p = derive_none depth p
