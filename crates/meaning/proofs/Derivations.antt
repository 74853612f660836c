-- The rules, read as trees, and the function that computes agree.
--     derived        what the function finds the rules derive, where some number falls along every application
--     one_result     the rules derive at most one result of a pair
-- Assumes nothing.
use mathlib.Core.Bool.{Bool, true, false, ◌&&◌, cond}
use mathlib.Core.List.{List, [], ◌∷◌, ◌++◌, map, append_assoc, append-nil}
use mathlib.Core.Path.{◌≡◌, refl, sym, ap, ap₂, ◌∙◌, subst}
use Prim.Native.Nat.{ℕ, zero, suc, ◌+◌, ◌≤◌, ◌<◌, max}
use native.Mathlib.Nat.{not-suc-le-zero, le_of_suc-le-suc}
use native.Mathlib.Omega.{arith}
use Rattle.sheet.specs.Doc.{Doc}
use Rattle.rulesheet.specs.Ruleset.{Clause, asserts, in_place, if_then_else, dependent_schemas, contains, takes, Ruleset}
use Rattle.meaning.specs.Rules.{Pair, Marks, nothing, ◌∪◌, Result, joined, to, here, under, elements_of, taken, depended}
use Rattle.meaning.specs.Rules.{Judgement, found, answer, applied, whole, stops, each, way_in, clause, clauses, judgement, derive}
use Rattle.meaning.specs.Derivation.{Schema, schema_true, schema_false, Clauses, klist_0, klist_n, Keyword, assertion, placed_in, if_then, if_else, dependent, containing, children, Each, no_more, one_more}
use Rattle.meaning.proofs.Lists.{Every, every_nil, every_cons, every_map, every_left, every_right}
use Rattle.meaning.proofs.Judgements.{answer_each, applied_each, answer_then, applied_then}

-- no clause has been judged
abbrev pub start : Result
start = record { holds = true; marks = nothing }

-- what a condition and the branch taken come to
abbrev pub both : Result → Result → Result
both q r = record { holds = r.holds; marks = q.marks ∪ r.marks }

-- ---- the function finds what the rules derive

module _ (D : Doc) (R : Ruleset) (sub : Pair → Result) where
  abbrev Known : Pair → Type 0
  Known q = Schema D R q (sub q)

  each_derived : {ps : List Pair} → Every Known ps → Each D R ps (map sub ps)
  each_derived every_nil = no_more
  each_derived (every_cons h hs) = one_more h (each_derived hs)

  asked : (ps : List Pair) (k : List Result → Judgement) → Every Known (applied sub (each whole ps k)) → Each D R ps (map sub ps)
  asked ps k h = each_derived (every_left ps (applied sub (k (map sub ps))) (subst (Every Known) (applied_each sub ps k) h))

  keyword_derived : (p : Pair) (cs : List Clause) (μ : Marks) (c : Clause) → Every Known (applied sub (clause D whole p cs μ c))
      → Keyword D R p cs μ c (answer sub (clause D whole p cs μ c))
  unfolding clause answer applied joined way_in
  keyword_derived p cs μ (asserts t) h = assertion refl refl
  keyword_derived p cs μ (in_place m ss) h = rw answer_each (placed_in (asked (here p ss) _ h) refl refl)
  keyword_derived p cs μ (if_then_else i t e) h = chosen (sub (to p p.row i)).holds refl h
    where
      chosen : (b : Bool) → (sub (to p p.row i)).holds ≡ b → Every Known (to p p.row i ∷ to p p.row (cond b t e) ∷ [])
          → Keyword D R p cs μ (if_then_else i t e) (both (sub (to p p.row i)) (sub (to p p.row (cond b t e))))
      chosen true s (every_cons d (every_cons d' every_nil)) = if_then d s d' refl refl
      chosen false s (every_cons d (every_cons d' every_nil)) = if_else d s d' refl refl
  keyword_derived p cs μ (dependent_schemas es) h = rw answer_each (dependent (asked (depended D p es) _ h) refl refl)
  keyword_derived p cs μ (contains s least most) h = rw answer_each (containing (asked (under p s (elements_of D p.row)) _ h) refl refl)
  keyword_derived p cs μ (takes c) h = rw answer_each (children (asked (taken D p cs μ c) _ h) refl refl)

  clauses_derived : (p : Pair) (before : List Clause) (r : Result) (cs : List Clause) → Clauses D R p before r
      → Every Known (applied sub (clauses D whole p before r cs)) → Clauses D R p (before ++ cs) (answer sub (clauses D whole p before r cs))
  unfolding clauses answer stops
  clauses_derived p before r [] d h = rw append-nil d
  clauses_derived p before r (c ∷ cs) d h =
      let J = clause D whole p before r.marks c in
      let next : Result → Judgement = λ q. clauses D whole p (before ++ c ∷ []) (record { holds = r.holds && q.holds; marks = r.marks ∪ q.marks }) cs in
      let both = subst (Every Known) (applied_then sub J next) h in
      let k = keyword_derived p before r.marks c (every_left (applied sub J) (applied sub (next (answer sub J))) both) in
      subst (λ l. Clauses D R p l (answer sub (clauses D whole p before r (c ∷ cs)))) (append_assoc before (c ∷ []) cs)
      (rw (answer_then sub J next)
      (clauses_derived p (before ++ c ∷ []) _ cs (klist_n d k refl refl refl) (every_right (applied sub J) (applied sub (next (answer sub J))) both)))

  -- a schema that fails has no marks
  closed : (p : Pair) (b : Bool) (κ : Marks) → Clauses D R p (R.clauses p.rule) (record { holds = b; marks = κ })
      → Schema D R p (record { holds = b; marks = λ k. b && κ k })
  unfolding nothing
  closed p true κ d = schema_true d refl refl refl
  closed p false κ d = schema_false d refl refl refl

  schema_derived : (p : Pair) → Every Known (applied sub (judgement D R whole p)) → Schema D R p (answer sub (judgement D R whole p))
  unfolding judgement answer
  schema_derived p h =
      let J = clauses D whole p [] start (R.clauses p.rule) in
      let last : Result → Judgement = λ r. found (record { holds = r.holds; marks = λ k. r.holds && r.marks k }) in
      let both = subst (Every Known) (applied_then sub J last) h in
      let d = clauses_derived p [] start (R.clauses p.rule) (klist_0 refl refl) (every_left (applied sub J) (applied sub (last (answer sub J))) both) in
      rw (answer_then sub J last) (closed p (answer sub J).holds (answer sub J).marks d)

module _ (D : Doc) (R : Ruleset) (rank : Pair → ℕ)
    (falls : (sub : Pair → Result) (p : Pair) → Every (λ q. rank q < rank p) (applied sub (judgement D R whole p))) where
  pub derived : (f : ℕ) (p : Pair) → rank p < f → Schema D R p (derive D R f p)
  unfolding derive
  derived zero p h = absurd (not-suc-le-zero h)
  derived (suc f) p h =
      schema_derived D R (λ q. derive D R f q) p
      (every_map (λ q (l : rank q < rank p). derived f q (omega arith)) (falls (λ q. derive D R f q) p))

-- ---- what the rules derive the function finds, at every depth from some on

abbrev Finds : (ℕ → Result) → Result → Type 0
Finds find r = (n : ℕ) × ((f : ℕ) → n ≤ f → find f ≡ r)

pub alike : {q r : Result} → q.holds ≡ r.holds → q.marks ≡ r.marks → q ≡ r
alike a b = λ i. record { holds = a i; marks = b i }

module _ (D : Doc) (R : Ruleset) where
  abbrev at : ℕ → Pair → Result
  at f q = derive D R f q

  -- the clauses of two lists, one after the other
  clauses_append : (sub : Pair → Result) (p : Pair) (before : List Clause) (r : Result) (cs ds : List Clause)
      → answer sub (clauses D whole p before r (cs ++ ds)) ≡ answer sub (clauses D whole p (before ++ cs) (answer sub (clauses D whole p before r cs)) ds)
  unfolding clauses answer stops
  clauses_append sub p before r [] ds = rw append-nil
  clauses_append sub p before r (c ∷ cs) ds = simp answer_then (clauses_append sub p (before ++ c ∷ []) _ cs ds ∙ simp append_assoc)

  -- a step from the results found to a rule's result
  step : (f : ℕ) (ps : List Pair) (rs : List Result) (g : List Result → Result) → map (at f) ps ≡ rs
      → answer (at f) (each whole ps (λ qs. found (g qs))) ≡ g rs
  unfolding answer
  step f ps rs g e = answer_each (at f) ps (λ qs. found (g qs)) ∙ ap g e

  -- the branch that a condition takes
  module _ (sub : Pair → Result) (p : Pair) (cs : List Clause) (μ : Marks) (i t e : ℕ) (q : Result) (b : Bool) (x : sub (to p p.row i) ≡ q) (y : q.holds ≡ b) where
    chosen : (sub (to p p.row i)).holds ≡ b
    chosen = ap (λ (r : Result). r.holds) x ∙ y

    pub if_applied : applied sub (clause D whole p cs μ (if_then_else i t e)) ≡ to p p.row i ∷ to p p.row (cond b t e) ∷ []
    unfolding clause applied
    if_applied = ap (λ (z : Bool). to p p.row i ∷ to p p.row (cond z t e) ∷ []) chosen

    pub if_step : (q' : Result) → sub (to p p.row (cond b t e)) ≡ q' → answer sub (clause D whole p cs μ (if_then_else i t e)) ≡ both q q'
    unfolding clause answer
    if_step q' z = ap (λ (w : Bool). both (sub (to p p.row i)) (sub (to p p.row (cond w t e)))) chosen ∙ ap₂ both x z

  pub klist_step : (sub : Pair → Result) (p : Pair) (cs : List Clause) (c : Clause) (q q' : Result)
      → answer sub (clauses D whole p [] start cs) ≡ q
      → answer sub (clause D whole p cs q.marks c) ≡ q'
      → answer sub (clauses D whole p [] start (cs ++ c ∷ [])) ≡ record { holds = q.holds && q'.holds; marks = q.marks ∪ q'.marks }
  unfolding clauses answer stops
  klist_step sub p cs c q q' e e' =
      clauses_append sub p [] start cs (c ∷ [])
      ∙ ap (λ x. answer sub (clauses D whole p cs x (c ∷ []))) e
      ∙ simp answer_then (ap (λ x. record { holds = q.holds && x.holds; marks = q.marks ∪ x.marks }) e')

  schema_step : (f : ℕ) (p : Pair) (q : Result) → answer (at f) (clauses D whole p [] start (R.clauses p.rule)) ≡ q
      → at (suc f) p ≡ record { holds = q.holds; marks = λ k. q.holds && q.marks k }
  unfolding derive judgement answer
  schema_step f p q e =
      answer_then (at f) (clauses D whole p [] start (R.clauses p.rule)) (λ r. found (record { holds = r.holds; marks = λ k. r.holds && r.marks k }))
      ∙ ap (λ x. record { holds = x.holds; marks = λ k. x.holds && x.marks k }) e

  deeper : (p : Pair) (r : Result) (n : ℕ) → ((g : ℕ) → n ≤ g → at (suc g) p ≡ r) → (f : ℕ) → suc n ≤ f → at f p ≡ r
  deeper p r n k zero h = absurd (not-suc-le-zero h)
  deeper p r n k (suc f) h = k f (le_of_suc-le-suc h)

  mutual
    unfolding derive judgement answer nothing clauses clause joined way_in stops

    schema_found : {p : Pair} {r : Result} → Schema D R p r → Finds (λ f. at f p) r
    schema_found {p} {r} (schema_true {q = q} d a b c) =
        let n = clauses_found d in
        (suc n.0, deeper p r n.0 (λ g h. schema_step g p q (n.1 g h) ∙ alike (a ∙ sym b) (ap (λ x k. x && q.marks k) a ∙ sym c)))
    schema_found {p} {r} (schema_false {q = q} d a b c) =
        let n = clauses_found d in
        (suc n.0, deeper p r n.0 (λ g h. schema_step g p q (n.1 g h) ∙ alike (a ∙ sym b) (ap (λ x k. x && q.marks k) a ∙ sym c)))

    clauses_found : {p : Pair} {cs : List Clause} {r : Result} → Clauses D R p cs r
        → Finds (λ f. answer (at f) (clauses D whole p [] (record { holds = true; marks = nothing }) cs)) r
    clauses_found (klist_0 a b) = (0, λ f h. alike (sym a) (sym b))
    clauses_found {p} (klist_n {cs = cs} {c = c} {q = q} {q' = q'} d k a x y) =
        let n = clauses_found d in
        let m = keyword_found k in (
          max n.0 m.0,
          λ f h. ap (λ l. answer (at f) (clauses D whole p [] start l)) a ∙ klist_step (at f) p cs c q q' (n.1 f (omega arith)) (m.1 f (omega arith)) ∙ alike (sym x) (sym y),
        )

    keyword_found : {p : Pair} {cs : List Clause} {μ : Marks} {c : Clause} {r : Result} → Keyword D R p cs μ c r
        → Finds (λ f. answer (at f) (clause D whole p cs μ c)) r
    keyword_found (assertion a b) = (0, λ f h. alike (sym a) (sym b))
    keyword_found {p} (placed_in {ss = ss} e a b) = let n = each_found e in (n.0, λ f h. step f (here p ss) _ _ (n.1 f h) ∙ alike (sym a) (sym b))
    keyword_found {p} {cs} {μ} (if_then {i = i} {t = t} {e = e} {q = q} {q' = q'} d s d' a b) =
        let n = schema_found d in
        let m = schema_found d' in
        (max n.0 m.0, λ f h. if_step (at f) p cs μ i t e q true (n.1 f (omega arith)) s q' (m.1 f (omega arith)) ∙ alike (sym a) (sym b))
    keyword_found {p} {cs} {μ} (if_else {i = i} {t = t} {e = e} {q = q} {q' = q'} d s d' a b) =
        let n = schema_found d in
        let m = schema_found d' in
        (max n.0 m.0, λ f h. if_step (at f) p cs μ i t e q false (n.1 f (omega arith)) s q' (m.1 f (omega arith)) ∙ alike (sym a) (sym b))
    keyword_found {p} (dependent {es = es} e a b) = let n = each_found e in (n.0, λ f h. step f (depended D p es) _ _ (n.1 f h) ∙ alike (sym a) (sym b))
    keyword_found {p} (containing {s = s} e a b) = let n = each_found e in (n.0, λ f h. step f (under p s (elements_of D p.row)) _ _ (n.1 f h) ∙ alike (sym a) (sym b))
    keyword_found {p} {cs} {μ} (children {c = c} e a b) = let n = each_found e in (n.0, λ f h. step f (taken D p cs μ c) _ _ (n.1 f h) ∙ alike (sym a) (sym b))

    each_found : {ps : List Pair} {rs : List Result} → Each D R ps rs → (n : ℕ) × ((f : ℕ) → n ≤ f → map (at f) ps ≡ rs)
    each_found no_more = (0, λ f h. refl)
    each_found (one_more d e) = let n = schema_found d in let m = each_found e in (max n.0 m.0, λ f h. ap₂ (λ r rs. r ∷ rs) (n.1 f (omega arith)) (m.1 f (omega arith)))

  pub one_result : {p : Pair} {q r : Result} → Schema D R p q → Schema D R p r → q ≡ r
  one_result d e =
      let n = schema_found d in
      let m = schema_found e in
      sym (n.1 (max n.0 m.0) (omega arith)) ∙ m.1 (max n.0 m.0) (omega arith)
