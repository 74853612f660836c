-- What a derivation applies is what `applies` gives, for a record and rules that fit.
--     applies_derived     the premises of every derivation of a pair are the pairs that it applies, in order
-- Assumes nothing.
use mathlib.Core.Bool.{true, false, ◌&&◌}
use mathlib.Core.List.{List, [], ◌∷◌, ◌++◌, map, append_assoc, append-nil}
use mathlib.Core.Path.{◌≡◌, refl, sym, ap, ap₂, ◌∙◌}
use Prim.Native.Nat.{ℕ}
use Rattle.sheet.specs.Doc.{Doc}
use Rattle.rulesheet.specs.Ruleset.{Clause, asserts, in_place, if_then_else, dependent_schemas, contains, takes, Ruleset}
use Rattle.meaning.specs.Rules.{Pair, Marks, nothing, ◌∪◌, Result, to, here, under, elements_of, taken, depended}
use Rattle.meaning.specs.Rules.{Judgement, found, answer, applied, whole, stops, each, way_in, clause, clauses, judgement, truth, applies}
use Rattle.meaning.specs.Derivation.{Schema, schema_true, schema_false, Clauses, klist_0, klist_n, Keyword, assertion, placed_in, if_then, if_else, dependent, containing, children, Each, no_more, one_more}
use Rattle.meaning.specs.Derivation.{each_applies, keyword_applies, clauses_applies, schema_applies}
use Rattle.meaning.specs.Fit.{Fit}
use Rattle.meaning.proofs.Judgements.{answer_each, applied_each, answer_then, applied_then}
use Rattle.meaning.proofs.Derivations.{start, alike, if_applied, if_step, klist_step}
use Rattle.meaning.proofs.Truth.{truth_only}

module _ (D : Doc) (R : Ruleset) where
  -- the clauses of two lists, one after the other
  applied_append : (sub : Pair → Result) (p : Pair) (before : List Clause) (r : Result) (cs ds : List Clause)
      → applied sub (clauses D whole p before r (cs ++ ds))
      ≡ applied sub (clauses D whole p before r cs) ++ applied sub (clauses D whole p (before ++ cs) (answer sub (clauses D whole p before r cs)) ds)
  unfolding clauses answer applied stops
  applied_append sub p before r [] ds = rw append-nil
  applied_append sub p before r (c ∷ cs) ds = simp (applied_then, answer_then) (ap (λ l. applied sub (clause D whole p before r.marks c) ++ l) (applied_append sub p (before ++ c ∷ []) _ cs ds) ∙ simp append_assoc)

  each_applies_lem : {ps : List Pair} {rs : List Result} (e : Each D R ps rs) → each_applies D R e ≡ ps
  unfolding each_applies
  each_applies_lem no_more = refl
  each_applies_lem (one_more {p = p} d e) = ap (λ l. p ∷ l) (each_applies_lem e)

  found_only : (sub : Pair → Result) (ps : List Pair) (g : List Result → Result) → applied sub (each whole ps (λ rs. found (g rs))) ≡ ps
  unfolding applied
  found_only sub ps g = applied_each sub ps (λ rs. found (g rs)) ∙ append-nil ps

  module _ (n m : ℕ) (fit : Fit D R n m) where
    abbrev t : Pair → Result
    t = truth D R

    each_true : {ps : List Pair} {rs : List Result} → Each D R ps rs → map t ps ≡ rs
    each_true no_more = refl
    each_true (one_more {p = p} {r = r} d e) = ap₂ (λ x xs. x ∷ xs) (sym (truth_only D R n m fit p r d)) (each_true e)

    asked : (ps : List Pair) (rs : List Result) (g : List Result → Result) → map t ps ≡ rs → answer t (each whole ps (λ qs. found (g qs))) ≡ g rs
    unfolding answer
    asked ps rs g e = answer_each t ps (λ qs. found (g qs)) ∙ ap g e

    keyword_true : {p : Pair} {cs : List Clause} {μ : Marks} {c : Clause} {r : Result} → Keyword D R p cs μ c r → answer t (clause D whole p cs μ c) ≡ r
    unfolding clause answer way_in
    keyword_true (assertion a b) = alike (sym a) (sym b)
    keyword_true {p} (placed_in {ss = ss} e a b) = asked (here p ss) _ _ (each_true e) ∙ alike (sym a) (sym b)
    keyword_true {p} {cs} {μ} (if_then {i = i} {t = x} {e = y} {q = q} {q' = q'} d s d' a b) =
        if_step D R t p cs μ i x y q true (sym (truth_only D R n m fit _ q d)) s q' (sym (truth_only D R n m fit _ q' d')) ∙ alike (sym a) (sym b)
    keyword_true {p} {cs} {μ} (if_else {i = i} {t = x} {e = y} {q = q} {q' = q'} d s d' a b) =
        if_step D R t p cs μ i x y q false (sym (truth_only D R n m fit _ q d)) s q' (sym (truth_only D R n m fit _ q' d')) ∙ alike (sym a) (sym b)
    keyword_true {p} (dependent {es = es} e a b) = asked (depended D p es) _ _ (each_true e) ∙ alike (sym a) (sym b)
    keyword_true {p} (containing {s = s} e a b) = asked (under p s (elements_of D p.row)) _ _ (each_true e) ∙ alike (sym a) (sym b)
    keyword_true {p} {cs} {μ} (children {c = c} e a b) = asked (taken D p cs μ c) _ _ (each_true e) ∙ alike (sym a) (sym b)

    keyword_applies_lem : {p : Pair} {cs : List Clause} {μ : Marks} {c : Clause} {r : Result} (k : Keyword D R p cs μ c r)
        → applied t (clause D whole p cs μ c) ≡ keyword_applies D R k
    unfolding keyword_applies each_applies clause applied way_in
    keyword_applies_lem (assertion a b) = refl
    keyword_applies_lem {p} (placed_in {ss = ss} e a b) = found_only t (here p ss) _ ∙ sym (each_applies_lem e)
    keyword_applies_lem {p} {cs} {μ} (if_then {i = i} {t = x} {e = y} {q = q} d s d' a b) = if_applied D R t p cs μ i x y q true (sym (truth_only D R n m fit _ q d)) s
    keyword_applies_lem {p} {cs} {μ} (if_else {i = i} {t = x} {e = y} {q = q} d s d' a b) = if_applied D R t p cs μ i x y q false (sym (truth_only D R n m fit _ q d)) s
    keyword_applies_lem {p} (dependent {es = es} e a b) = found_only t (depended D p es) _ ∙ sym (each_applies_lem e)
    keyword_applies_lem {p} (containing {s = s} e a b) = found_only t (under p s (elements_of D p.row)) _ ∙ sym (each_applies_lem e)
    keyword_applies_lem {p} {cs} {μ} (children {c = c} e a b) = found_only t (taken D p cs μ c) _ ∙ sym (each_applies_lem e)

    clauses_true : {p : Pair} {cs : List Clause} {r : Result} → Clauses D R p cs r → answer t (clauses D whole p [] start cs) ≡ r
    unfolding clauses answer stops
    clauses_true (klist_0 a b) = alike (sym a) (sym b)
    clauses_true {p} (klist_n {cs = cs} {c = c} {q = q} {q' = q'} d k a x y) =
        ap (λ l. answer t (clauses D whole p [] start l)) a ∙ klist_step D R t p cs c q q' (clauses_true d) (keyword_true k) ∙ alike (sym x) (sym y)

    one_clause : (p : Pair) (cs : List Clause) (c : Clause) (q : Result) → applied t (clauses D whole p cs q (c ∷ [])) ≡ applied t (clause D whole p cs q.marks c)
    unfolding clauses applied stops
    one_clause p cs c q = applied_then t (clause D whole p cs q.marks c) _ ∙ append-nil _

    clauses_applies_lem : {p : Pair} {cs : List Clause} {r : Result} (d : Clauses D R p cs r) → applied t (clauses D whole p [] start cs) ≡ clauses_applies D R d
    unfolding clauses_applies clauses applied stops
    clauses_applies_lem (klist_0 a b) = refl
    clauses_applies_lem {p} (klist_n {cs = cs} {c = c} {q = q} d k a x y) =
        ap (λ l. applied t (clauses D whole p [] start l)) a
        ∙ applied_append t p [] start cs (c ∷ [])
        ∙ ap₂ (λ l z. l ++ applied t (clauses D whole p cs z (c ∷ []))) (clauses_applies_lem d) (clauses_true d)
        ∙ ap (λ l. clauses_applies D R d ++ l) (one_clause p cs c q ∙ keyword_applies_lem k)

    all_clauses : (p : Pair) → applies D R whole p ≡ applied t (clauses D whole p [] start (R.clauses p.rule))
    unfolding applies judgement applied
    all_clauses p = applied_then t (clauses D whole p [] start (R.clauses p.rule)) _ ∙ append-nil _

    pub applies_derived : {p : Pair} {r : Result} (d : Schema D R p r) → applies D R whole p ≡ schema_applies D R d
    unfolding schema_applies
    applies_derived {p} (schema_true d a b c) = all_clauses p ∙ clauses_applies_lem d
    applies_derived {p} (schema_false d a b c) = all_clauses p ∙ clauses_applies_lem d
