-- Cut judgements beside whole ones.
--     cut_result       the result of a pair, verdict and marks, does not depend on the cut
--     cut_among        the pairs that a cut judgement applies are among those of the whole one
--     reached_among    so are those that it reaches
-- Assumes nothing.
use mathlib.Core.Bool.{Bool, true, false, not, ◌&&◌, cond, true≢false}
use mathlib.Core.List.Memᴰ.{head as at_head}
use mathlib.Core.List.Memᴰ.{tail as in_Tail}
use mathlib.Core.List.{List, [], ◌∷◌, ◌++◌, map, append-nil, Memᴰ as In}
use mathlib.Core.List.Memᴰ
use mathlib.Core.Logic.{⊎_elim}
use mathlib.Core.Path.{◌≡◌, refl, sym, ap, ◌∙◌, subst}
use Rattle.laws.proofs.Tests.{decide}
use Rattle.sheet.specs.Doc.{Doc}
use Rattle.rulesheet.specs.Ruleset.{Mode, all_of, any_of, one_of, not_of, ref, Clause, asserts, in_place, if_then_else, dependent_schemas, contains, takes, Ruleset}
use Rattle.meaning.specs.Lists.{all}
use Rattle.meaning.specs.Rules.{Pair, Marks, nothing, ◌∪◌, Result, unions, verdicts, Judgement, found, answer, applied, and_then, Way, whole, cut, stops, each, way_in}
use Rattle.meaning.specs.Rules.{joined, here, clause, clauses, judgement, truth, applies}
use Rattle.meaning.specs.Settling.{Reached, itself, further}
use Rattle.meaning.proofs.Derivations.{start, alike}
use Rattle.meaning.proofs.Judgements.{up_to, answer_upto, applied_upto, answer_each, applied_each, answer_then, applied_then}

-- a schema that fails has no marks
abbrev shut : Result → Result
shut r = record { holds = r.holds; marks = λ k. r.holds && r.marks k }

shut_failed : (r s : Result) → r.holds ≡ false → s.holds ≡ false → shut r ≡ shut s
shut_failed r s e f = alike (e ∙ sym f) (ap (λ (b : Bool). λ k. b && r.marks k) e ∙ sym (ap (λ (b : Bool). λ k. b && s.marks k) f))

both_failed : (a : Bool) {b : Bool} → b ≡ false → (a && b) ≡ false
both_failed true e = e
both_failed false e = refl

abbrev after : Result → Result → Result
after r q = record { holds = r.holds && q.holds; marks = r.marks ∪ q.marks }

module _ (sub : Pair → Result) where
  -- ---- the pairs up to the first that fails

  upto_in : (ps : List Pair) (q : Pair) → In q (up_to sub cut ps) → In q ps
  unfolding up_to stops
  upto_in [] q i = i
  upto_in (p ∷ ps) q i = ⊎_elim (λ (e : q ≡ p). at_head e) (λ j. in_Tail (by (sub p).holds (upto_in ps q) j)) (Memᴰ.cases_cons i)
    where
      by : (b : Bool) → (In q (up_to sub cut ps) → In q ps) → In q (cond (not b) [] (up_to sub cut ps)) → In q ps
      by true f j = f j
      by false f j = elim j [ ]

  upto_all : (ps : List Pair) → all (verdicts (map sub (up_to sub cut ps))) ≡ all (verdicts (map sub ps))
  unfolding up_to stops verdicts all
  upto_all [] = refl
  upto_all (p ∷ ps) = by (sub p).holds (upto_all ps)
    where
      by : (b : Bool) → all (verdicts (map sub (up_to sub cut ps))) ≡ all (verdicts (map sub ps)) → (b && all (map (λ (r : Result). r.holds) (map sub (cond (not b) [] (up_to sub cut ps))))) ≡ (b && all (map (λ (r : Result). r.holds) (map sub ps)))
      by true e = e
      by false e = refl

  upto_held : (ps : List Pair) → all (verdicts (map sub ps)) ≡ true → up_to sub cut ps ≡ ps
  unfolding up_to stops verdicts all
  upto_held [] e = refl
  upto_held (p ∷ ps) e = ap (λ l. p ∷ l) (by (sub p).holds (upto_held ps) e)
    where
      by : (b : Bool) → (all (verdicts (map sub ps)) ≡ true → up_to sub cut ps ≡ ps) → (b && all (map (λ (r : Result). r.holds) (map sub ps))) ≡ true → cond (not b) [] (up_to sub cut ps) ≡ ps
      by true f h = f h
      by false f h = absurd (true≢false (sym h))

  module _ (D : Doc) (p : Pair) where
    -- ---- a clause

    module _ (before : List Clause) (κ : Marks) where
      abbrev found_in : Way → Clause → Result
      found_in w c = answer sub (clause D w p before κ c)

      abbrev applied_in : Way → Clause → List Pair
      applied_in w c = applied sub (clause D w p before κ c)

      abbrev joins : List Result → Judgement
      joins rs = found (record { holds = joined all_of (verdicts rs); marks = unions rs })

      clause_holds : (c : Clause) → (found_in cut c).holds ≡ (found_in whole c).holds
      unfolding clause way_in answer joined
      clause_holds (asserts t) = refl
      clause_holds (in_place all_of ss) =
          ap (λ (r : Result). r.holds) (answer_upto sub cut (here p ss) joins) ∙ upto_all (here p ss) ∙ sym (ap (λ (r : Result). r.holds) (answer_each sub (here p ss) joins))
      clause_holds (in_place any_of ss) = refl
      clause_holds (in_place one_of ss) = refl
      clause_holds (in_place not_of ss) = refl
      clause_holds (in_place ref ss) = refl
      clause_holds (if_then_else i t e) = refl
      clause_holds (dependent_schemas es) = refl
      clause_holds (contains s least most) = refl
      clause_holds (takes c) = refl

      -- one that holds was not cut
      clause_held : (c : Clause) → (found_in whole c).holds ≡ true → found_in cut c ≡ found_in whole c
      unfolding clause way_in answer joined
      clause_held (asserts t) e = refl
      clause_held (in_place all_of ss) e =
          let h : all (verdicts (map sub (here p ss))) ≡ true = sym (ap (λ (r : Result). r.holds) (answer_each sub (here p ss) joins)) ∙ e in
          answer_upto sub cut (here p ss) joins ∙ ap (λ l. answer sub (joins (map sub l))) (upto_held (here p ss) h) ∙ sym (answer_each sub (here p ss) joins)
      clause_held (in_place any_of ss) e = refl
      clause_held (in_place one_of ss) e = refl
      clause_held (in_place not_of ss) e = refl
      clause_held (in_place ref ss) e = refl
      clause_held (if_then_else i t e) h = refl
      clause_held (dependent_schemas es) e = refl
      clause_held (contains s least most) e = refl
      clause_held (takes c) e = refl

      clause_among : (c : Clause) (q : Pair) → In q (applied_in cut c) → In q (applied_in whole c)
      unfolding clause way_in applied
      clause_among (asserts t) q i = i
      clause_among (in_place all_of ss) q i =
          subst (λ l. In q l) (sym (applied_each sub (here p ss) joins ∙ append-nil (here p ss)))
          (upto_in (here p ss) q (subst (λ l. In q l) (applied_upto sub cut (here p ss) joins ∙ append-nil (up_to sub cut (here p ss))) i))
      clause_among (in_place any_of ss) q i = i
      clause_among (in_place one_of ss) q i = i
      clause_among (in_place not_of ss) q i = i
      clause_among (in_place ref ss) q i = i
      clause_among (if_then_else a b c) q i = i
      clause_among (dependent_schemas es) q i = i
      clause_among (contains s least most) q i = i
      clause_among (takes c) q i = i

    -- ---- the clauses

    still_failed : (w : Way) (before : List Clause) (r : Result) (cs : List Clause) → r.holds ≡ false → (answer sub (clauses D w p before r cs)).holds ≡ false
    unfolding clauses answer stops
    still_failed w before r [] e = e
    still_failed whole before r (c ∷ cs) e = rw answer_then (still_failed whole (before ++ c ∷ []) _ cs (rw e))
    still_failed cut before r (c ∷ cs) e = rw e

    none_after : (before : List Clause) (r : Result) (cs : List Clause) → r.holds ≡ false → applied sub (clauses D cut p before r cs) ≡ []
    unfolding clauses applied stops
    none_after before r [] e = refl
    none_after before r (c ∷ cs) e = rw e

    -- a result that holds stops nothing
    goes_on : (w : Way) (before : List Clause) (r : Result) (c : Clause) (cs : List Clause) → r.holds ≡ true
        → clauses D w p before r (c ∷ cs) ≡ and_then (clause D w p before r.marks c) (λ q. clauses D w p (before ++ c ∷ []) (after r q) cs)
    unfolding clauses stops
    goes_on whole before r c cs h = refl
    goes_on cut before r c cs h = ap (λ (b : Bool). cond (not b) (found r) (and_then (clause D cut p before r.marks c) (λ q. clauses D cut p (before ++ c ∷ []) (after r q) cs))) h

    clauses_same : (before : List Clause) (r : Result) (cs : List Clause) → shut (answer sub (clauses D cut p before r cs)) ≡ shut (answer sub (clauses D whole p before r cs))
    unfolding clauses answer
    clauses_same before r [] = refl
    clauses_same before r (c ∷ cs) = ⊎_elim (going (λ x. clauses_same (before ++ c ∷ []) x cs)) (λ e. shut_failed _ _ (still_failed cut before r (c ∷ cs) e) (still_failed whole before r (c ∷ cs) e)) (decide r.holds)
      where
        next : Way → Result → Result
        next w q = answer sub (clauses D w p (before ++ c ∷ []) (after r q) cs)

        now : Way → Result
        now w = found_in before r.marks w c

        going : ((x : Result) → shut (answer sub (clauses D cut p (before ++ c ∷ []) x cs)) ≡ shut (answer sub (clauses D whole p (before ++ c ∷ []) x cs)))
            → r.holds ≡ true → shut (answer sub (clauses D cut p before r (c ∷ cs))) ≡ shut (answer sub (clauses D whole p before r (c ∷ cs)))
        going rest h =
            ap (λ J. shut (answer sub J)) (goes_on cut before r c cs h) ∙ ap shut (answer_then sub _ _)
            ∙ (⊎_elim
            (λ (e : (now whole).holds ≡ true). ap (λ (q : Result). shut (next cut q)) (clause_held before r.marks c e) ∙ rest (after r (now whole)))
            (λ (e : (now whole).holds ≡ false).
            shut_failed _ _ (still_failed cut (before ++ c ∷ []) (after r (now cut)) cs (both_failed r.holds (clause_holds before r.marks c ∙ e)))
            (still_failed whole (before ++ c ∷ []) (after r (now whole)) cs (both_failed r.holds e)))
            (decide (now whole).holds))
            ∙ sym (ap (λ J. shut (answer sub J)) (goes_on whole before r c cs h) ∙ ap shut (answer_then sub _ _))

    clauses_among : (before : List Clause) (r : Result) (cs : List Clause) (q : Pair)
        → In q (applied sub (clauses D cut p before r cs)) → In q (applied sub (clauses D whole p before r cs))
    unfolding clauses applied
    clauses_among before r [] q i = i
    clauses_among before r (c ∷ cs) q i =
        ⊎_elim (λ h. going (λ x. clauses_among (before ++ c ∷ []) x cs q) h i) (λ e. elim (subst (λ l. In q l) (none_after before r (c ∷ cs) e) i) [ ]) (decide r.holds)
      where
        next : Way → Result → List Pair
        next w x = applied sub (clauses D w p (before ++ c ∷ []) (after r x) cs)

        now : Way → Result
        now w = found_in before r.marks w c

        later : ((x : Result) → In q (applied sub (clauses D cut p (before ++ c ∷ []) x cs)) → In q (applied sub (clauses D whole p (before ++ c ∷ []) x cs)))
            → r.holds ≡ true → In q (next cut (now cut)) → In q (next whole (now whole))
        later rest h i =
            ⊎_elim
            (λ (e : (now whole).holds ≡ true).
            rest (after r (now whole)) (subst (λ (x : Result). In q (next cut x)) (clause_held before r.marks c e) i))
            (λ (e : (now whole).holds ≡ false).
            elim (subst (λ l. In q l) (none_after (before ++ c ∷ []) (after r (now cut)) cs (both_failed r.holds (clause_holds before r.marks c ∙ e))) i) [ ])
            (decide (now whole).holds)

        going : ((x : Result) → In q (applied sub (clauses D cut p (before ++ c ∷ []) x cs)) → In q (applied sub (clauses D whole p (before ++ c ∷ []) x cs)))
            → r.holds ≡ true → In q (applied sub (clauses D cut p before r (c ∷ cs))) → In q (applied sub (clauses D whole p before r (c ∷ cs)))
        going rest h i =
            subst (λ l. In q l) (sym (ap (applied sub) (goes_on whole before r c cs h) ∙ applied_then sub _ _))
            (⊎_elim (λ j. Memᴰ.append_left (next whole (now whole)) (clause_among before r.marks c q j))
            (λ j. Memᴰ.append_right (applied_in before r.marks whole c) (later rest h j))
            (Memᴰ.append_cases (applied_in before r.marks cut c) (subst (λ l. In q l) (ap (applied sub) (goes_on cut before r c cs h) ∙ applied_then sub _ _) i)))

-- ---- a pair

module _ (D : Doc) (R : Ruleset) where
  pub cut_result : (sub : Pair → Result) (w : Way) (p : Pair) → answer sub (judgement D R w p) ≡ answer sub (judgement D R whole p)
  unfolding judgement answer
  cut_result sub whole p = refl
  cut_result sub cut p =
      let last : Result → Judgement = λ r. found (shut r) in
      let cs = R.clauses p.rule in
      answer_then sub (clauses D cut p [] start cs) last ∙ clauses_same sub D p [] start cs ∙ sym (answer_then sub (clauses D whole p [] start cs) last)

  pub cut_among : (w : Way) (p q : Pair) → In q (applies D R w p) → In q (applies D R whole p)
  unfolding applies judgement applied
  cut_among whole p q i = i
  cut_among cut p q i =
      let t = truth D R in
      let cs = R.clauses p.rule in
      let last : Result → Judgement = λ r. found (shut r) in
      let only : (w : Way) → applied t (and_then (clauses D w p [] start cs) last) ≡ applied t (clauses D w p [] start cs) =
      λ w. applied_then t (clauses D w p [] start cs) last ∙ append-nil _ in
      subst (λ l. In q l) (sym (only whole)) (clauses_among t D p [] start cs q (subst (λ l. In q l) (only cut) i))

  pub reached_among : (w : Way) {q p : Pair} → Reached D R w q p → Reached D R whole q p
  reached_among w itself = itself
  reached_among w (further {p = p} {o = o} i r) = further (cut_among w p o i) (reached_among w r)
