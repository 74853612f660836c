-- The plan of a clause is the clause: for a record and rules that fit, and a pair of a row of the record.
--     applied_is      the pairs that the clause applies are those that its steps pick, whole or cut
--     after_miss_lem  from which step it goes on after a failure
--     holds_is        its verdict is what the plan says of what is carried
--     marks_is        its marks, with those before it, are those after the steps
--     go_is           a step that looks at the marks that stand when it is reached sees what it would have seen before the clause
--     later_is        a member that `additionalProperties` has not reached has the marks that it had
--     go_same, clause_same     only the marks of children matter
--     aimed           a step that is applied aims at a pair of lower rank among the n × m, of the row itself or of a child
-- Assumes nothing.
use mathlib.Core.Bool.{Bool, true, false, not, ◌&&◌, ◌||◌, cond}
use mathlib.Core.List.{List, [], ◌∷◌, map, append-nil, Memᴰ as In}
use mathlib.Core.Path.{◌≡◌, refl, sym, ap, ◌∙◌, subst}
use Prim.Native.Nat.{ℕ, zero, suc, ◌+◌, ◌-◌, ◌≤◌, ◌<◌}
use native.Mathlib.Omega.{arith}
use lib.Dec.{eqb, ltb}
use lib.ListN.{length, get_or}
use Rattle.sheet.specs.Doc.{Doc, first_child, Child}
use Rattle.rulesheet.specs.Ruleset.{Mode, all_of, any_of, one_of, not_of, ref, Reach, properties, additional_properties, prefix_items, items}
use Rattle.rulesheet.specs.Ruleset.{unevaluated_properties, unevaluated_items, Clause, asserts, in_place, if_then_else, dependent_schemas, contains, takes, Ruleset}
use Rattle.meaning.specs.Lists.{all, count, range, keep}
use Rattle.meaning.specs.Rules.{Pair, Marks, nothing, ◌∪◌, these, unions, Result, verdicts, holding, found, answer, applied, Way, whole, cut, each, way_in}
use Rattle.meaning.specs.Rules.{one?, none?, joined, to, here, under, called, has_member, elements_of, taken, depended, contained, clause}
use Rattle.meaning.specs.Fit.{Fit, Inside, rank}
use Rattle.meaning.proofs.Lists.{in_every}
use Rattle.meaning.proofs.Judgements.{up_to, answer_upto, applied_upto, answer_each, applied_each}
use Rattle.meaning.proofs.Steps.{taken_steps, clause_steps, falls, stays_inside}
use Rattle.plan.specs.Folds.{picked, tally_by, hits_by, marks_by}
use Rattle.plan.specs.Plan.{member_count, element_count, no_member, finished_by, counts_hits, branches, moved, branch_goes, branch_of, way_of, stops_by, after_miss, own, child_row, child_named, ends_by, finish_of, steps_in, aim_in, go_in, steps_of, aim_of, go_of}
use Rattle.plan.proofs.Folds.{picked_same, run_picked, count_hits, all_hits, unions_marks, these_marks, held_marks, marks_later, holding_picked, some_picked, tally_told, tally_misses, tally_hits, any_count, not_some}
use Rattle.plan.proofs.Ending.{none_carried, ends_joined}
use Rattle.plan.proofs.Cuts.{asks_on, missed, goes_on, upto_picked}
use Rattle.plan.proofs.Children.{picked_in, members_are, elements_are, member_in, element_in, child_apart, child_by, goes_in, taken_picked}
use Rattle.plan.proofs.Branching.{if_picked, if_ends, if_marks}
use Rattle.plan.proofs.Picks.{any_lowest}

-- a pair that p may apply: one of the n × m, of lower rank, of the row itself or of a child
pub record Aimed (D : Doc) (R : Ruleset) (n m : ℕ) (p q : Pair) : Type 0 where
  pub inside : Inside n m q
  pub lower : rank D R q < rank D R p
  pub child : (q.row ≡ p.row → ⊥) → Child D p.row q.row

module _ (D : Doc) (R : Ruleset) (n m : ℕ) (fit : Fit D R n m) (p : Pair) (row_in : p.row < n) where
  module _ (before : List Clause) (κ : Marks) where
    -- the schemas on the row itself, whole or cut
    abbrev placed : List ℕ → ℕ → Pair
    placed ss i = to p p.row (get_or ss i 0)

    here_picked : (sub : Pair → Result) (v : Way) (ss : List ℕ) → up_to sub v (here p ss) ≡ picked (goes_on sub v (placed ss)) (placed ss) (length ss)
    unfolding here
    here_picked sub v ss = upto_picked sub v (λ s. to p p.row s) ss 0

    abbrev aims : Clause → ℕ → Pair
    aims c = aim_of D p before c

    abbrev many : Clause → ℕ
    many c = steps_of D p before c

    -- whether step i goes at what is carried, which has not stopped the clause; what is carried; and whether it goes
    abbrev asks : Way → Clause → ℕ → ℕ → Bool
    asks w c i t = not (stops_by (way_of w c) t) && go_of D p before c i (κ (aims c i).row) t

    abbrev carried : (Pair → Result) → Way → Clause → ℕ → ℕ
    carried sub w c n = tally_by sub (asks w c) (aims c) (moved (counts_hits c) (branches c)) n

    abbrev goes : (Pair → Result) → Way → Clause → ℕ → Bool
    goes sub w c i = asks w c i (carried sub w c i)

    -- ---- 36: the condition, and the branch that it chooses

    module _ (sub : Pair → Result) (i t e : ℕ) where
      branch_is : (h : Bool) → to p p.row (cond h t e) ≡ aims (if_then_else i t e) (cond h 1 2)
      unfolding aim_of branch_of
      branch_is true = refl
      branch_is false = refl

      if_row : (x : ℕ) → (aims (if_then_else i t e) x).row ≡ p.row
      unfolding aim_of to
      if_row x = refl

      -- whether the condition holds
      abbrev condition : Bool
      condition = (sub (aims (if_then_else i t e) 0)).holds

    -- ---- 37: a name is a member's if some child has it

    has_named : (name : List ℕ) → has_member D p.row name ≡ ltb (child_named D p name) (member_count (own D p))
    unfolding has_member child_named
    has_named name = rw (members_are D R n m fit p row_in) (any_lowest (called D name) (first_child (own D p)) (member_count (own D p)))

    depended_picked : (es : List (List ℕ × ℕ)) → depended D p es
        ≡ picked (λ i. ltb (child_named D p (get_or es i no_member).0) (member_count (own D p))) (λ i. to p p.row (get_or es i no_member).1) (length es)
    unfolding depended
    depended_picked es =
        some_picked (λ (e : List ℕ × ℕ). to p p.row e.1) (λ (e : List ℕ × ℕ). has_member D p.row e.0) es no_member
        ∙ picked_same _ _ _ _ (length es) (λ i h. has_named (get_or es i no_member).0) (λ i h. refl)

    -- ---- 45: every element

    elements_picked : (s : ℕ) → under p s (elements_of D p.row) ≡ picked (λ i. true) (λ i. to p (child_row D p i) s) (element_count (own D p))
    unfolding under
    elements_picked s = rw (elements_are D R n m fit p row_in) (run_picked (λ k. to p k s) (element_count (own D p)) (first_child (own D p)))

    pub applied_is : (sub : Pair → Result) (w : Way) (c : Clause) → applied sub (clause D w p before κ c) ≡ picked (goes sub w c) (aims c) (many c)
    unfolding clause applied steps_of aim_of go_of picked branch_of way_of stops_by counts_hits branches
    applied_is sub w (asserts t) = refl
    applied_is sub w (in_place mode ss) = applied_upto sub (way_in w mode) (here p ss) _ ∙ append-nil (up_to sub (way_in w mode) (here p ss)) ∙ here_picked sub (way_in w mode) ss
    applied_is sub w (if_then_else i t e) =
        ap (λ (q : Pair). to p p.row i ∷ q ∷ []) (branch_is sub i t e (condition sub i t e)) ∙ sym (if_picked sub (aims (if_then_else i t e)))
    applied_is sub w (dependent_schemas es) = applied_each sub (depended D p es) _ ∙ append-nil (depended D p es) ∙ depended_picked es
    applied_is sub w (contains s least most) =
        applied_each sub (under p s (elements_of D p.row)) _ ∙ append-nil (under p s (elements_of D p.row)) ∙ elements_picked s
    applied_is sub w (takes c) = applied_each sub (taken D p before κ c) _ ∙ append-nil (taken D p before κ c) ∙ taken_picked D R n m fit p row_in before κ c

    either_way : (b : Bool) (x : ℕ) → cond b x x ≡ x
    either_way true x = refl
    either_way false x = refl

    -- to which step a failure leads
    pub after_miss_lem : (w : Way) (c : Clause) (i tally : ℕ) → cond (stops_by w tally) (after_miss c i) (i + 1) ≡ cond (stops_by (way_of w c) tally) (many c) (i + 1)
    unfolding way_of way_in stops_by after_miss steps_of
    after_miss_lem w (asserts t) i tally = either_way (stops_by w tally) (i + 1)
    after_miss_lem whole (in_place mode ss) i tally = refl
    after_miss_lem cut (in_place all_of ss) i tally = refl
    after_miss_lem cut (in_place any_of ss) i tally = either_way (not (eqb tally 0)) (i + 1)
    after_miss_lem cut (in_place one_of ss) i tally = either_way (not (eqb tally 0)) (i + 1)
    after_miss_lem cut (in_place not_of ss) i tally = either_way (not (eqb tally 0)) (i + 1)
    after_miss_lem cut (in_place ref ss) i tally = either_way (not (eqb tally 0)) (i + 1)
    after_miss_lem w (if_then_else a b c) i tally = either_way (stops_by w tally) (i + 1)
    after_miss_lem w (dependent_schemas es) i tally = either_way (stops_by w tally) (i + 1)
    after_miss_lem w (contains s least most) i tally = either_way (stops_by w tally) (i + 1)
    after_miss_lem w (takes c) i tally = either_way (stops_by w tally) (i + 1)

    -- ---- the verdict

    joined_hits : (sub : Pair → Result) (mode : Mode) (aim : ℕ → Pair) (k : ℕ)
        → joined mode (verdicts (map sub (picked (λ i. true) aim k))) ≡ finished_by mode (hits_by sub (λ i. true) aim k) k
    unfolding joined finished_by one? none?
    joined_hits sub all_of aim k = all_hits sub aim (λ i. true) k
    joined_hits sub any_of aim k = any_count _ ∙ ap (ltb 0) (count_hits sub aim k)
    joined_hits sub one_of aim k = ap (λ x. eqb x 1) (count_hits sub aim k)
    joined_hits sub not_of aim k = ap not (any_count _ ∙ ap (ltb 0) (count_hits sub aim k)) ∙ not_some (hits_by sub (λ i. true) aim k)
    joined_hits sub ref aim k = all_hits sub aim (λ i. true) k

    -- by the steps that fail
    all_carried : (sub : Pair → Result) (go : ℕ → Bool) (aim : ℕ → Pair) (k : ℕ)
        → all (verdicts (map sub (picked go aim k))) ≡ eqb (tally_by sub (λ i t. go i) aim (moved false false) k) 0
    all_carried sub go aim k =
        all_hits sub aim go k ∙ none_carried (hits_by sub go aim k) (tally_by sub (λ i t. go i) aim (moved false false) k) k (tally_misses sub aim go k)

    joined_carried : (sub : Pair → Result) (mode : Mode) (ss : List ℕ)
        → joined mode (verdicts (map sub (picked (λ i. true) (placed ss) (length ss)))) ≡ ends_by D p (in_place mode ss) (tally_by sub (λ i t. true) (placed ss) (moved false false) (length ss))
    joined_carried sub mode ss = joined_hits sub mode (placed ss) (length ss) ∙ ends_joined D p mode ss _ _ (tally_misses sub (placed ss) (λ i. true) (length ss))

    cut_carried : (sub : Pair → Result) (ss : List ℕ) → joined all_of (verdicts (map sub (picked (goes_on sub cut (placed ss)) (placed ss) (length ss)))) ≡ ends_by D p (in_place all_of ss) (missed sub cut (placed ss) (length ss))
    unfolding joined ends_by
    cut_carried sub ss =
        all_carried sub (goes_on sub cut (placed ss)) (placed ss) (length ss)
        ∙ sym (ap (λ (t : ℕ). eqb t 0) (tally_told sub (placed ss) (asks_on sub cut) (moved false false) (length ss)))

    -- of schemas on the row itself, whole or cut
    placed_ends : (sub : Pair → Result) (w : Way) (mode : Mode) (ss : List ℕ)
        → joined mode (verdicts (map sub (picked (goes_on sub (way_in w mode) (placed ss)) (placed ss) (length ss)))) ≡ ends_by D p (in_place mode ss) (missed sub (way_in w mode) (placed ss) (length ss))
    unfolding way_in stops_by
    placed_ends sub whole mode ss = joined_carried sub mode ss
    placed_ends sub cut all_of ss = cut_carried sub ss
    placed_ends sub cut any_of ss = joined_carried sub any_of ss
    placed_ends sub cut one_of ss = joined_carried sub one_of ss
    placed_ends sub cut not_of ss = joined_carried sub not_of ss
    placed_ends sub cut ref ss = joined_carried sub ref ss

    pub holds_is : (sub : Pair → Result) (w : Way) (c : Clause) → (answer sub (clause D w p before κ c)).holds ≡ finish_of D p c (carried sub w c (many c))
    unfolding clause answer steps_of aim_of go_of finish_of ends_by counts_hits branches branch_of way_of stops_by
    holds_is sub w (asserts t) = refl
    holds_is sub w (in_place mode ss) =
        ap (λ r. r.holds) (answer_upto sub (way_in w mode) (here p ss) _)
        ∙ ap (λ l. joined mode (verdicts (map sub l))) (here_picked sub (way_in w mode) ss)
        ∙ placed_ends sub w mode ss
    holds_is sub w (if_then_else i t e) = ap (λ (q : Pair). (sub q).holds) (branch_is sub i t e (condition sub i t e)) ∙ sym (if_ends sub (aims (if_then_else i t e)))
    holds_is sub w (dependent_schemas es) =
        ap (λ r. r.holds) (answer_each sub (depended D p es) _)
        ∙ ap (λ l. all (verdicts (map sub l))) (depended_picked es)
        ∙ all_carried sub _ (λ i. to p p.row (get_or es i no_member).1) (length es)
    holds_is sub w (contains s least most) =
        ap (λ r. r.holds) (answer_each sub (under p s (elements_of D p.row)) _)
        ∙ ap (λ l. contained D p.row least most (count (verdicts (map sub l)))) (elements_picked s)
        ∙ ap (contained D p.row least most) (count_hits sub (λ i. to p (child_row D p i) s) (element_count (own D p)) ∙ sym (tally_hits sub (λ i. to p (child_row D p i) s) (element_count (own D p))))
    holds_is sub w (takes c) =
        ap (λ r. r.holds) (answer_each sub (taken D p before κ c) _)
        ∙ ap (λ l. all (verdicts (map sub l))) (taken_picked D R n m fit p row_in before κ c)
        ∙ all_carried sub (goes_in D R n m fit p row_in before κ c) (aim_in D p before c) (steps_in D p before c)

    -- ---- the marks

    taken_apart : (c : Reach) (i : ℕ) → i < steps_in D p before c → goes_in D R n m fit p row_in before κ c i ≡ true → (aim_in D p before c i).row ≡ p.row → ⊥
    taken_apart c i h g e =
        let q = in_every (taken_steps D p before κ c) (subst (λ l. In (aim_in D p before c i) l) (sym (taken_picked D R n m fit p row_in before κ c)) (picked_in (goes_in D R n m fit p row_in before κ c) (aim_in D p before c) (steps_in D p before c) i h g)) in
        child_apart D R n m fit p row_in (aim_in D p before c i).row q.child e

    or_no : (b : Bool) → (b || false) ≡ b
    or_no true = refl
    or_no false = refl

    here_row : (s : ℕ) → (to p p.row s).row ≡ p.row
    unfolding to
    here_row s = refl

    -- the clause keeps the marks of what it applies, or those of what holds
    abbrev keeps : Clause → Bool
    keeps c = not (counts_hits c)

    element_apart : (s i : ℕ) → i < element_count (own D p) → (to p (child_row D p i) s).row ≡ p.row → ⊥
    unfolding to
    element_apart s i h = child_apart D R n m fit p row_in (child_row D p i) (element_in D R n m fit p row_in (own D p) refl i h)

    pub marks_is : (sub : Pair → Result) (w : Way) (c : Clause) (k : ℕ) → (κ k || (answer sub (clause D w p before κ c)).marks k) ≡ marks_by sub p (keeps c) (goes sub w c) (aims c) κ (many c) k
    unfolding clause answer steps_of aim_of go_of nothing marks_by counts_hits branches branch_goes branch_of ◌∪◌ way_of stops_by
    marks_is sub w (asserts t) k = or_no (κ k)
    marks_is sub w (in_place mode ss) k =
        ap (λ r. κ k || r.marks k) (answer_upto sub (way_in w mode) (here p ss) _)
        ∙ ap (λ l. κ k || unions (map sub l) k) (here_picked sub (way_in w mode) ss)
        ∙ unions_marks sub (placed ss) p _ κ k (length ss) (λ i h. here_row (get_or ss i 0))
    marks_is sub w (if_then_else i t e) k =
        ap (λ (q : Pair). κ k || ((sub (to p p.row i)).marks k || (sub q).marks k)) (branch_is sub i t e (condition sub i t e))
        ∙ if_marks sub (aims (if_then_else i t e)) p κ k (if_row sub i t e)
    marks_is sub w (dependent_schemas es) k =
        ap (λ r. κ k || r.marks k) (answer_each sub (depended D p es) _)
        ∙ ap (λ l. κ k || unions (map sub l) k) (depended_picked es)
        ∙ unions_marks sub (λ i. to p p.row (get_or es i no_member).1) p _ κ k (length es) (λ i h. here_row (get_or es i no_member).1)
    marks_is sub w (contains s least most) k =
        ap (λ r. κ k || r.marks k) (answer_each sub (under p s (elements_of D p.row)) _)
        ∙ ap (λ l. κ k || these (map (λ (q : Pair). q.row) (holding l (map sub l))) k) (elements_picked s)
        ∙ ap (λ l. κ k || these (map (λ (q : Pair). q.row) l) k) (holding_picked sub (λ i. to p (child_row D p i) s) (element_count (own D p)))
        ∙ these_marks sub (λ i. to p (child_row D p i) s) p _ κ k (element_count (own D p)) (λ i h g. element_apart s i h)
        ∙ held_marks sub (λ i. to p (child_row D p i) s) p κ k (element_count (own D p))
    marks_is sub w (takes c) k =
        ap (λ r. κ k || r.marks k) (answer_each sub (taken D p before κ c) _)
        ∙ ap (λ l. κ k || these (map (λ (q : Pair). q.row) l) k) (taken_picked D R n m fit p row_in before κ c)
        ∙ these_marks sub (aim_in D p before c) p (goes_in D R n m fit p row_in before κ c) κ k (steps_in D p before c) (taken_apart c)

    -- ---- the marks that stand when a step is reached

    pub go_is : (sub : Pair → Result) (c : Clause) (go : ℕ → Bool) (i t : ℕ) → i < many c
        → go_of D p before c i (marks_by sub p (keeps c) go (aims c) κ i (aims c i).row) t ≡ go_of D p before c i (κ (aims c i).row) t
    unfolding steps_of aim_of go_of steps_in aim_in go_in to
    go_is sub (asserts z) go i t h = refl
    go_is sub (in_place mode ss) go i t h = refl
    go_is sub (if_then_else a b c) go i t h = refl
    go_is sub (dependent_schemas es) go i t h = refl
    go_is sub (contains s least most) go i t h = refl
    go_is sub (takes (properties es)) go i t h = refl
    go_is sub (takes (additional_properties s)) go i t h = refl
    go_is sub (takes (prefix_items ss)) go i t h = refl
    go_is sub (takes (items s)) go i t h = refl
    go_is sub (takes (unevaluated_properties s)) go i t h =
        ap not (marks_later sub (λ x. to p (child_row D p x) s) p _ _ κ (child_row D p i) i
        (λ x g. (child_apart D R n m fit p row_in (child_row D p x) (member_in D R n m fit p row_in (own D p) refl x (omega arith)), λ e. omega arith)))
    go_is sub (takes (unevaluated_items s)) go i t h =
        ap not (marks_later sub (λ x. to p (child_row D p x) s) p _ _ κ (child_row D p i) i
        (λ x g. (child_apart D R n m fit p row_in (child_row D p x) (element_in D R n m fit p row_in (own D p) refl x (omega arith)), λ e. omega arith)))

    -- a member that `additionalProperties` has not reached has the marks that it had
    pub later_is : (sub : Pair → Result) (c : Clause) (s : ℕ) → c ≡ takes (additional_properties s) → (go : ℕ → Bool) (x k : ℕ) → x ≤ k → k < member_count (own D p)
        → marks_by sub p (keeps c) go (aims c) κ x (child_row D p k) ≡ κ (child_row D p k)
    unfolding aim_of aim_in to
    later_is sub c s e go x k a b =
        rw e
        (marks_later sub (λ y. to p (child_row D p y) s) p _ _ κ (child_row D p k) x
        (λ y g. (child_apart D R n m fit p row_in (child_row D p y) (member_in D R n m fit p row_in (own D p) refl y (omega arith)), λ z. omega arith)))

    -- a step looks at marks only where it aims at a child
    pub go_same : (c : Clause) (i : ℕ) (x y : Bool) (t : ℕ) → i < many c → (Child D p.row (aims c i).row → x ≡ y) → go_of D p before c i x t ≡ go_of D p before c i y t
    unfolding steps_of aim_of go_of steps_in aim_in go_in to
    go_same (asserts z) i x y t h f = refl
    go_same (in_place mode ss) i x y t h f = refl
    go_same (if_then_else a b c) i x y t h f = refl
    go_same (dependent_schemas es) i x y t h f = refl
    go_same (contains s least most) i x y t h f = refl
    go_same (takes (properties es)) i x y t h f = refl
    go_same (takes (additional_properties s)) i x y t h f = refl
    go_same (takes (prefix_items ss)) i x y t h f = refl
    go_same (takes (items s)) i x y t h f = refl
    go_same (takes (unevaluated_properties s)) i x y t h f = ap not (f (member_in D R n m fit p row_in (own D p) refl i h))
    go_same (takes (unevaluated_items s)) i x y t h f = ap not (f (element_in D R n m fit p row_in (own D p) refl i h))

    -- ---- where a step leads

    pub aimed : (sub : Pair → Result) (w : Way) (rule_in : p.rule < m) (c : Clause) (i : ℕ) → In c (R.clauses p.rule) → i < many c → goes sub w c i ≡ true → Aimed D R n m p (aims c i)
    aimed sub w rule_in c i has h g =
        let step = in_every (clause_steps D R sub w p before κ c has) (subst (λ l. In (aims c i) l) (sym (applied_is sub w c)) (picked_in (goes sub w c) (aims c) (many c) i h g)) in
        record {
          inside = stays_inside D R n m fit p (aims c i) (record { row_in = row_in; rule_in = rule_in }) step;
          lower = falls D R n m fit p (aims c i) step;
          child = child_by D R n m fit p row_in (aims c i) step;
        }

  -- ---- the marks that a clause goes by are those of the children

  kept_same : (g h : ℕ → Bool) (k x : ℕ) → ((i : ℕ) → i < k → g (x + i) ≡ h (x + i)) → keep g (range x k) ≡ keep h (range x k)
  unfolding keep range
  kept_same g h zero x f = refl
  kept_same g h (suc k) x f =
      let z : x + 0 ≡ x = omega arith in
      rw (rw z at (f 0 (omega arith)), kept_same g h k (suc x) (λ i l. let e : x + suc i ≡ suc x + i = omega arith in rw e at (f (suc i) (omega arith))))

  pub clause_same : (w : Way) (before : List Clause) (κ μ : Marks) (c : Clause) → ((k : ℕ) → Child D p.row k → κ k ≡ μ k) → clause D w p before κ c ≡ clause D w p before μ c
  unfolding clause taken
  clause_same w before κ μ (asserts t) f = refl
  clause_same w before κ μ (in_place mode ss) f = refl
  clause_same w before κ μ (if_then_else a b c) f = refl
  clause_same w before κ μ (dependent_schemas es) f = refl
  clause_same w before κ μ (contains s least most) f = refl
  clause_same w before κ μ (takes (properties es)) f = refl
  clause_same w before κ μ (takes (additional_properties s)) f = refl
  clause_same w before κ μ (takes (prefix_items ss)) f = refl
  clause_same w before κ μ (takes (items s)) f = refl
  clause_same w before κ μ (takes (unevaluated_properties s)) f =
      ap (λ (ks : List ℕ). each whole (under p s ks) (λ rs. found (record { holds = all (verdicts rs); marks = these (map (λ (q : Pair). q.row) (under p s ks)) })))
      (rw (members_are D R n m fit p row_in) (kept_same (λ k. not (κ k)) (λ k. not (μ k)) (member_count (own D p)) (first_child (own D p)) (λ i h. ap not (f (child_row D p i) (member_in D R n m fit p row_in (own D p) refl i h)))))
  clause_same w before κ μ (takes (unevaluated_items s)) f =
      ap (λ (ks : List ℕ). each whole (under p s ks) (λ rs. found (record { holds = all (verdicts rs); marks = these (map (λ (q : Pair). q.row) (under p s ks)) })))
      (rw (elements_are D R n m fit p row_in) (kept_same (λ k. not (κ k)) (λ k. not (μ k)) (element_count (own D p)) (first_child (own D p)) (λ i h. ap not (f (child_row D p i) (element_in D R n m fit p row_in (own D p) refl i h)))))
