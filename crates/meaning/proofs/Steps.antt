-- Which pairs a pair can apply: a schema that one of its clauses names, on the row itself if the clause is unguarded, or else on a child of the row.
--     Step              such a pair
--     taken_steps       what a clause takes: children, with the schemas that it names
--     steps             every pair that is applied is a step, whatever is known of the pairs applied before it
--     falls             the rank falls along a step
--     stays_inside      a step from one of the n × m pairs leads to one of them
--     deep              every rank is below `depth`
-- Assumes nothing.
use mathlib.Core.Bool.{Bool, true, false, cond}
use mathlib.Core.List.Memᴰ
use mathlib.Core.List.Memᴰ.{head as at_head}
use mathlib.Core.List.Memᴰ.{tail as in_Tail}
use mathlib.Core.List.{List, [], ◌∷◌, ◌++◌, map, Memᴰ as In}
use mathlib.Core.Logic.{⊎_elim}
use mathlib.Core.Path.{◌≡◌, refl, sym, ap, ◌∙◌}
use Prim.Native.Nat.{ℕ, zero, suc, ◌+◌, ◌*◌, ◌-◌, ◌≤◌, ◌<◌}
use native.Mathlib.Omega.{arith}
use lib.ListN.{length, drop}
use Rattle.laws.proofs.Tests.{le_or_lt}
use Rattle.sheet.proofs.Levels.{level_next}
use Rattle.sheet.specs.Doc.{Value, null, bool, number, string, array, object, Doc, first_child, child_count, Child, level}
use Rattle.sheet.specs.Faults.{level_refused}
use Rattle.rulesheet.specs.Ruleset.{Clause, asserts, in_place, if_then_else, dependent_schemas, contains, takes, Reach, properties, additional_properties, prefix_items, items}
use Rattle.rulesheet.specs.Ruleset.{unevaluated_properties, unevaluated_items, Ruleset, unguarded, guarded, named, next, steps as reaches}
use Rattle.rulesheet.proofs.Naming.{steps_named}
use Rattle.unguarded.specs.Graph.{chain_steps, longest}
use Rattle.meaning.specs.Lists.{range, concat_map}
use Rattle.meaning.specs.Tests.{elements?, members?, rows}
use Rattle.meaning.specs.Rules.{Pair, Marks, nothing, Result, found, applied, Way, whole, stops, each, way_in, to, here, under, across, members_of, elements_of, prefix_of, has_member, taken, depended, clause, clauses, depth, judgement}
use Rattle.meaning.specs.Fit.{Fit, Inside, levels_left, rank}
use Rattle.meaning.proofs.Lists.{Every, every_nil, every_cons, every_map, every_in, every_append, every_image, every_keep, every_drop, every_concat, by_test}
use Rattle.meaning.proofs.Judgements.{applied_then}

-- ---- the children of a row

abbrev Between : ℕ → ℕ → ℕ → Type 0
Between a k i = (a ≤ i) × (i < a + k)

range_between : (a k : ℕ) → Every (Between a k) (range a k)
unfolding range
range_between a zero = every_nil
range_between a (suc k) =
    every_cons {x = a} (omega arith, omega arith) (every_map (λ i (h : Between (suc a) k i). (omega (arith, h.0), omega (arith, h.1))) (range_between (suc a) k))

members_between : (v : Value) → Every (Between (first_child v) (child_count v)) (rows (members? v))
unfolding rows members?
members_between null = every_nil
members_between (bool b) = every_nil
members_between (number z) = every_nil
members_between (string bytes) = every_nil
members_between (array first k) = every_nil
members_between (object first k) = range_between first k

elements_between : (v : Value) → Every (Between (first_child v) (child_count v)) (rows (elements? v))
unfolding rows elements?
elements_between null = every_nil
elements_between (bool b) = every_nil
elements_between (number z) = every_nil
elements_between (string bytes) = every_nil
elements_between (array first k) = range_between first k
elements_between (object first k) = every_nil

module _ (D : Doc) where
  pub members_children : (j : ℕ) → Every (Child D j) (members_of D j)
  unfolding members_of
  members_children j = every_map (λ k h. record { after = h.0; within = h.1 }) (members_between (D.value j))

  pub elements_children : (j : ℕ) → Every (Child D j) (elements_of D j)
  unfolding elements_of
  elements_children j = every_map (λ k h. record { after = h.0; within = h.1 }) (elements_between (D.value j))

  -- ---- what a clause takes

  -- a child of p's row, with one of the schemas
  pub record Taken (p : Pair) (ss : List ℕ) (q : Pair) : Type 0 where
    pub child : Child D p.row q.row
    pub schema : In q.rule ss

  under_taken : (p : Pair) (s : ℕ) (ss : List ℕ) {ks : List ℕ} → In s ss → Every (Child D p.row) ks → Every (Taken p ss) (under p s ks)
  unfolding under to
  under_taken p s ss i h = every_image (λ k. to p k s) (λ k c. record { child = c; schema = i }) h

  across_taken : (p : Pair) {ks : List ℕ} (ss : List ℕ) → Every (Child D p.row) ks → Every (Taken p ss) (across p ks ss)
  unfolding across to
  across_taken p ss every_nil = every_nil
  across_taken p [] (every_cons h hs) = every_nil
  across_taken p (s ∷ ss) (every_cons h hs) =
      every_cons (record { child = h; schema = at_head refl })
      (every_map (λ q (t : Taken p ss q). record { child = t.child; schema = in_Tail t.schema }) (across_taken p ss hs))

  pub taken_steps : (p : Pair) (before : List Clause) (κ : Marks) (c : Reach) → Every (Taken p (guarded c)) (taken D p before κ c)
  unfolding taken
  taken_steps p before κ (properties es) =
      every_concat (Taken p (map (λ (e : List ℕ × ℕ). e.1) es)) _ es
      (λ e i. under_taken p e.1 (map (λ (x : List ℕ × ℕ). x.1) es) (Memᴰ.map (λ (x : List ℕ × ℕ). x.1) i) (every_keep _ (members_children p.row)))
  taken_steps p before κ (additional_properties s) = under_taken p s (s ∷ []) (at_head refl) (every_keep _ (members_children p.row))
  taken_steps p before κ (prefix_items ss) = across_taken p ss (elements_children p.row)
  taken_steps p before κ (items s) = under_taken p s (s ∷ []) (at_head refl) (every_drop (length (concat_map prefix_of before)) (elements_children p.row))
  taken_steps p before κ (unevaluated_properties s) = under_taken p s (s ∷ []) (at_head refl) (every_keep _ (members_children p.row))
  taken_steps p before κ (unevaluated_items s) = under_taken p s (s ∷ []) (at_head refl) (every_keep _ (elements_children p.row))

  -- the elements, with one schema
  pub elements_taken : (p : Pair) (s : ℕ) → Every (Taken p (s ∷ [])) (under p s (elements_of D p.row))
  elements_taken p s = under_taken p s (s ∷ []) (at_head refl) (elements_children p.row)

  -- the row itself, with a schema that a name goes with
  abbrev pub Here : Pair → List (List ℕ × ℕ) → Pair → Type 0
  Here p es q = (q.row ≡ p.row) × In q.rule (map (λ (x : List ℕ × ℕ). x.1) es)

  pub depended_here : (p : Pair) (es : List (List ℕ × ℕ)) → Every (Here p es) (depended D p es)
  unfolding depended to
  depended_here p es =
      every_concat (Here p es) _ es (λ e i. maybe (to p p.row e.1) (has_member D p.row e.0) (refl, Memᴰ.map (λ (x : List ℕ × ℕ). x.1) i))
    where
      maybe : (q : Pair) (b : Bool) → Here p es q → Every (Here p es) (cond b (q ∷ []) [])
      maybe q true h = every_cons h every_nil
      maybe q false h = every_nil

module _ (D : Doc) (R : Ruleset) where
  pub data Step (p q : Pair) : Type 0 where
    stays : (c : Clause) → In c (R.clauses p.rule) → In q.rule (unguarded c) → q.row ≡ p.row → Step p q
    descends : (c : Clause) → In c (R.clauses p.rule) → In q.rule (named c) → Child D p.row q.row → Step p q

  module _ (sub : Pair → Result) (w : Way) (p : Pair) where
    -- whether whole or cut, only these are applied
    each_steps : (w : Way) {ps : List Pair} (g : List Result → Result) → Every (Step p) ps → Every (Step p) (applied sub (each w ps (λ rs. found (g rs))))
    unfolding applied each
    each_steps w g every_nil = every_nil
    each_steps w g (every_cons {x = q} h hs) =
        every_cons h (by_test (λ J. Every (Step p) (applied sub J)) (stops w (sub q)) _ _ (λ e. every_nil) (λ e. each_steps w (λ rs. g (sub q ∷ rs)) hs))

    here_steps : (c : Clause) (ss : List ℕ) → In c (R.clauses p.rule) → ((s : ℕ) → In s ss → In s (unguarded c)) → Every (Step p) (here p ss)
    unfolding here to
    here_steps c ss i h = every_image (λ s. to p p.row s) (λ s (j : In s (unguarded c)). stays c i j refl) (every_in _ ss h)

    pub clause_steps : (before : List Clause) (κ : Marks) (c : Clause) → In c (R.clauses p.rule) → Every (Step p) (applied sub (clause D w p before κ c))
    unfolding clause applied to
    clause_steps before κ (asserts t) i = every_nil
    clause_steps before κ (in_place m ss) i = each_steps (way_in w m) _ (here_steps (in_place m ss) ss i (λ s j. j))
    clause_steps before κ (if_then_else a b c) i =
        every_cons (stays (if_then_else a b c) i (at_head refl) refl) (every_cons (stays (if_then_else a b c) i (branch (sub (to p p.row a)).holds) refl) every_nil)
      where
        branch : (z : Bool) → In (cond z b c) (a ∷ b ∷ c ∷ [])
        branch true = in_Tail (at_head refl)
        branch false = in_Tail (in_Tail (at_head refl))
    clause_steps before κ (dependent_schemas es) i =
        each_steps whole _ (every_map (λ q (h : Here D p es q). stays (dependent_schemas es) i h.1 h.0) (depended_here D p es))
    clause_steps before κ (contains s least most) i =
        each_steps whole _
        (every_map (λ q (t : Taken D p (s ∷ []) q). descends (contains s least most) i t.schema t.child) (elements_taken D p s))
    clause_steps before κ (takes c) i =
        each_steps whole _ (every_map (λ q (t : Taken D p (guarded c) q). descends (takes c) i t.schema t.child) (taken_steps D p before κ c))

    clauses_steps : (before : List Clause) (r : Result) (cs : List Clause) → ((c : Clause) → In c cs → In c (R.clauses p.rule))
        → Every (Step p) (applied sub (clauses D w p before r cs))
    unfolding clauses applied
    clauses_steps before r [] all = every_nil
    clauses_steps before r (c ∷ cs) all =
        by_test (λ J. Every (Step p) (applied sub J)) (stops w r) _ _ (λ e. every_nil)
        (λ e.
        rw applied_then
        (every_append (clause_steps before r.marks c (all c (at_head refl))) (clauses_steps (before ++ c ∷ []) _ cs (λ d i. all d (in_Tail i)))))

    pub steps : Every (Step p) (applied sub (judgement D R w p))
    unfolding judgement applied
    steps = rw applied_then (every_append (clauses_steps [] _ (R.clauses p.rule) (λ c i. i)) every_nil)

  -- ---- along a step

  in_steps : {c : Clause} {t : ℕ} {cs : List Clause} → In c cs → In t (unguarded c) → In t (reaches cs)
  unfolding reaches
  in_steps {t = t} (at_head {x = d} {xs = cs} e) i = Memᴰ.append_left (reaches cs) (rw e at i)
  in_steps (in_Tail {x = d} m) i = Memᴰ.append_right (unguarded d) (in_steps m i)

  module _ (n m : ℕ) (fit : Fit D R n m) where
    -- only the rows have children
    inside_row : (j k : ℕ) → Child D j k → j < n
    inside_row j k c =
        ⊎_elim
        (λ (l : n ≤ j). let e = fit.past j l in absurd (nothing (rw e at c.after) (rw e at c.within)))
        (λ (l : j < n). l)
        (le_or_lt n j)
      where
        nothing : 0 ≤ k → k < 0 + 0 → ⊥
        nothing a b = omega arith

    low : (s : ℕ) → longest (next R) chain_steps s < chain_steps
    low s = fit.grounds.low s

    level_falls : (j k : ℕ) → Child D j k → suc (levels_left D k) ≤ levels_left D j
    level_falls j k c =
        let h = inside_row j k c in
        let e = fit.rows.child_level j k h c in
        let g = fit.rows.shallow k (fit.rows.child_inside j k h c) in
        omega arith

    pub falls : (p q : Pair) → Step p q → rank D R q < rank D R p
    unfolding rank
    falls p q (stays c i t e) =
        let l = fit.grounds.falls p.rule q.rule (in_steps i t) in
        rw e (omega arith)
    falls p q (descends c i t k) = omega (arith, level_falls p.row q.row k, low q.rule)

    pub stays_inside : (p q : Pair) → Inside n m p → Step p q → Inside n m q
    stays_inside p q h (stays c i t e) =
        record { row_in = rw e h.row_in; rule_in = fit.inside p.rule c q.rule i (steps_named c q.rule t) }
    stays_inside p q h (descends c i t k) =
        record { row_in = fit.rows.child_inside p.row q.row h.row_in k; rule_in = fit.inside p.rule c q.rule i t }

    pub deep : (p : Pair) → rank D R p < depth
    unfolding rank depth
    deep p = omega (arith, low p.rule, level_next D.owner p.row)
