-- Demand 3, for a record and rules that fit, and what stands in its place of a call that is cut.
--     once      the settling list holds each pair of the root's derivation once and no other, each after those it applies, at most n × m
--     cuts      the pairs settled when cut are those that cut judgements reach, among those of the root\'s derivation
-- Assumes nothing.
use mathlib.Core.List.Memᴰ.{head as at_head}
use mathlib.Core.List.Memᴰ.{tail as in_Tail}
use mathlib.Core.List.{List, [], ◌∷◌, ◌++◌, Memᴰ as In}
use mathlib.Core.List.Memᴰ
use mathlib.Core.List.{append-nil}
use mathlib.Core.Logic.{⊎_elim}
use mathlib.Core.Path.{◌≡◌, refl, sym, subst}
use Prim.Native.Nat.{ℕ}
use Rattle.sheet.specs.Doc.{Doc}
use Rattle.rulesheet.specs.Ruleset.{Clause, Ruleset}
use Rattle.meaning.specs.Rules.{Pair, Marks, Result, to, whole, cut, applies}
use Rattle.meaning.specs.Derivation.{Schema, schema_true, schema_false, Clauses, klist_0, klist_n, Keyword, assertion, placed_in, if_then, if_else, dependent, containing, children, Each, no_more, one_more}
use Rattle.meaning.specs.Derivation.{each_applies, keyword_applies, clauses_applies, schema_applies, each_pairs, keyword_pairs, clauses_pairs, schema_pairs}
use Rattle.meaning.specs.Settling.{root, Reached, itself, further, settled}
use Rattle.meaning.specs.Fit.{Fit}
use Rattle.meaning.specs.Once.{Once, Cut}
use Rattle.meaning.proofs.Cuts.{reached_among}
use Rattle.meaning.proofs.Applying.{applies_derived}
use Rattle.meaning.proofs.Settled.{all_distinct, reached_listed, listed_reached, all_ordered, all_few}

module _ (D : Doc) (R : Ruleset) where
  -- a pair that is applied has a derivation of its own, and all its pairs are among these
  abbrev Above : Pair → List Pair → Type 0
  Above o all = (r : Result) × (d : Schema D R o r) × ((q : Pair) → In q (schema_pairs D R d) → In q all)

  wider : {o : Pair} {some all : List Pair} → ((q : Pair) → In q some → In q all) → Above o some → Above o all
  wider f a = (a.0, a.1, λ q i. f q (a.2 q i))

  each_above : {ps : List Pair} {rs : List Result} (e : Each D R ps rs) (o : Pair) → In o (each_applies D R e) → Above o (each_pairs D R e)
  unfolding each_applies each_pairs
  each_above no_more o i = elim i [ ]
  each_above (one_more {p = p} {r = r} d e) o i =
      ⊎_elim
      (λ (s : o ≡ p). subst (λ x. Above x (schema_pairs D R d ++ each_pairs D R e)) (sym s) (r, d, λ q j. Memᴰ.append_left (each_pairs D R e) j))
      (λ j. wider (λ q k. Memᴰ.append_right (schema_pairs D R d) k) (each_above e o j))
      (Memᴰ.cases_cons i)

  keyword_above : {p : Pair} {cs : List Clause} {μ : Marks} {c : Clause} {r : Result} (k : Keyword D R p cs μ c r) (o : Pair)
      → In o (keyword_applies D R k) → Above o (keyword_pairs D R k)
  unfolding keyword_applies keyword_pairs each_pairs
  keyword_above (assertion a b) o i = elim i [ ]
  keyword_above (placed_in e a b) o i = each_above e o i
  keyword_above (if_then d h d' a b) o i = subst (λ l. Above o (schema_pairs D R d ++ l)) (append-nil _) (each_above (one_more d (one_more d' no_more)) o i)
  keyword_above (if_else d h d' a b) o i = subst (λ l. Above o (schema_pairs D R d ++ l)) (append-nil _) (each_above (one_more d (one_more d' no_more)) o i)
  keyword_above (dependent e a b) o i = each_above e o i
  keyword_above (containing e a b) o i = each_above e o i
  keyword_above (children e a b) o i = each_above e o i

  clauses_above : {p : Pair} {cs : List Clause} {r : Result} (d : Clauses D R p cs r) (o : Pair) → In o (clauses_applies D R d) → Above o (clauses_pairs D R d)
  unfolding clauses_applies clauses_pairs
  clauses_above (klist_0 a b) o i = elim i [ ]
  clauses_above (klist_n d k a b c) o i =
      ⊎_elim (λ j. wider (λ q l. Memᴰ.append_left (keyword_pairs D R k) l) (clauses_above d o j))
      (λ j. wider (λ q l. Memᴰ.append_right (clauses_pairs D R d) l) (keyword_above k o j))
      (Memᴰ.append_cases (clauses_applies D R d) i)

  schema_above : {p : Pair} {r : Result} (d : Schema D R p r) (o : Pair) → In o (schema_applies D R d) → Above o (schema_pairs D R d)
  unfolding schema_applies schema_pairs
  schema_above (schema_true d a b c) o i = wider (λ q j. in_Tail j) (clauses_above d o i)
  schema_above (schema_false d a b c) o i = wider (λ q j. in_Tail j) (clauses_above d o i)

  own_pair : {p : Pair} {r : Result} (d : Schema D R p r) → In p (schema_pairs D R d)
  unfolding schema_pairs
  own_pair (schema_true d a b c) = at_head refl
  own_pair (schema_false d a b c) = at_head refl

  module _ (n m : ℕ) (fit : Fit D R n m) where
    reached_above : {q p : Pair} → Reached D R whole q p → {r : Result} (d : Schema D R p r) → In q (schema_pairs D R d)
    reached_above itself d = own_pair d
    reached_above {q} (further {o = o} i s) d =
        let a = schema_above d o (subst (λ l. In o l) (applies_derived D R n m fit d) i) in
        a.2 q (reached_above s a.1)

    -- one of the pairs reaches q
    abbrev Met : Pair → List Pair → Type 0
    Met q os = (o : Pair) × In o os × Reached D R whole q o

    meets : {q : Pair} {os all : List Pair} → ((o : Pair) → In o os → In o all) → Met q os → Met q all
    meets f a = (a.0, f a.0 a.1, a.2)

    mutual
      unfolding schema_pairs schema_applies clauses_applies keyword_applies each_applies

      schema_met : {p : Pair} {r : Result} (d : Schema D R p r) (q : Pair) → In q (schema_pairs D R d) → Reached D R whole q p
      schema_met {p} (schema_true d a b c) q i =
          ⊎_elim (λ (s : q ≡ p). rw s itself)
          (λ j. let w = clauses_met d q j in further (subst (λ l. In w.0 l) (sym (applies_derived D R n m fit (schema_true d a b c))) w.1) w.2)
          (Memᴰ.cases_cons i)
      schema_met {p} (schema_false d a b c) q i =
          ⊎_elim (λ (s : q ≡ p). rw s itself)
          (λ j. let w = clauses_met d q j in further (subst (λ l. In w.0 l) (sym (applies_derived D R n m fit (schema_false d a b c))) w.1) w.2)
          (Memᴰ.cases_cons i)

      clauses_met : {p : Pair} {cs : List Clause} {r : Result} (d : Clauses D R p cs r) (q : Pair) → In q (clauses_pairs D R d) → Met q (clauses_applies D R d)
      clauses_met (klist_0 a b) q i = elim i [ ]
      clauses_met (klist_n d k a b c) q i =
          ⊎_elim (λ j. meets (λ o l. Memᴰ.append_left (keyword_applies D R k) l) (clauses_met d q j))
          (λ j. meets (λ o l. Memᴰ.append_right (clauses_applies D R d) l) (keyword_met k q j))
          (Memᴰ.append_cases (clauses_pairs D R d) i)

      keyword_met : {p : Pair} {cs : List Clause} {μ : Marks} {c : Clause} {r : Result} (k : Keyword D R p cs μ c r) (q : Pair)
          → In q (keyword_pairs D R k) → Met q (keyword_applies D R k)
      keyword_met (assertion a b) q i = elim i [ ]
      keyword_met (placed_in e a b) q i = each_met e q i
      keyword_met (if_then {p = p} {i = x} {t = y} d h d' a b) q i =
          ⊎_elim (λ j. (to p p.row x, at_head refl, schema_met d q j)) (λ j. (to p p.row y, in_Tail (at_head refl), schema_met d' q j))
          (Memᴰ.append_cases (schema_pairs D R d) i)
      keyword_met (if_else {p = p} {i = x} {e = y} d h d' a b) q i =
          ⊎_elim (λ j. (to p p.row x, at_head refl, schema_met d q j)) (λ j. (to p p.row y, in_Tail (at_head refl), schema_met d' q j))
          (Memᴰ.append_cases (schema_pairs D R d) i)
      keyword_met (dependent e a b) q i = each_met e q i
      keyword_met (containing e a b) q i = each_met e q i
      keyword_met (children e a b) q i = each_met e q i

      each_met : {ps : List Pair} {rs : List Result} (e : Each D R ps rs) (q : Pair) → In q (each_pairs D R e) → Met q (each_applies D R e)
      each_met no_more q i = elim i [ ]
      each_met (one_more {p = p} d e) q i =
          ⊎_elim (λ j. (p, at_head refl, schema_met d q j)) (λ j. meets (λ o l. in_Tail l) (each_met e q j))
          (Memᴰ.append_cases (schema_pairs D R d) i)

    pub once : Once D R n m (settled D R whole)
    once =
        record {
          none_twice = all_distinct D R whole n m fit;
          each_applied = λ r d q i. reached_listed D R whole n m fit (schema_met d q i);
          no_other = λ r d q i. reached_above (listed_reached D R whole n m fit q i) d;
          after_applied = λ before after p q r d e i. all_ordered D R whole n m fit before after p q e (subst (λ l. In q l) (sym (applies_derived D R n m fit d)) i);
          at_most = all_few D R whole n m fit;
        }

    -- the pairs that cut judgements reach
    pub cuts : Cut D R n m (settled D R cut)
    cuts =
        record {
          none_twice = all_distinct D R cut n m fit;
          each_reached = λ q r. reached_listed D R cut n m fit r;
          no_other = λ q i. listed_reached D R cut n m fit q i;
          among = λ r d q i. reached_above (reached_among D R cut (listed_reached D R cut n m fit q i)) d;
          at_most = all_few D R cut n m fit;
        }
