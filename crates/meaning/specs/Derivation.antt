-- The rules of judgement in the form of document 000's Figure 7: a derivation is a tree.
-- Assumes nothing.
use Rattle.std.specs.Prelude.{ℕ, Bool, true, false, ◌&&◌, ◌≡◌, List, [], ◌∷◌, ◌++◌, map}
use Rattle.sheet.specs.Doc.{Doc}
use Rattle.rulesheet.specs.Ruleset.{Test, Mode, Reach, Clause, asserts, in_place, if_then_else, dependent_schemas, contains, takes, Ruleset}
use Rattle.meaning.specs.Lists.{all, count}
use Rattle.meaning.specs.Rules.{Pair, Marks, nothing, ◌∪◌, these, Result, unions, verdicts, joined, to, here, under, holding, elements_of, passes, taken, depended, contained}

module _ (D : Doc) (R : Ruleset) where
  mutual
    -- J : S → r
    pub data Schema : Pair → Result → Type 0 where
      schema_true : {p : Pair} {q r : Result}
          → Clauses p (R.clauses p.rule) q
          → q.holds ≡ true
          → r.holds ≡ true
          → r.marks ≡ q.marks
          → Schema p r
      schema_false : {p : Pair} {q r : Result}
          → Clauses p (R.clauses p.rule) q
          → q.holds ≡ false
          → r.holds ≡ false
          → r.marks ≡ nothing
          → Schema p r

    -- J : K₁ … Kₙ → r
    pub data Clauses : Pair → List Clause → Result → Type 0 where
      klist_0 : {p : Pair} {r : Result} → r.holds ≡ true → r.marks ≡ nothing → Clauses p [] r
      klist_n : {p : Pair} {cs ds : List Clause} {c : Clause} {q q' r : Result}
          → Clauses p cs q
          → Keyword p cs q.marks c q'
          → ds ≡ cs ++ c ∷ []
          → r.holds ≡ (q.holds && q'.holds)
          → r.marks ≡ (q.marks ∪ q'.marks)
          → Clauses p ds r

    -- J : K → r, after the clauses cs of the same schema, which mark μ
    pub data Keyword : Pair → List Clause → Marks → Clause → Result → Type 0 where
      assertion : {p : Pair} {cs : List Clause} {μ : Marks} {t : Test} {r : Result}
          → r.holds ≡ passes D p.row t
          → r.marks ≡ nothing
          → Keyword p cs μ (asserts t) r
      placed_in : {p : Pair} {cs : List Clause} {μ : Marks} {m : Mode} {ss : List ℕ} {rs : List Result} {r : Result}
          → Each (here p ss) rs
          → r.holds ≡ joined m (verdicts rs)
          → r.marks ≡ unions rs
          → Keyword p cs μ (in_place m ss) r
      if_then : {p : Pair} {cs : List Clause} {μ : Marks} {i t e : ℕ} {q q' r : Result}
          → Schema (to p p.row i) q
          → q.holds ≡ true
          → Schema (to p p.row t) q'
          → r.holds ≡ q'.holds
          → r.marks ≡ (q.marks ∪ q'.marks)
          → Keyword p cs μ (if_then_else i t e) r
      if_else : {p : Pair} {cs : List Clause} {μ : Marks} {i t e : ℕ} {q q' r : Result}
          → Schema (to p p.row i) q
          → q.holds ≡ false
          → Schema (to p p.row e) q'
          → r.holds ≡ q'.holds
          → r.marks ≡ (q.marks ∪ q'.marks)
          → Keyword p cs μ (if_then_else i t e) r
      dependent : {p : Pair} {cs : List Clause} {μ : Marks} {es : List (List ℕ × ℕ)} {rs : List Result} {r : Result}
          → Each (depended D p es) rs
          → r.holds ≡ all (verdicts rs)
          → r.marks ≡ unions rs
          → Keyword p cs μ (dependent_schemas es) r
      containing : {p : Pair} {cs : List Clause} {μ : Marks} {s least most : ℕ} {rs : List Result} {r : Result}
          → Each (under p s (elements_of D p.row)) rs
          → r.holds ≡ contained D p.row least most (count (verdicts rs))
          → r.marks ≡ these (map (λ q. q.row) (holding (under p s (elements_of D p.row)) rs))
          → Keyword p cs μ (contains s least most) r
      children : {p : Pair} {cs : List Clause} {μ : Marks} {c : Reach} {rs : List Result} {r : Result}
          → Each (taken D p cs μ c) rs
          → r.holds ≡ all (verdicts rs)
          → r.marks ≡ these (map (λ q. q.row) (taken D p cs μ c))
          → Keyword p cs μ (takes c) r

    pub data Each : List Pair → List Result → Type 0 where
      no_more : Each [] []
      one_more : {p : Pair} {r : Result} {ps : List Pair} {rs : List Result}
          → Schema p r
          → Each ps rs
          → Each (p ∷ ps) (r ∷ rs)

  -- ---- the pairs of a derivation

  -- those that it applies directly, in order: the pairs of its premises
  unfoldable pub each_applies : {ps : List Pair} {rs : List Result} → Each ps rs → List Pair
  each_applies no_more = []
  each_applies (one_more {p = p} d e) = p ∷ each_applies e

  unfoldable pub keyword_applies : {p : Pair} {cs : List Clause} {μ : Marks} {c : Clause} {r : Result} → Keyword p cs μ c r → List Pair
  keyword_applies (assertion a b) = []
  keyword_applies (placed_in e a b) = each_applies e
  keyword_applies (if_then d h d' a b) = each_applies (one_more d (one_more d' no_more))
  keyword_applies (if_else d h d' a b) = each_applies (one_more d (one_more d' no_more))
  keyword_applies (dependent e a b) = each_applies e
  keyword_applies (containing e a b) = each_applies e
  keyword_applies (children e a b) = each_applies e

  unfoldable pub clauses_applies : {p : Pair} {cs : List Clause} {r : Result} → Clauses p cs r → List Pair
  clauses_applies (klist_0 a b) = []
  clauses_applies (klist_n d k a b c) = clauses_applies d ++ keyword_applies k

  unfoldable pub schema_applies : {p : Pair} {r : Result} → Schema p r → List Pair
  schema_applies (schema_true d a b c) = clauses_applies d
  schema_applies (schema_false d a b c) = clauses_applies d

  -- and all of them: its own pair, and those of the derivations above it
  unfoldable mutual
    pub schema_pairs : {p : Pair} {r : Result} → Schema p r → List Pair
    schema_pairs {p} (schema_true d a b c) = p ∷ clauses_pairs d
    schema_pairs {p} (schema_false d a b c) = p ∷ clauses_pairs d

    pub clauses_pairs : {p : Pair} {cs : List Clause} {r : Result} → Clauses p cs r → List Pair
    clauses_pairs (klist_0 a b) = []
    clauses_pairs (klist_n d k a b c) = clauses_pairs d ++ keyword_pairs k

    pub keyword_pairs : {p : Pair} {cs : List Clause} {μ : Marks} {c : Clause} {r : Result} → Keyword p cs μ c r → List Pair
    keyword_pairs (assertion a b) = []
    keyword_pairs (placed_in e a b) = each_pairs e
    keyword_pairs (if_then d h d' a b) = schema_pairs d ++ schema_pairs d'
    keyword_pairs (if_else d h d' a b) = schema_pairs d ++ schema_pairs d'
    keyword_pairs (dependent e a b) = each_pairs e
    keyword_pairs (containing e a b) = each_pairs e
    keyword_pairs (children e a b) = each_pairs e

    pub each_pairs : {ps : List Pair} {rs : List Result} → Each ps rs → List Pair
    each_pairs no_more = []
    each_pairs (one_more d e) = schema_pairs d ++ each_pairs e
