-- A clause between two of its steps.
--     skipped_none, skipped_more, skipped_least   no step is passed over; one more that is not applied; fewer of them
--     goes_on, goes_of, stops                              at a step that is applied, and at the end
--     applied_turned, applied_child, turned_as    as far as the clause applies schemas, and by the variant that was read
--     named_none, named_pair                       an entry whose name a member has
--     marked_turned                               additionalProperties by the marks
-- Assumes nothing.
use mathlib.Core.Bool.{Bool, true, false, not}
use mathlib.Core.List.{List}
use mathlib.Core.Path.{◌≡◌, refl, sym, ap, ◌∙◌, subst}
use Prim.Native.Nat.{ℕ, ◌+◌, ◌≤◌, ◌<◌}
use native.Mathlib.Omega.{arith}
use lib.ListN.{get_or}
use borrow.Author.Count.{below_more}
use Rattle.sheet.specs.declared.record.RecordRow.{RecordRow}
use Rattle.sheet.specs.declared.record.RuleRow.{RuleRow}
use Rattle.sheet.specs.Doc.{Doc}
use Rattle.rulesheet.specs.Ruleset.{Reach, additional_properties, unevaluated_properties, Clause, asserts, in_place, if_then_else, dependent_schemas, contains, takes}
use Rattle.rulesheet.specs.declared.clause.Clause.{Clause as Read}
use Rattle.rulesheet.specs.Clauses.{clause_means}
use Rattle.few.specs.Asked.{applying}
use Rattle.meaning.specs.Rules.{Pair, Marks, to}
use Rattle.std.specs.Prelude.{Option, Some, None, unwrap_or}
use Rattle.std.proofs.lemmas.Option.{none-some}
use Rattle.looking.proofs.Having.{never_not}
use Rattle.steps.specs.declared.turn.Turn.{Turn}
use Rattle.steps.specs.declared.turn.Counts.{Counts}
use Rattle.steps.specs.declared.turn.Counts.TheVariants.{Misses}
use Rattle.plan.specs.Plan.{member_count, no_member, own, child_row, child_named, unnamed, counts_hits, branches, steps_of, steps_in, go_of, go_in, aim_of, aim_in}
use Rattle.steps.specs.Turns.{is_hits, is_branches, goes_at, Skipped, Goes, NoneNamed, NamedAt, FirstNamed, NamesMarked, Turned}

-- at step x, which applies the schema to the row
abbrev pub at : ℕ → RecordRow → RuleRow → Option Turn
at x row rule = Some (record { step = x; pair = record { row = row; rule = rule }; counts = Misses })

-- the same of a clause that counts hits, or has branches
abbrev pub at_of : Counts → ℕ → RecordRow → RuleRow → Option Turn
at_of counts x row rule = Some (record { step = x; pair = record { row = row; rule = rule }; counts = counts })

some_is : {a b : Turn} → Some a ≡ Some b → a ≡ b
some_is {a} e = ap (λ (o : Option Turn). unwrap_or o a) e

-- entry y is passed over too
pub named_none : (D : Doc) (p : Pair) (es : List (List ℕ × ℕ)) {x y n : ℕ} → NoneNamed D p es x y → n ≡ child_named D p (get_or es y no_member).0 → member_count (own D p) ≤ n → NoneNamed D p es x (y + 1)
named_none D p es {x} {y} N e h =
    record { none = λ k a b. below_more (λ j. x ≤ j → member_count (own D p) ≤ child_named D p (get_or es j no_member).0) y (λ j d f. N.none j f d) (λ f. rw e at h) k b a }

-- it is the first
pub named_pair : (D : Doc) (p : Pair) (es : List (List ℕ × ℕ)) {x many y n : ℕ} → NamedAt D p es x many y n → FirstNamed D p es x many (Some (y, n))
named_pair D p es {x} {many} {y} {n} N =
    record {
      found = λ e. subst (λ (z : ℕ × ℕ). NamedAt D p es x many z.0 z.1) (pair_is e) N;
      past = λ e. absurd (none-some _ (sym e));
    }
  where
    pair_is : {z : ℕ × ℕ} → Some (y, n) ≡ Some z → (y, n) ≡ z
    pair_is e = ap (λ (o : Option (ℕ × ℕ)). unwrap_or o (y, n)) e

module _ {D : Doc} {p : Pair} {before : List Clause} {c : Clause} {κ : Marks} {t : ℕ} where
  pub skipped_none : {x y : ℕ} → y ≤ x → Skipped D p before c κ t x y
  skipped_none h = record { idle = λ k a b. absurd (omega arith) }

  pub skipped_more : {x y : ℕ} → Skipped D p before c κ t x y → goes_at D p before c κ t y ≡ false → Skipped D p before c κ t x (y + 1)
  skipped_more {x} {y} f g = record { idle = λ k a b. below_more (λ j. x ≤ j → goes_at D p before c κ t j ≡ false) y (λ j d e. f.idle j e d) (λ e. g) k b a }

  pub skipped_least : {x y z : ℕ} → z ≤ y → Skipped D p before c κ t x y → Skipped D p before c κ t x z
  skipped_least h f = record { idle = λ k a b. f.idle k a (omega arith) }

  pub goes_of : {x y : ℕ} {row : RecordRow} {rule : RuleRow} {r : Option Turn} {counts : Counts} → r ≡ at_of counts y row rule → is_hits counts ≡ counts_hits c → is_branches counts ≡ branches c
      → x ≤ y → y < steps_of D p before c → y < 4294967295 → Skipped D p before c κ t x y
      → goes_at D p before c κ t y ≡ true → record { row = row.0; rule = rule.0 } ≡ aim_of D p before c y → Turned D p before c x κ t r
  goes_of {x} {y} is hits branch ahead within small skipped applied aims =
      rw is (record {
        goes = λ e. subst (Goes D p before c x κ t) (some_is e) (record { ahead = ahead; within = within; small = small; skipped = skipped; applied = applied; hits_is = hits; branch_is = branch; aim_is = aims });
        ends = λ e. absurd (none-some _ (sym e));
      })

  pub goes_on : {x y : ℕ} {row : RecordRow} {rule : RuleRow} {r : Option Turn} → r ≡ at y row rule → false ≡ counts_hits c → false ≡ branches c → x ≤ y → y < steps_of D p before c → y < 4294967295
      → Skipped D p before c κ t x y → goes_at D p before c κ t y ≡ true → record { row = row.0; rule = rule.0 } ≡ aim_of D p before c y → Turned D p before c x κ t r
  goes_on is hits branch ahead within small skipped applied aims = goes_of is hits branch ahead within small skipped applied aims

  pub stops : {x y : ℕ} {r : Option Turn} → r ≡ None → Skipped D p before c κ t x y → steps_of D p before c ≤ y → Turned D p before c x κ t r
  stops {x} {y} {r} is skipped h = record { goes = λ e. absurd (none-some _ (sym is ∙ e)); ends = λ e. skipped_least h skipped }

-- a clause that applies no schemas has no steps
pub applied_turned : {D : Doc} {p : Pair} {before : List Clause} {κ : Marks} {k x : ℕ} {r : Option Turn} (c : Clause) → Turned D p before (applying c) x κ k r → Turned D p before c x κ k r
unfolding applying steps_of
applied_turned (asserts t) t_is = record { goes = λ e. absurd (none (t_is.goes e).within); ends = λ e. skipped_none (omega arith) }
  where
    none : {k : ℕ} → k < 0 → ⊥
    none h = omega arith
applied_turned (in_place m ss) t_is = t_is
applied_turned (if_then_else i t e) t_is = t_is
applied_turned (dependent_schemas es) t_is = t_is
applied_turned (contains s least most) t_is = t_is
applied_turned (takes c) t_is = t_is

pub applied_child : (c : Clause) (r : Reach) → takes r ≡ applying c → c ≡ takes r
unfolding applying
applied_child (asserts t) r e = let z : true ≡ false = cc in absurd (never_not z)
applied_child (in_place m ss) r e = sym e
applied_child (if_then_else i t x) r e = sym e
applied_child (dependent_schemas es) r e = sym e
applied_child (contains s least most) r e = sym e
applied_child (takes c) r e = sym e

pub twice : (b : Bool) → not (not b) ≡ b
twice true = refl
twice false = refl

-- where the marks tell which members are named, those that are not named are those that are not marked
pub marked_turned : {D : Doc} {p : Pair} {before : List Clause} {κ : Marks} {t x : ℕ} {r : Option Turn} (s : ℕ) → NamesMarked D p before x κ
    → Turned D p before (takes (unevaluated_properties s)) x κ t r → Turned D p before (takes (additional_properties s)) x κ t r
unfolding counts_hits branches steps_of steps_in go_of go_in aim_of aim_in to
marked_turned {D} {p} {before} {κ} {t} {x} {r} s marked turn =
    record {
      goes =
          λ e.
          let G = turn.goes e in
          record {
            ahead = G.ahead;
            within = G.within;
            small = G.small;
            skipped = record { idle = λ k a b. same k a (let w = G.within in omega arith) ∙ G.skipped.idle k a b };
            applied = same _ G.ahead G.within ∙ G.applied;
            hits_is = G.hits_is;
            branch_is = G.branch_is;
            aim_is = G.aim_is;
          };
      ends = λ e. record { idle = λ k a b. same k a b ∙ (turn.ends e).idle k a b };
    }
  where
    same : (k : ℕ) → x ≤ k → k < member_count (own D p) → unnamed D p before (child_row D p k) ≡ not (κ (child_row D p k))
    same k a b = sym (ap not (marked k a b) ∙ twice (unnamed D p before (child_row D p k)))

-- by the variant that was read
pub turned_as : {D : Doc} {p : Pair} {before : List Clause} {κ : Marks} {k x : ℕ} {r : Option Turn} (rs us : List ℕ) (clause variant : Read) → clause ≡ variant
    → Turned D p before (clause_means rs us variant) x κ k r → Turned D p before (clause_means rs us clause) x κ k r
turned_as rs us clause variant e is = rw e is
