-- The members that the clauses of a pair name, by its marks.
--     named_upto      where clauses mark no member but those that they name, the marks are of those that they name
--     claused_named   what judging a clause asks of them
--     standing-marked what standing at one of its steps does
-- Assumes nothing.
use mathlib.Core.Bool.{Bool, true, false, ◌||◌, true≢false}
use mathlib.Core.List.{List, [], ◌∷◌, ◌++◌, append-nil}
use mathlib.Core.Logic.{⊎_elim}
use mathlib.Core.Path.{◌≡◌, refl, sym, ap, ap₂, ◌∙◌}
use Prim.Native.Nat.{ℕ, zero, suc, ◌+◌, ◌≤◌, ◌<◌}
use native.Mathlib.Omega.{arith}
use lib.ListN.{length}
use lib.Seq.{get_or-take, length-take-le}
use Rattle.laws.proofs.Tests.{decide}
use Rattle.rulesheet.specs.Ruleset.{never, additional_properties, Clause, asserts, takes}
use Rattle.meaning.specs.Lists.{any, elem, concat_map}
use Rattle.meaning.specs.Rules.{Pair, nothing, ◌∪◌, Result, none?, stops, names_of, members_of}
use Rattle.meaning.proofs.Members.{concat_append}
use Rattle.areas.specs.Cells.{column}
use Rattle.plan.specs.Plan.{own, child_row, unnamed}
use Rattle.plan.proofs.Children.{member_in}
use Rattle.plan.proofs.Plans.{later_is}
use Rattle.told.specs.Read.{marks_named, named_by, by_marks, Started}
use Rattle.told.proofs.Earlier.{named_append}
use Rattle.told.proofs.Marking.{named_marks, member_elem}
use Rattle.steps.specs.Turns.{NamesMarked}
use Rattle.steps.proofs.Turns.{twice}
use Rattle.lent.specs.Lent.{Case, clauses_of, clause_at, before_of}
use Rattle.progress.specs.Steps.{Stepped, goes}
use Rattle.progress.specs.State.{truth_of, bits_of, Named}
use Rattle.progress.proofs.Pairs.{res_at, both, res_stays, res_next, one_before}
use Rattle.progress.proofs.Going.{going_bits, open_bits}
use Rattle.progress.proofs.Claused.{Clausing}

module _ (T : Case) (p : Pair) where
  -- a clause that is not stopped comes after those that are not
  on_before : (i : ℕ) → stops T.way (res_at T p (suc i)) ≡ false → stops T.way (res_at T p i) ≡ false
  on_before i on =
      ⊎_elim
      (λ (t : stops T.way (res_at T p i) ≡ true).
      let z : i + 1 ≡ suc i = omega arith in
      absurd (true≢false (sym t ∙ ap (stops T.way) (sym (rw z at (res_stays T p i 1 t))) ∙ on)))
      (λ (t : stops T.way (res_at T p i) ≡ false). t)
      (decide (stops T.way (res_at T p i)))

  -- the names of one clause more
  names_next : (i k : ℕ) → i < length (clauses_of T p) → named_by T.doc (concat_map names_of (before_of T p (suc i))) k
      ≡ (named_by T.doc (concat_map names_of (before_of T p i)) k || named_by T.doc (names_of (clause_at T p i)) k)
  unfolding concat_map
  names_next i k h =
      ap (λ (cs : List Clause). named_by T.doc (concat_map names_of cs) k) (one_before T p i h)
      ∙ ap (λ (names : List (List ℕ)). named_by T.doc names k)
      (concat_append names_of (before_of T p i) (clause_at T p i ∷ []) ∙ ap (λ (l : List (List ℕ)). concat_map names_of (before_of T p i) ++ l) (append-nil (names_of (clause_at T p i))))
      ∙ named_append T.doc k (concat_map names_of (before_of T p i)) (names_of (clause_at T p i))

  -- by the first i clauses
  named_upto : (i : ℕ) (k : ℕ) → elem k (members_of T.doc p.row) ≡ true → i ≤ length (clauses_of T p) → stops T.way (res_at T p i) ≡ false
      → ((j : ℕ) → j < i → marks_named (clause_at T p j) ≡ true) → (res_at T p i).marks k ≡ named_by T.doc (concat_map names_of (before_of T p i)) k
  unfolding res_at concat_map any both ◌∪◌ nothing
  named_upto zero k member low on only = refl
  named_upto (suc i) k member low on only =
      let here = named_marks T.doc p k member (truth_of T) T.way (before_of T p i) (res_at T p i).marks (clause_at T p i) (only i (omega arith)) in
      let rest = named_upto i k member (omega arith) (on_before i on) (λ j h. only j (omega arith)) in
      ap (λ (r : Result). r.marks k) (res_next T p i (on_before i on)) ∙ ap₂ (λ (a b : Bool). a || b) rest here ∙ sym (names_next i k (omega arith))

-- what judging clause i of a pair in progress asks of its marks
pub claused_named : {T : Case} {p : Pair} {many : ℕ} {d₀ : List Pair} {c₀ l₀ : List ℕ} {i : ℕ} {c l : List ℕ} {n : ℕ} {ok : Bool}
    → Clausing T p many d₀ c₀ l₀ i c l n ok → i < many → many ≡ length (clauses_of T p) → Named T p i c
unfolding unnamed none?
claused_named {T} {p} {many} {i = i} {c = c} L h e only k a b =
    let G = L.claused.going in
    let child = member_in T.doc T.rules T.n T.m G.fit p G.inside.row_in (own T.doc p) refl k b in
    let member = member_elem T.doc T.rules T.n T.m G.fit p G.inside.row_in k b in
    let each : (j : ℕ) → j < i → marks_named (clause_at T p j) ≡ true =
    λ j g. ap marks_named (sym (get_or-take i (clauses_of T p) j (asserts never) g)) ∙ only j (omega (arith, length-take-le i (clauses_of T p) (omega arith))) in
    open_bits T c p (child_row T.doc p k) (going_bits G (child_row T.doc p k) child)
    ∙ named_upto T p i (child_row T.doc p k) member (omega arith) (L.unstopped h) each
    ∙ sym (twice _)

-- what standing at one of the steps of a clause asks of them
pub standing_marked : {T : Case} {p : Pair} {cl : ℕ} {d₀ : List Pair} {c₀ l₀ : List ℕ} {x : ℕ} {c l : List ℕ} {n tally from : ℕ} → Stepped T p cl d₀ c₀ l₀ x c l n tally
    → Named T p cl c₀ → Started (before_of T p cl) (clause_at T p cl) from
    → (s : ℕ) → clause_at T p cl ≡ takes (additional_properties s) → from ≡ by_marks → NamesMarked T.doc p (before_of T p cl) x (column T.m c p.rule)
unfolding bits_of
standing_marked {T} {p} {cl} {c₀ = c₀} {x = x} {c = c} S named started s e f k a b =
    let G = S.going in
    let child = member_in T.doc T.rules T.n T.m G.fit p G.inside.row_in (own T.doc p) refl k b in
    let κ₀ = bits_of T.m c₀ p in
    let row = child_row T.doc p k in
    open_bits T c p row
    (going_bits G row child
    ∙ later_is T.doc T.rules T.n T.m G.fit p G.inside.row_in (before_of T p cl) κ₀ (truth_of T) (clause_at T p cl) s e (goes T p cl κ₀) x k a b)
    ∙ named (started.names_only s e f) k (omega arith) b
