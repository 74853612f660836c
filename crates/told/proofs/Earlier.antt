-- What the clauses before a clause of the same schema tell it.
--     names_none, prefix_none          the variants that tell nothing of names, or of elements
--     started_items, started_additional, started_other     what each variant is told
--     first_clauses, before_is, before_long, before_part   the first clauses of a schema, by where its clauses start
--     prefix_more, names_more          one clause more
--     clauses_few, entries_few         how many clauses and entries there are
--     told_started, applied_started, started_as     what a clause is told, as far as it asks, and by the variant that was read
--     entry_same, entry_names, none_names     whether an entry of a list names a row
--     unnamed_from, unnamed_more, named_here_lem, unnamed_is  and whether a clause does
-- Assumes nothing.
use mathlib.Core.Bool.{Bool, true, false, not, ◌||◌, or_assoc}
use mathlib.Core.List.{List, [], ◌∷◌, ◌++◌, map, map-map, append-nil, append_assoc}
use mathlib.Core.Path.{◌≡◌, refl, sym, ap, ◌∙◌}
use Prim.Native.Nat.{ℕ, zero, suc, ◌+◌, ◌≤◌, ◌<◌}
use native.Mathlib.Nat.{add-zero}
use native.Mathlib.Numerals.{add-one}
use native.Mathlib.Omega.{arith}
use lib.ListN.{length, get_or, take, length-append, length-map}
use lib.Seq.{get_or-take}
use borrow.Author.Tests.{lt-ltb}
use types.Run.{OneOf, miss}
use denote.Enum.Declared.{tag_of}
use Rattle.text.specs.declared.Range.{Range}
use Rattle.text.specs.Part.{part, same_bytes}
use Rattle.sheet.specs.Doc.{Doc}
use Rattle.sheet.specs.declared.record.RuleRow.{RuleRow}
use Rattle.rulesheet.specs.contracts.clause.Clause.{the_type}
use Rattle.rulesheet.specs.declared.form.RuleForm.{RuleForm}
use Rattle.rulesheet.specs.declared.clause.Entries.{Entries}
use Rattle.rulesheet.specs.declared.clause.Clause.{Clause}
use Rattle.rulesheet.specs.declared.clause.Clause.TheVariants.{Never, Types, Enum, Minimum, Maximum, ExclusiveMinimum, ExclusiveMaximum, MultipleOf}
use Rattle.rulesheet.specs.declared.clause.Clause.TheVariants.{MinLength, MaxLength, MinItems, MaxItems, MinProperties, MaxProperties, Required}
use Rattle.rulesheet.specs.declared.clause.Clause.TheVariants.{AllOf, AnyOf, OneOf as Exactly, Not, Ref, IfThenElse, DependentSchemas, Properties, AdditionalProperties, PrefixItems, Items, Contains, UnevaluatedProperties, UnevaluatedItems}
use Rattle.rulesheet.specs.Ruleset as R
use Rattle.rulesheet.specs.Ruleset.{Reach, properties, additional_properties, prefix_items, items, unevaluated_properties, unevaluated_items, asserts, in_place, takes}
use Rattle.rulesheet.specs.Codes.{entry_name, entry_member}
use Rattle.rulesheet.specs.Sheet.{schemas_word, schema_at, entry_at, run, clause_of, rules_of}
use Rattle.rulesheet.specs.Faults.{parts_max}
use Rattle.rulesheet.specs.Clauses.{entries_of, members_in, clause_means, EntryNameRead}
use Rattle.few.specs.Asked.{telling, applying, told, applies_any}
use Rattle.rulesheet.specs.Read.{RulesLaid}
use Rattle.rulesheet.proofs.Trailers.{facts, form_m, form_c, form_e}
use Rattle.rulesheet.proofs.Taking.{schema_within}
use Rattle.rulesheet.proofs.Reaching.{run_long, item_is}
use Rattle.rulesheet.proofs.Items.{clause_item}
use Rattle.meaning.specs.Lists.{any, concat_map}
use Rattle.meaning.specs.Rules.{Pair, none?, names_of, prefix_of, called}
use Rattle.looking.proofs.Having.{never_not}
use Rattle.clause.proofs.Listing.{any_found, entry_found, entry_nowhere}
use Rattle.clause.specs.Read.{before_in}
use Rattle.plan.specs.Plan.{unnamed}
use Rattle.told.specs.Read.{named_by, names_any, marks_named, NamesFrom, NamesOnly, by_marks, Started}

-- a clause that names no member has no names
pub unnaming : (c : R.Clause) → names_any c ≡ false → names_of c ≡ []
unfolding names_any names_of
unnaming (R.asserts t) e = refl
unnaming (R.in_place m ss) e = refl
unnaming (R.if_then_else i t x) e = refl
unnaming (R.dependent_schemas es) e = refl
unnaming (R.contains s least most) e = refl
unnaming (R.takes (R.properties es)) e = absurd (never_not e)
unnaming (R.takes (R.additional_properties s)) e = refl
unnaming (R.takes (R.prefix_items ss)) e = refl
unnaming (R.takes (R.items s)) e = refl
unnaming (R.takes (R.unevaluated_properties s)) e = refl
unnaming (R.takes (R.unevaluated_items s)) e = refl

-- ---- by the variant that was read

-- the clause c of the variant at place `tag`: only `Properties` (22) names members and only `PrefixItems` (24) speaks of elements; only
-- `AdditionalProperties` (23) and `Items` (25) are told of them
record Told (tag : ℕ) (c : R.Clause) : Type 0 where
  no_names : (tag ≡ 22 → ⊥) → names_any c ≡ false
  no_additional : (tag ≡ 23 → ⊥) → (s : ℕ) → c ≡ takes (additional_properties s) → true ≡ false
  no_prefix : (tag ≡ 24 → ⊥) → prefix_of c ≡ []
  no_items : (tag ≡ 25 → ⊥) → (s : ℕ) → c ≡ takes (items s) → true ≡ false

told_test : (tag : ℕ) (t : R.Test) → Told tag (asserts t)
unfolding names_any prefix_of
told_test tag t = record { no_names = λ n. refl; no_additional = λ n s e. cc; no_prefix = λ n. refl; no_items = λ n s e. cc }

told_if : (tag i t e : ℕ) → Told tag (R.if_then_else i t e)
unfolding names_any prefix_of
told_if tag i t e = record { no_names = λ n. refl; no_additional = λ n s e. cc; no_prefix = λ n. refl; no_items = λ n s e. cc }

told_depended : (tag : ℕ) (es : List (List ℕ × ℕ)) → Told tag (R.dependent_schemas es)
unfolding names_any prefix_of
told_depended tag es = record { no_names = λ n. refl; no_additional = λ n s e. cc; no_prefix = λ n. refl; no_items = λ n s e. cc }

told_counted : (tag s least most : ℕ) → Told tag (R.contains s least most)
unfolding names_any prefix_of
told_counted tag s least most = record { no_names = λ n. refl; no_additional = λ n s e. cc; no_prefix = λ n. refl; no_items = λ n s e. cc }

told_here : (tag : ℕ) (m : R.Mode) (ss : List ℕ) → Told tag (in_place m ss)
unfolding names_any prefix_of
told_here tag m ss = record { no_names = λ n. refl; no_additional = λ n s e. cc; no_prefix = λ n. refl; no_items = λ n s e. cc }

abbrev place : Reach → ℕ
place (properties es) = 22
place (additional_properties s) = 23
place (prefix_items ss) = 24
place (items s) = 25
place (unevaluated_properties s) = 27
place (unevaluated_items s) = 28

told_child : (c : Reach) → Told (place c) (takes c)
unfolding names_any prefix_of
told_child (properties es) = record { no_names = λ n. absurd (n refl); no_additional = λ n s e. cc; no_prefix = λ n. refl; no_items = λ n s e. cc }
told_child (additional_properties s) = record { no_names = λ n. refl; no_additional = λ n s e. absurd (n refl); no_prefix = λ n. refl; no_items = λ n s e. cc }
told_child (prefix_items ss) = record { no_names = λ n. refl; no_additional = λ n s e. cc; no_prefix = λ n. absurd (n refl); no_items = λ n s e. cc }
told_child (items s) = record { no_names = λ n. refl; no_additional = λ n s e. cc; no_prefix = λ n. refl; no_items = λ n s e. absurd (n refl) }
told_child (unevaluated_properties s) = record { no_names = λ n. refl; no_additional = λ n s e. cc; no_prefix = λ n. refl; no_items = λ n s e. cc }
told_child (unevaluated_items s) = record { no_names = λ n. refl; no_additional = λ n s e. cc; no_prefix = λ n. refl; no_items = λ n s e. cc }

tells_by : (rs us : List ℕ) (clause : Clause) → Told (tag_of the_type clause) (clause_means rs us clause)
tells_by rs us Never = told_test _ _
tells_by rs us (Types mask) = told_test _ _
tells_by rs us (Enum es) = told_test _ _
tells_by rs us (Minimum d) = told_test _ _
tells_by rs us (Maximum d) = told_test _ _
tells_by rs us (ExclusiveMinimum d) = told_test _ _
tells_by rs us (ExclusiveMaximum d) = told_test _ _
tells_by rs us (MultipleOf d) = told_test _ _
tells_by rs us (MinLength n) = told_test _ _
tells_by rs us (MaxLength n) = told_test _ _
tells_by rs us (MinItems n) = told_test _ _
tells_by rs us (MaxItems n) = told_test _ _
tells_by rs us (MinProperties n) = told_test _ _
tells_by rs us (MaxProperties n) = told_test _ _
tells_by rs us (Required es) = told_test _ _
tells_by rs us (AllOf es) = told_here _ _ _
tells_by rs us (AnyOf es) = told_here _ _ _
tells_by rs us (Exactly es) = told_here _ _ _
tells_by rs us (Not row) = told_here _ _ _
tells_by rs us (Ref row) = told_here _ _ _
tells_by rs us (IfThenElse es) = told_if _ _ _ _
tells_by rs us (DependentSchemas es) = told_depended _ _
tells_by rs us (Properties es) = told_child _
tells_by rs us (AdditionalProperties row) = told_child _
tells_by rs us (PrefixItems es) = told_child _
tells_by rs us (Items row) = told_child _
tells_by rs us (Contains es) = told_counted _ _ _ _
tells_by rs us (UnevaluatedProperties row) = told_child _
tells_by rs us (UnevaluatedItems row) = told_child _

-- the places of the variants that apply no schema to children, and of these others
abbrev places : List ℕ → List ℕ
places others = 0 ∷ 1 ∷ 2 ∷ 3 ∷ 4 ∷ 5 ∷ 6 ∷ 7 ∷ 8 ∷ 9 ∷ 10 ∷ 11 ∷ 12 ∷ 13 ∷ 14 ∷ 15 ∷ 16 ∷ 17 ∷ 18 ∷ 19 ∷ others

-- a variant at one of the places is at none that they lack
lacked : (others : List ℕ) (tag x : ℕ) → OneOf (places others) tag → (OneOf (places others) x → ⊥) → tag ≡ x → ⊥
lacked others tag x k none e = none (rw e at k)

abbrev no_names_at : List ℕ
no_names_at = 20 ∷ 21 ∷ 23 ∷ 24 ∷ 25 ∷ 26 ∷ 27 ∷ 28 ∷ []

abbrev no_prefix_at : List ℕ
no_prefix_at = 20 ∷ 21 ∷ 22 ∷ 23 ∷ 25 ∷ 26 ∷ 27 ∷ 28 ∷ []

abbrev not_told_at : List ℕ
not_told_at = 20 ∷ 21 ∷ 22 ∷ 24 ∷ 26 ∷ 27 ∷ 28 ∷ []

module _ (rs us : List ℕ) (clause : Clause) where
  -- any but a `properties`
  pub naming_none : OneOf (places no_names_at) (tag_of the_type clause) → names_any (clause_means rs us clause) ≡ false
  naming_none k = (tells_by rs us clause).no_names (lacked no_names_at _ 22 k (miss (places no_names_at) 22 tt))

  pub names_none : OneOf (places no_names_at) (tag_of the_type clause) → names_of (clause_means rs us clause) ≡ []
  names_none k = unnaming (clause_means rs us clause) (naming_none k)

  -- any but a `prefixItems`
  pub prefix_none : OneOf (places no_prefix_at) (tag_of the_type clause) → prefix_of (clause_means rs us clause) ≡ []
  prefix_none k = (tells_by rs us clause).no_prefix (lacked no_prefix_at _ 24 k (miss (places no_prefix_at) 24 tt))

  -- what the clauses before tell it
  module _ (before : List R.Clause) (r : ℕ) where
    pub started_items : (row : RuleRow) → clause ≡ Items row → r ≡ length (concat_map prefix_of before) → Started before (clause_means rs us clause) r
    started_items row e is =
        rw e (record { prefix_is = λ s f. is; names_from = λ s f. let z : true ≡ false = cc in absurd (never_not z); names_only = λ s f. let z : true ≡ false = cc in absurd (never_not z) })

    pub started_additional : (row : RuleRow) → clause ≡ AdditionalProperties row → ((r ≡ by_marks → ⊥) → NamesFrom before r) → (r ≡ by_marks → NamesOnly before) → Started before (clause_means rs us clause) r
    started_additional row e from only =
        rw e (record { prefix_is = λ s f. let z : true ≡ false = cc in absurd (never_not z); names_from = λ s f. from; names_only = λ s f. only })

    -- any other
    pub started_other : OneOf (places not_told_at) (tag_of the_type clause) → Started before (clause_means rs us clause) r
    started_other k =
        let t = tells_by rs us clause in
        record {
          prefix_is = λ s f. absurd (never_not (t.no_items (lacked not_told_at _ 25 k (miss (places not_told_at) 25 tt)) s f));
          names_from = λ s f. absurd (never_not (t.no_additional (lacked not_told_at _ 23 k (miss (places not_told_at) 23 tt)) s f));
          names_only = λ s f. absurd (never_not (t.no_additional (lacked not_told_at _ 23 k (miss (places not_told_at) 23 tt)) s f));
        }

-- ---- the first clauses of a schema

-- the k clauses from `first` on
abbrev pub first_clauses : List ℕ → List ℕ → ℕ → ℕ → List R.Clause
first_clauses rs us first k = map (clause_of rs us) (run k first)

take_run : {B : Type 0} (g : ℕ → B) (i n a : ℕ) → i ≤ n → take i (map g (run n a)) ≡ map g (run i a)
unfolding run
take_run g zero n a h = refl
take_run g (suc i) zero a h = absurd (omega arith)
take_run g (suc i) (suc n) a h = ap (λ l. g a ∷ l) (take_run g i n (a + 1) (omega arith))

-- what one clause more adds
module _ {A B : Type 0} (f : A → List B) (g : ℕ → A) where
  concat_last : (k a : ℕ) → concat_map f (map g (run (suc k) a)) ≡ concat_map f (map g (run k a)) ++ f (g (a + k))
  unfolding concat_map run
  concat_last zero a = rw (add-zero, append-nil)
  concat_last (suc k) a =
      let e : (a + 1) + k ≡ a + suc k = omega arith in
      ap (λ l. f (g a) ++ l) (concat_last k (a + 1))
      ∙ sym (append_assoc (f (g a)) (concat_map f (map g (run k (a + 1)))) (f (g ((a + 1) + k))))
      ∙ ap (λ (n : ℕ). (f (g a) ++ concat_map f (map g (run k (a + 1)))) ++ f (g n)) e

  concat_more : (k a : ℕ) → concat_map f (map g (run (k + 1) a)) ≡ concat_map f (map g (run k a)) ++ f (g (a + k))
  concat_more k a = rw add-one (concat_last k a)

-- a clause that tells nothing names no member and speaks of no element
names_told : (c : R.Clause) → names_of (telling c) ≡ names_of c
unfolding telling names_of
names_told (R.asserts t) = refl
names_told (R.in_place m ss) = refl
names_told (R.if_then_else i t e) = refl
names_told (R.dependent_schemas es) = refl
names_told (R.contains s least most) = refl
names_told (R.takes (R.properties es)) = refl
names_told (R.takes (R.additional_properties s)) = refl
names_told (R.takes (R.prefix_items ss)) = refl
names_told (R.takes (R.items s)) = refl
names_told (R.takes (R.unevaluated_properties s)) = refl
names_told (R.takes (R.unevaluated_items s)) = refl

prefix_told : (c : R.Clause) → prefix_of (telling c) ≡ prefix_of c
unfolding telling prefix_of
prefix_told (R.asserts t) = refl
prefix_told (R.in_place m ss) = refl
prefix_told (R.if_then_else i t e) = refl
prefix_told (R.dependent_schemas es) = refl
prefix_told (R.contains s least most) = refl
prefix_told (R.takes (R.properties es)) = refl
prefix_told (R.takes (R.additional_properties s)) = refl
prefix_told (R.takes (R.prefix_items ss)) = refl
prefix_told (R.takes (R.items s)) = refl
prefix_told (R.takes (R.unevaluated_properties s)) = refl
prefix_told (R.takes (R.unevaluated_items s)) = refl

-- whether it names members
naming_told : (c : R.Clause) → names_any (telling c) ≡ names_any c
unfolding telling names_any
naming_told (R.asserts t) = refl
naming_told (R.in_place m ss) = refl
naming_told (R.if_then_else i t e) = refl
naming_told (R.dependent_schemas es) = refl
naming_told (R.contains s least most) = refl
naming_told (R.takes (R.properties es)) = refl
naming_told (R.takes (R.additional_properties s)) = refl
naming_told (R.takes (R.prefix_items ss)) = refl
naming_told (R.takes (R.items s)) = refl
naming_told (R.takes (R.unevaluated_properties s)) = refl
naming_told (R.takes (R.unevaluated_items s)) = refl

-- a test marks no member, and another clause no other than it names if it does
pub test_marks : (c : R.Clause) → applies_any c ≡ false → true ≡ marks_named c
unfolding marks_named
test_marks c e = sym (ap (λ (b : Bool). not b || names_any c) e)

pub applied_marks : (c told : R.Clause) {r : Bool} → applies_any c ≡ true → told ≡ telling c → r ≡ names_any told → r ≡ marks_named c
unfolding marks_named
applied_marks c told e read is = is ∙ ap names_any read ∙ naming_told c ∙ sym (ap (λ (b : Bool). not b || names_any c) e)

-- what clause k tells was read
module _ (rs us : List ℕ) (first k : ℕ) (c : R.Clause) (read : c ≡ telling (clause_of rs us (first + k))) where
  names_read : names_of c ≡ names_of (clause_of rs us (first + k))
  names_read = ap names_of read ∙ names_told (clause_of rs us (first + k))

  prefix_read : prefix_of c ≡ prefix_of (clause_of rs us (first + k))
  prefix_read = ap prefix_of read ∙ prefix_told (clause_of rs us (first + k))

  clause_more : {B : Type 0} (f : R.Clause → List B) → f c ≡ f (clause_of rs us (first + k))
      → concat_map f (first_clauses rs us first (k + 1)) ≡ concat_map f (first_clauses rs us first k) ++ f c
  clause_more f e = rw e (concat_more f (clause_of rs us) k first)

  pub prefix_more : (n r : ℕ) → n ≡ length (concat_map prefix_of (first_clauses rs us first k)) → r ≡ length (prefix_of c)
      → n + r ≡ length (concat_map prefix_of (first_clauses rs us first (k + 1)))
  prefix_more n r e is =
      rw (e, is) (sym (ap length (clause_more prefix_of prefix_read) ∙ length-append (concat_map prefix_of (first_clauses rs us first k)) (prefix_of c)))

  pub names_more : concat_map names_of (first_clauses rs us first k) ≡ [] → names_of c ≡ [] → concat_map names_of (first_clauses rs us first (k + 1)) ≡ []
  names_more none here = clause_more names_of names_read ∙ rw (none, here)

-- the first i clauses of schema s, which start at `first`, are asked for
abbrev Asked : List ℕ → RuleForm → ℕ → ℕ → ℕ → Type 0
Asked rs form s first i = RulesLaid rs form × (s < form.m) × (first ≡ (schema_at rs s).first) × (i ≤ (schema_at rs s).count)

module _ {rs : List ℕ} {form : RuleForm} (s first i : ℕ) (asked : Asked rs form s first i) where
  pub before_is : (us : List ℕ) (k : ℕ) → k ≡ i → first_clauses rs us first k ≡ before_in rs us s i
  unfolding rules_of
  before_is us k e =
      let in_sheet : s < schemas_word rs = omega (arith, form_m rs form asked.0.clauses_laid.schemas_laid.formed) in
      rw (e, lt-ltb s (schemas_word rs) in_sheet, asked.2) (sym (take_run (clause_of rs us) i (schema_at rs s).count (schema_at rs s).first asked.3))

  pub before_item : (us : List ℕ) (k : ℕ) → k < i → get_or (before_in rs us s i) k (asserts R.never) ≡ clause_of rs us (first + k)
  before_item us k h =
      let low = asked.3 in
      get_or-take i ((rules_of rs us).clauses s) k (asserts R.never) h
      ∙ clause_item rs us s (omega (arith, form_m rs form asked.0.clauses_laid.schemas_laid.formed)) k (asserts R.never) (omega arith)
      ∙ rw asked.2

  pub before_long : (us : List ℕ) → length (before_in rs us s i) ≡ i
  before_long us = ap length (sym (before_is us i refl)) ∙ simp (length-map, run_long)

  pub before_part : (us : List ℕ) (k : ℕ) → k ≤ i → take k (before_in rs us s i) ≡ first_clauses rs us first k
  before_part us k h = ap (take k) (sym (before_is us i refl)) ∙ take_run (clause_of rs us) k i first h

  -- they are clauses of the sheet, of which there are few
  pub clauses_few : (first + i ≤ form.c) × (form.c ≤ parts_max)
  clauses_few =
      let laid = asked.0.clauses_laid.schemas_laid in
      let few = (facts rs form laid.formed).few_clauses in
      let within = schema_within rs form laid s asked.1 in
      let e = form_c rs form laid.formed in
      (omega arith, omega arith)

pub entries_few : {rs : List ℕ} {form : RuleForm} → RulesLaid rs form → form.e ≤ parts_max
entries_few {rs} {form} laid =
    let formed = laid.clauses_laid.schemas_laid.formed in
    omega (arith, form_e rs form formed, (facts rs form formed).few_entries)

-- what a clause is told is what is told to it where it asks for something
pub told_started : {before : List R.Clause} {from : ℕ} (c : R.Clause) → Started before (told c) from → Started before c from
unfolding told
told_started c start =
    record {
      prefix_is = λ s e. start.prefix_is s (ap told e);
      names_from = λ s e. start.names_from s (ap told e);
      names_only = λ s e. start.names_only s (ap told e);
    }

-- and as far as it applies schemas
pub applied_started : {before : List R.Clause} {from : ℕ} (c : R.Clause) → Started before c from → Started before (applying c) from
unfolding applying
applied_started (asserts t) start =
    record { prefix_is = λ s e. absurd (nothing cc); names_from = λ s e. absurd (nothing cc); names_only = λ s e. absurd (nothing cc) }
  where
    nothing : true ≡ false → ⊥
    nothing = never_not
applied_started (in_place m ss) start = start
applied_started (R.if_then_else i t e) start = start
applied_started (R.dependent_schemas es) start = start
applied_started (R.contains s least most) start = start
applied_started (takes c) start = start

-- by the variant that was read
pub started_as : {before : List R.Clause} {from : ℕ} (rs us : List ℕ) (c : R.Clause) (clause variant : Clause) → clause ≡ variant → clause_means rs us clause ≡ applying c
    → Started before c from → Started before (clause_means rs us variant) from
started_as rs us c clause variant e means start = rw (← e, means) (applied_started c start)

-- ---- a row by name

-- the name of entry i was read, and the bytes x compared with it
pub entry_same : {ws : List ℕ} {list : Entries} {i : ℕ} {name : Range} → EntryNameRead ws list i name → (ts x : List ℕ) (r : Bool) → i < list.count
    → r ≡ same_bytes x (part ts name) → r ≡ same_bytes x (entry_name ts (entry_at ws (list.first + i)))
entry_same {ws} {list} {i} read ts x r h is =
    is ∙ ap (same_bytes x) (read.name_is ts ∙ item_is ws (entry_name ts) list.count list.first i [] h)

module _ (d : Doc) (j : ℕ) (ws ts : List ℕ) (list : Entries) where
  -- one of the members is named as row j is
  abbrev named_here : Bool
  named_here = named_by d (map (λ (m : List ℕ × ℕ). m.0) (members_in ws ts list)) j

  by_names : named_here ≡ any (map (λ n. called d n j) (map (entry_name ts) (entries_of ws list)))
  by_names = ap (λ (l : List (List ℕ)). any (map (λ n. called d n j) l)) (map-map (λ (m : List ℕ × ℕ). m.0) (entry_member ts) (entries_of ws list))

  pub entry_names : (i : ℕ) → i < list.count → called d (entry_name ts (entry_at ws (list.first + i))) j ≡ true → named_here ≡ true
  entry_names i h t = by_names ∙ entry_found ws list (λ n. called d n j) (entry_name ts) i h t

  pub none_names : ((i : ℕ) → i < list.count → called d (entry_name ts (entry_at ws (list.first + i))) j ≡ false) → named_here ≡ false
  none_names none = by_names ∙ entry_nowhere ws list (λ n. called d n j) (entry_name ts) none

module _ (d : Doc) (j : ℕ) where
  pub named_append : (xs ys : List (List ℕ)) → named_by d (xs ++ ys) j ≡ (named_by d xs j || named_by d ys j)
  unfolding any
  named_append [] ys = refl
  named_append (x ∷ xs) ys = rw (named_append xs ys) (sym (or_assoc (called d x j) (named_by d xs j) (named_by d ys j)))

  module _ (rs us : List ℕ) where
    -- clause by clause
    by_clauses : (k a : ℕ) → named_by d (concat_map names_of (first_clauses rs us a k)) j ≡ any (map (λ x. named_by d (names_of (clause_of rs us x)) j) (run k a))
    unfolding any concat_map run
    by_clauses zero a = refl
    by_clauses (suc k) a =
        named_append (names_of (clause_of rs us a)) (concat_map names_of (first_clauses rs us (a + 1) k))
        ∙ ap (λ (b : Bool). named_by d (names_of (clause_of rs us a)) j || b) (by_clauses k (a + 1))

    -- what clause k tells was read, and tested
    module _ (first k : ℕ) (c : R.Clause) (read : c ≡ telling (clause_of rs us (first + k))) (r : Bool) (is : r ≡ named_by d (names_of c) j) where
      pub unnamed_more : named_by d (concat_map names_of (first_clauses rs us first k)) j ≡ false → r ≡ false
          → named_by d (concat_map names_of (first_clauses rs us first (k + 1))) j ≡ false
      unnamed_more none here =
          ap (λ (names : List (List ℕ)). named_by d names j) (clause_more rs us first k c read names_of (names_read rs us first k c read))
          ∙ named_append (concat_map names_of (first_clauses rs us first k)) (names_of c)
          ∙ rw (none, ← is, here)

      pub named_here_lem : (i : ℕ) → k < i → r ≡ true → named_by d (concat_map names_of (first_clauses rs us first i)) j ≡ true
      named_here_lem i h t =
          by_clauses i first
          ∙ any_found (λ x. named_by d (names_of (clause_of rs us x)) j) i first (first + k) (omega arith) (omega arith) (ap (λ (names : List (List ℕ)). named_by d names j) (sym (names_read rs us first k c read)) ∙ sym is ∙ t)

  module _ {rs : List ℕ} {form : RuleForm} (s first i : ℕ) (asked : Asked rs form s first i) (us : List ℕ) where
    -- the clauses before `from` name nothing
    pub unnamed_from : (from : ℕ) → from ≤ i → concat_map names_of (take from (before_in rs us s i)) ≡ []
        → named_by d (concat_map names_of (first_clauses rs us first from)) j ≡ false
    unfolding any
    unnamed_from from h none = rw (← before_part s first i asked us from h, none)

    -- what is found of the first i clauses is found of those before clause i
    pub unnamed_is : (b : Bool) → named_by d (concat_map names_of (first_clauses rs us first i)) j ≡ b → (p : Pair) → not b ≡ unnamed d p (before_in rs us s i) j
    unfolding unnamed none?
    unnamed_is b e p =
        sym (ap (λ (cs : List R.Clause). not (named_by d (concat_map names_of cs) j)) (sym (before_is s first i asked us i refl)) ∙ ap not e)
