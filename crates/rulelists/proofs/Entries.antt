-- The entries of a list clause.
--     entries_ok            a search that finds none at fault
--     few_differ            one name differs from all others
--     found_differ          a search that finds no name again
--     names_fit             entries in order that have names have them within the text
--     unnamed_fine          entries that have no names
--     found_ok              entries of which a search finds none at fault are in order
--     all_in_order          entries that have no names, where a search finds none at fault
--     named_entry           an entry that has a name, by its bound
--     all_named             entries that have names, by their bound
--     name_fits             one name of those that lie within the text
--     two_differ, three_differ, four_differ     names whose keys differ
-- Assumes nothing.
use mathlib.Core.Bool.{true, false, not}
use mathlib.Core.List.{List}
use mathlib.Core.Path.{◌≡◌, sym, ap, ◌∙◌}
use Prim.Native.Nat.{ℕ, ◌+◌, ◌*◌, ◌≤◌, ◌<◌}
use native.Mathlib.Omega.{arith}
use Rattle.std.specs.Prelude.{Option, Some, None, is_some}
use lib.Dec.{eqb, ltb}
use borrow.Author.Count.{below_more}
use borrow.Author.Tests.{not-false, eq-eqb, ltb-true}
use Rattle.laws.specs.Lowest.{lowest, lowest_from}
use Rattle.laws.proofs.Searches.{clear_below}
use Rattle.names.specs.declared.Names.{Names}
use Rattle.names.specs.Names.{repeats_by, repeats_at}
use Rattle.names.proofs.Repeats.{repeats_not}
use Rattle.laws.proofs.Tests.{both, left, right}
use Rattle.text.specs.Part.{fits}
use Rattle.rulesheet.specs.declared.code.Fields.TheVariants.{Unknown, Bare, Types, Number, Positive, Limit, Schema, Values, Names as NamesOf, Schemas, Members, Branches, Counted}
use Rattle.rulesheet.specs.declared.form.EntryRow.{EntryRow}
use Rattle.rulesheet.specs.Codes.{entry_range, entry_name}
use Rattle.rulesheet.specs.declared.code.Fields.{Fields}
use Rattle.rulesheet.specs.declared.form.RuleForm.{RuleForm}
use Rattle.rulesheet.specs.Sheet.{entry_words, schemas_word, entries_word, text_word, entry_at}
use Rattle.rulesheet.specs.Faults.{is_named, entry_ok}
use Rattle.rulesheet.specs.Found.{FoundIn}
use Rattle.rulesheet.specs.Read.{RulesFormed}
use Rattle.rulesheet.proofs.Repeating.{named_fits}
use Rattle.ruleentries.proofs.Naming.{lie_repeats}
use Rattle.rulelists.specs.Lists.{bound_of, named_ok, AllNamed, key_of, NamesFit, NamesDiffer, ListFine}

pub entries_ok : (ws : List ℕ) (fields : Fields) (size m first count : ℕ) → first + count ≡ lowest_from (λ x. not (entry_ok fields size m (entry_at ws x))) count first
    → (x : ℕ) → first ≤ x → x < first + count → entry_ok fields size m (entry_at ws x) ≡ true
entries_ok ws fields size m first count none x low high =
    not-false (entry_ok fields size m (entry_at ws x)) (clear_below (λ y. not (entry_ok fields size m (entry_at ws y))) count first x low high (omega arith))

pub few_differ : (ws ts : List ℕ) (first count : ℕ) → count ≤ 1 → NamesDiffer ws ts first count
unfolding repeats_by lowest_from
few_differ ws ts first count few = record { differ = λ (i : ℕ) (h : i < count). let z : i ≡ 0 = omega arith in rw z }

module _ (ws ts : List ℕ) (form : RuleForm) (formed : RulesFormed ws form) (first count : ℕ) (within : first + count ≤ entries_word ws) where
  abbrev lie : Names
  lie = record { base = form.entries + entry_words * first; stride = entry_words; count = count }

  pub found_differ : (r : ℕ) → r ≡ lowest (repeats_at ws ts lie) count → r ≡ count → NamesDiffer ws ts first count
  found_differ r e all =
      record { differ = λ (i : ℕ) (h : i < count). sym (lie_repeats ws ts form formed first count within i) ∙ clear_below (repeats_at ws ts lie) count 0 i (omega arith) (omega arith) (omega arith) }

module _ (ws : List ℕ) (fields : Fields) (first count : ℕ) (ok : (x : ℕ) → first ≤ x → x < first + count → entry_ok fields (text_word ws) (schemas_word ws) (entry_at ws x) ≡ true) where
  pub names_fit : (size : ℕ) → size ≡ text_word ws → is_named fields ≡ true → NamesFit ws size first count
  names_fit size text named =
      record { fitting = λ (i : ℕ) (h : i < count). rw text (named_fits fields (text_word ws) (schemas_word ws) (entry_at ws (first + i)) named (ok (first + i) (omega arith) (omega arith))) }

  pub unnamed_fine : (ts : List ℕ) → is_named fields ≡ false → ListFine ws ts fields first count
  unnamed_fine ts none = record { entries = ok; names = λ (t : is_named fields ≡ true). absurd (no t) }
    where
      no : is_named fields ≡ true → ⊥
      no t = let z : ◌≡◌ {A = ℕ} 0 1 = cc in omega arith

pub found_ok : (ws : List ℕ) (fields : Fields) (first count : ℕ) (bad : Option ℕ)
    → FoundIn (λ x. not (entry_ok fields (text_word ws) (schemas_word ws) (entry_at ws x))) count first bad → is_some bad ≡ false
    → (x : ℕ) → first ≤ x → x < first + count → entry_ok fields (text_word ws) (schemas_word ws) (entry_at ws x) ≡ true
found_ok ws fields first count None e none = entries_ok ws fields (text_word ws) (schemas_word ws) first count e
found_ok ws fields first count (Some x) e none = cc

pub all_in_order : (ws ts : List ℕ) (fields : Fields) (first count : ℕ) (bad : Option ℕ) → is_named fields ≡ false
    → FoundIn (λ x. not (entry_ok fields (text_word ws) (schemas_word ws) (entry_at ws x))) count first bad → is_some bad ≡ false
    → ListFine ws ts fields first count
all_in_order ws ts fields first count bad unnamed e none =
    unnamed_fine ws fields first count (found_ok ws fields first count bad e none) ts unnamed

-- ---- entries that have names

pub named_entry : (fields : Fields) (size m : ℕ) (e : EntryRow) → is_named fields ≡ true → named_ok size (bound_of fields m) e ≡ true → entry_ok fields size m e ≡ true
named_entry Unknown size m e n t = cc
named_entry Bare size m e n t = cc
named_entry Types size m e n t = cc
named_entry Number size m e n t = cc
named_entry Positive size m e n t = cc
named_entry Limit size m e n t = cc
named_entry Schema size m e n t = cc
named_entry Values size m e n t = cc
named_entry NamesOf size m e n t =
    let low = ltb-true e.third 1 (right (fits size (entry_range e)) (ltb e.third 1) t) in
    both (fits size (entry_range e)) (eqb e.third 0) (left (fits size (entry_range e)) (ltb e.third 1) t) (eq-eqb e.third 0 (omega arith))
named_entry Schemas size m e n t = cc
named_entry Members size m e n t = t
named_entry Branches size m e n t = cc
named_entry Counted size m e n t = cc

pub all_named : (ws : List ℕ) (fields : Fields) (size m bound first end : ℕ) → is_named fields ≡ true → size ≡ text_word ws → m ≡ schemas_word ws → bound ≡ bound_of fields m
    → AllNamed ws size bound first end → (x : ℕ) → first ≤ x → x < end → entry_ok fields (text_word ws) (schemas_word ws) (entry_at ws x) ≡ true
all_named ws fields size m bound first end named text many is all x low high =
    rw (← text, ← many) (named_entry fields size m (entry_at ws x) named (rw is at (all.named x low high)))

-- ---- keys

pub name_fits : (ws : List ℕ) (size first count x i : ℕ) → NamesFit ws size first count → x ≡ first + i → i < count → fits size (entry_range (entry_at ws x)) ≡ true
name_fits ws size first count x i fit is h = rw is (fit.fitting i h)

module _ (ws ts : List ℕ) (first : ℕ) where
  abbrev name_of : ℕ → List ℕ
  name_of i = entry_name ts (entry_at ws (first + i))

  none_below : {A : Type 0} (k : ℕ) → k < 0 → A
  none_below k h = absurd (no h)
    where
      no : k < 0 → ⊥
      no l = omega arith

  at_first : (a : ℕ) → a ≡ key_of (entry_name ts (entry_at ws first)) → a ≡ key_of (name_of 0)
  at_first a is = is ∙ ap (λ (x : ℕ). key_of (entry_name ts (entry_at ws x))) (omega arith)

  another : (n : ℕ) → NamesDiffer ws ts first n → ((k : ℕ) → k < n → key_of (name_of k) ≡ key_of (name_of n) → ⊥) → NamesDiffer ws ts first (n + 1)
  another n so_far apart =
      record { differ = below_more (λ (i : ℕ). repeats_by name_of i ≡ false) n so_far.differ (repeats_not name_of n (λ k h e. apart k h (ap key_of e))) }

  module _ (a b : ℕ) (is_a : a ≡ key_of (entry_name ts (entry_at ws first))) (is_b : b ≡ key_of (name_of 1)) (ab : a ≡ b → ⊥) where
    pub two_differ : NamesDiffer ws ts first 2
    two_differ =
        another 1 (few_differ ws ts first 1 (omega arith))
        (below_more (λ (k : ℕ). key_of (name_of k) ≡ key_of (name_of 1) → ⊥) 0 (λ k h. none_below k h) (λ e. ab (at_first a is_a ∙ e ∙ sym is_b)))

    module _ (c : ℕ) (is_c : c ≡ key_of (name_of 2)) (ac : a ≡ c → ⊥) (bc : b ≡ c → ⊥) where
      pub three_differ : NamesDiffer ws ts first 3
      three_differ =
          another 2 two_differ
          (below_more (λ (k : ℕ). key_of (name_of k) ≡ key_of (name_of 2) → ⊥) 1
          (below_more (λ (k : ℕ). key_of (name_of k) ≡ key_of (name_of 2) → ⊥) 0 (λ k h. none_below k h) (λ e. ac (at_first a is_a ∙ e ∙ sym is_c)))
          (λ e. bc (is_b ∙ e ∙ sym is_c)))

      pub four_differ : (d : ℕ) → d ≡ key_of (name_of 3) → (a ≡ d → ⊥) → (b ≡ d → ⊥) → (c ≡ d → ⊥) → NamesDiffer ws ts first 4
      four_differ d is_d ad bd cd =
          another 3 three_differ
          (below_more (λ (k : ℕ). key_of (name_of k) ≡ key_of (name_of 3) → ⊥) 2
          (below_more (λ (k : ℕ). key_of (name_of k) ≡ key_of (name_of 3) → ⊥) 1
          (below_more (λ (k : ℕ). key_of (name_of k) ≡ key_of (name_of 3) → ⊥) 0 (λ k h. none_below k h) (λ e. ad (at_first a is_a ∙ e ∙ sym is_d)))
          (λ e. bd (is_b ∙ e ∙ sym is_d)))
          (λ e. cd (is_c ∙ e ∙ sym is_d)))
