-- The names of a list clause's entries, as names that lie among the words.
--     lie_end, lie_lying       names of entries one after the other lie as the search for a repeated name asks
--     lie_repeats              what it finds, by the entries
--     names_end, names_lie     the names of a clause do
--     found_within             what that search gives is small
--     found_named              it is the lowest repeated entry of the clause
--     unnamed_on               a clause whose entries have no names is passed
--     named_list               names are had by entries only
-- Assumes nothing.
use mathlib.Core.Bool.{true, false, ◌&&◌}
use mathlib.Core.List.{List}
use mathlib.Core.Path.{◌≡◌, refl, sym, ap, ◌∙◌}
use mathlib.Core.Logic.{⊎_elim}
use Prim.Native.Nat.{ℕ, ◌+◌, ◌-◌, ◌*◌, ◌≤◌, ◌<◌}
use native.Mathlib.Nat.{add-zero}
use native.Mathlib.Omega.{arith}
use lib.ListN.{length}
use Rattle.laws.specs.Lowest.{lowest, lowest_from}
use Rattle.laws.proofs.Tests.{decide}
use Rattle.laws.proofs.Searches.{at_most_end, alike, shifted, none_found}
use Rattle.text.specs.Part.{fits, part}
use Rattle.names.specs.declared.Names.{Names}
use Rattle.names.specs.Names.{range_at, name_at, repeats_by, repeats_at, Lying}
use Rattle.names.proofs.Repeats.{repeats_agree}
use Rattle.rulesheet.specs.declared.code.Fields.{Fields}
use Rattle.rulesheet.specs.declared.code.Fields.TheVariants.{Unknown, Bare, Types, Number, Positive, Limit, Schema, Values, Names as NamesOf, Schemas, Members, Branches, Counted}
use Rattle.rulesheet.specs.declared.form.RuleForm.{RuleForm}
use Rattle.rulesheet.specs.Codes.{entry_range, entry_name}
use Rattle.rulesheet.specs.Sheet.{entry_words, schemas_word, clauses_word, entries_word, text_word, form_of, clause_at, entry_at}
use Rattle.rulesheet.specs.Faults.{parts_max, is_list, is_named, fields_at, repeated}
use Rattle.rulesheet.specs.Read.{RulesFormed, RulesLaid}
use Rattle.rulesheet.proofs.Trailers.{facts, form_c, form_e, entries_end}
use Rattle.rulesheet.proofs.Taking.{list_facts, list_over_lem, entry_taken}
use Rattle.rulesheet.proofs.Walking.{Walked, walk_past, walk_on}
use Rattle.rulesheet.proofs.Repeating.{named_fits}

pub named_list : (fields : Fields) → is_named fields ≡ true → is_list fields ≡ true
named_list Unknown n = cc
named_list Bare n = cc
named_list Types n = cc
named_list Number n = cc
named_list Positive n = cc
named_list Limit n = cc
named_list Schema n = cc
named_list Values n = cc
named_list NamesOf n = refl
named_list Schemas n = cc
named_list Members n = refl
named_list Branches n = cc
named_list Counted n = cc

-- ---- names of entries that stand one after the other, from `first` on

module _ (ws ts : List ℕ) (form : RuleForm) (formed : RulesFormed ws form) (first count : ℕ) (within : first + count ≤ entries_word ws) where
  abbrev lie : Names
  lie = record { base = form.entries + entry_words * first; stride = entry_words; count = count }

  pub lie_range : (i : ℕ) → range_at ws lie i ≡ entry_range (entry_at ws (first + i))
  unfolding entry_at
  lie_range i =
      let s = ap (λ (f : RuleForm). f.entries) formed.same_form in
      let e : form.entries + entry_words * first + entry_words * i ≡ (form_of ws).entries + entry_words * (first + i) + 0 = omega arith in
      let g : form.entries + entry_words * first + entry_words * i + 1 ≡ (form_of ws).entries + entry_words * (first + i) + 1 = omega arith in
      rw (g, e)

  pub lie_name : (i : ℕ) → name_at ws ts lie i ≡ entry_name ts (entry_at ws (first + i))
  lie_name i = ap (part ts) (lie_range i)

  -- the words of the last name are within the sheet
  pub lie_end : form.entries + entry_words * (first + count) ≤ length ws
  lie_end = omega (arith, entries_end ws form formed, form_e ws form formed)

  pub lie_lying : ((i : ℕ) → i < count → fits (length ts) (entry_range (entry_at ws (first + i))) ≡ true) → Lying ws ts lie
  lie_lying fitting =
      record {
        inside = λ (i : ℕ) (l : i < count). omega (arith, lie_end);
        fitting = λ (i : ℕ) (l : i < count). rw (lie_range i) (fitting i l);
        few = omega (arith, (facts ws form formed).few_entries);
      }

  pub lie_repeats : (i : ℕ) → repeats_at ws ts lie i ≡ repeats_by (λ j. entry_name ts (entry_at ws (first + j))) i
  lie_repeats i = repeats_agree (name_at ws ts lie) (λ j. entry_name ts (entry_at ws (first + j))) i (λ j l. lie_name j)

-- the search through clause k
module _ (ws ts : List ℕ) (form : RuleForm) (laid : RulesLaid ws form) (k : ℕ) (h : k < form.c) where
  below : k < clauses_word ws
  below = omega (arith, form_c ws form laid.clauses_laid.schemas_laid.formed)

  module _ (list : is_list (fields_at ws k) ≡ true) where
    ends_within : (clause_at ws k).first + (clause_at ws k).count ≤ entries_word ws
    ends_within = (list_facts ws k (laid.clauses_laid.clauses_fine k h) list).list_within

    repeated_at : (i : ℕ) → i < (clause_at ws k).count
        → repeated ws ts ((clause_at ws k).first + i)
        ≡ (is_named (fields_at ws k) && repeats_by (λ j. entry_name ts (entry_at ws ((clause_at ws k).first + j))) i)
    unfolding repeated
    repeated_at i l =
        let e : ((clause_at ws k).first + i) - (clause_at ws k).first ≡ i = omega arith in
        rw (list_over_lem ws form laid.clauses_laid k ((clause_at ws k).first + i) below list (omega arith) (omega arith), e)

    found_unnamed : is_named (fields_at ws k) ≡ false
        → (clause_at ws k).first + (clause_at ws k).count ≡ lowest_from (repeated ws ts) (clause_at ws k).count (clause_at ws k).first
    found_unnamed none =
        sym (none_found (repeated ws ts) (clause_at ws k).count (clause_at ws k).first no_name)
      where
        no_name : (x : ℕ) → (clause_at ws k).first ≤ x → x < (clause_at ws k).first + (clause_at ws k).count → repeated ws ts x ≡ false
        no_name x low high =
            let e : (clause_at ws k).first + (x - (clause_at ws k).first) ≡ x = omega arith in
            ap (λ (y : ℕ). repeated ws ts y) (sym e) ∙ repeated_at (x - (clause_at ws k).first) (omega arith) ∙ rw none

  pub unnamed_on : is_named (fields_at ws k) ≡ false → Walked ws (repeated ws ts) k → Walked ws (repeated ws ts) (k + 1)
  unnamed_on none w =
      ⊎_elim
      (λ (t : is_list (fields_at ws k) ≡ true).
      walk_on ws form laid.clauses_laid h (clause_at ws k) refl t (repeated ws ts) w ((clause_at ws k).first + (clause_at ws k).count) (found_unnamed t none) (omega arith))
      (λ (t : is_list (fields_at ws k) ≡ false). walk_past ws (repeated ws ts) w t)
      (decide (is_list (fields_at ws k)))

  -- its names among the words, where it has some
  module _ (named : is_named (fields_at ws k) ≡ true) (first count : ℕ) (at_first : first ≡ (clause_at ws k).first) (all : count ≡ (clause_at ws k).count) where
    list : is_list (fields_at ws k) ≡ true
    list = named_list (fields_at ws k) named

    formed : RulesFormed ws form
    formed = laid.clauses_laid.schemas_laid.formed

    within : first + count ≤ entries_word ws
    within = omega (arith, ends_within list)

    abbrev lying : Names
    lying = record { base = form.entries + entry_words * first; stride = entry_words; count = count }

    pub names_end : form.entries + entry_words * (first + count) ≤ length ws
    names_end = lie_end ws ts form formed first count within

    pub names_lie : length ts ≡ text_word ws → Lying ws ts lying
    names_lie text =
        lie_lying ws ts form formed first count within
        (λ (i : ℕ) (l : i < count).
        let ok = entry_taken ws form laid.clauses_laid k (first + i) below list (omega arith) (omega arith) in
        rw text
        (named_fits (fields_at ws k) (text_word ws) (schemas_word ws) (entry_at ws (first + i)) named
        (sym ok ∙ laid.entries_fine (first + i) (omega (arith, form_e ws form formed, within)))))

    pub found_within : (r : ℕ) → r ≡ lowest (repeats_at ws ts lying) count → first + r ≤ parts_max
    found_within r e =
        omega (arith, at_most_end (repeats_at ws ts lying) count 0, ends_within list, (facts ws form laid.clauses_laid.schemas_laid.formed).few_entries)

    pub found_named : (r : ℕ) → r ≡ lowest (repeats_at ws ts lying) count → first + r ≡ lowest_from (repeated ws ts) (clause_at ws k).count (clause_at ws k).first
    found_named r e =
        rw at_first
        (ap (λ (n : ℕ). (clause_at ws k).first + n) (e ∙ rw all (alike (repeats_at ws ts lying) (λ i. repeated ws ts ((clause_at ws k).first + i)) (clause_at ws k).count 0 agree))
        ∙ sym (shifted (repeated ws ts) (clause_at ws k).count (clause_at ws k).first 0)
        ∙ ap (λ (a : ℕ). lowest_from (repeated ws ts) (clause_at ws k).count a) (add-zero (clause_at ws k).first))
      where
        agree : (i : ℕ) → 0 ≤ i → i < 0 + (clause_at ws k).count → repeats_at ws ts lying i ≡ repeated ws ts ((clause_at ws k).first + i)
        agree i low high =
            lie_repeats ws ts form formed first count within i
            ∙ ap (λ (a : ℕ). repeats_by (λ j. entry_name ts (entry_at ws (a + j))) i) at_first
            ∙ sym (repeated_at list i (omega arith) ∙ rw named)
