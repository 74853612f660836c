-- The text that an entry names, as the code reads it, and whether it is UTF-8.
--     no_string, a_string      the string of an entry of an enum
--     no_text, a_name, other_text    the text of an entry, by the fields of its list
--     entry_within, entry_is   an entry of clause k: its text lies within the rule text, and settles whether it is at fault
--     Searched                 the search through the entries of a clause
--     all_fine                 where every range of the text is UTF-8
-- Assumes nothing.
use mathlib.Core.Bool.{true, false, not}
use mathlib.Core.List.{List, []}
use mathlib.Core.Path.{◌≡◌, refl, sym, ap, subst, ◌∙◌}
use Prim.Native.Nat.{ℕ, ◌+◌, ◌≤◌, ◌<◌}
use native.Mathlib.Omega.{arith}
use lib.Dec.{eqb, ltb}
use lib.ListN.{length}
use Rattle.laws.specs.Lowest.{lowest_from}
use Rattle.laws.proofs.Tests.{left, right}
use Rattle.laws.proofs.Searches.{left as remains, begun, found, passed, ended}
use Rattle.text.specs.declared.Range.{Range}
use Rattle.text.specs.Part.{fits, part}
use Rattle.text.proofs.Ranges.{le_fits}
use Rattle.utf8.specs.Automaton.{is_utf8}
use Rattle.reach.specs.Reach.{AllUtf8}
use Rattle.sheet.specs.declared.kind.RowKind.{RowKind}
use Rattle.sheet.specs.declared.kind.RowKind.TheVariants.{Null, False, True, Number as ANumber, String, Array, Object}
use Rattle.sheet.specs.Kinds.{kind_number, kind_of, is_kind}
use Rattle.sheet.specs.Doc.{string_bytes}
use Rattle.sheet.specs.Faults.{scalar_ok}
use Rattle.sheet.proofs.Readable as sheets
use Rattle.rulesheet.specs.declared.code.Fields.{Fields}
use Rattle.rulesheet.specs.declared.code.Fields.TheVariants.{Unknown, Bare, Types, Number, Positive, Limit, Schema, Values, Names, Schemas, Members, Branches, Counted}
use Rattle.rulesheet.specs.declared.form.RuleForm.{RuleForm}
use Rattle.rulesheet.specs.declared.form.ClauseRow.{ClauseRow}
use Rattle.rulesheet.specs.declared.form.EntryRow.{EntryRow}
use Rattle.rulesheet.specs.Codes.{entry_range}
use Rattle.rulesheet.specs.Sheet.{schemas_word, clauses_word, entries_word, text_word, clause_at, entry_at}
use Rattle.rulesheet.specs.Faults.{is_list, fields_at, entry_ok, entry_text, list_over, entry_fine, not_utf8}
use Rattle.rulesheet.specs.Read.{RulesLaid}
use Rattle.rulesheet.proofs.Trailers.{form_c, form_e}
use Rattle.rulesheet.proofs.Taking.{list_facts, list_over_lem, entry_taken}
use Rattle.ruletexts.specs.Ranges.{StringRange, TextRange}

abbrev pub nothing : Range
nothing = record { start = 0; length = 0 }

pub empty : (ts : List ℕ) → part ts nothing ≡ []
unfolding part
empty ts = refl

pub within : (size : ℕ) → fits size nothing ≡ true
within size = le_fits size nothing (omega arith)

-- ---- the string of an entry of an enum

pub no_string : (entry : EntryRow) → (kind_number (kind_of entry.first) ≡ kind_number String → ⊥) → StringRange entry nothing
no_string entry n =
    record {
      is = λ (ts : List ℕ). empty ts ∙ sym (sheets.no_string ts entry.second entry.third (kind_of entry.first) n);
      lies = λ size ok. within size;
    }

lying : (kind : RowKind) (size first count : ℕ) → kind_number kind ≡ kind_number String → scalar_ok kind size first count ≡ true
    → fits size (record { start = first; length = count }) ≡ true
lying Null size first count e t = sheets.other 0 4 refl e
lying False size first count e t = sheets.other 1 4 refl e
lying True size first count e t = sheets.other 2 4 refl e
lying ANumber size first count e t = sheets.other 3 4 refl e
lying String size first count e t = t
lying Array size first count e t = sheets.other 5 4 refl e
lying Object size first count e t = sheets.other 6 4 refl e

pub a_string : (entry : EntryRow) → kind_number (kind_of entry.first) ≡ kind_number String → StringRange entry (record { start = entry.second; length = entry.third })
a_string entry s =
    record {
      is = λ (ts : List ℕ). sym (ap string_bytes (sheets.string_kind ts entry.second entry.third (kind_of entry.first) s));
      lies = λ (size : ℕ) ok. lying (kind_of entry.first) size entry.second entry.third s ok;
    }

-- ---- the text of an entry

pub no_text : (fields : Fields) (entry : EntryRow) → ((ts : List ℕ) → entry_text fields ts entry ≡ []) → TextRange fields entry nothing
no_text fields entry none = record { is = λ ts. empty ts ∙ sym (none ts); lies = λ size m ok. within size }

pub a_name : (entry : EntryRow) → TextRange Names entry (entry_range entry)
a_name entry = record { is = λ ts. refl; lies = λ size m ok. left (fits size (entry_range entry)) (eqb entry.third 0) ok }

pub a_member : (entry : EntryRow) → TextRange Members entry (entry_range entry)
a_member entry = record { is = λ ts. refl; lies = λ size m ok. left (fits size (entry_range entry)) (ltb entry.third m) ok }

pub a_value : (entry : EntryRow) (r : Range) → StringRange entry r → TextRange Values entry r
a_value entry r s =
    record {
      is = s.is;
      lies = λ size m ok. s.lies size (right (is_kind entry.first) (scalar_ok (kind_of entry.first) size entry.second entry.third) ok);
    }

-- an entry of a list of other fields names no text
pub other_text : (fields : Fields) (entry : EntryRow) → (fields ≡ Values → ⊥) → (fields ≡ Names → ⊥) → (fields ≡ Members → ⊥) → TextRange fields entry nothing
other_text Unknown entry v n m = no_text Unknown entry (λ ts. refl)
other_text Bare entry v n m = no_text Bare entry (λ ts. refl)
other_text Types entry v n m = no_text Types entry (λ ts. refl)
other_text Number entry v n m = no_text Number entry (λ ts. refl)
other_text Positive entry v n m = no_text Positive entry (λ ts. refl)
other_text Limit entry v n m = no_text Limit entry (λ ts. refl)
other_text Schema entry v n m = no_text Schema entry (λ ts. refl)
other_text Values entry v n m = absurd (v refl)
other_text Names entry v n m = absurd (n refl)
other_text Schemas entry v n m = no_text Schemas entry (λ ts. refl)
other_text Members entry v n m = absurd (m refl)
other_text Branches entry v n m = no_text Branches entry (λ ts. refl)
other_text Counted entry v n m = no_text Counted entry (λ ts. refl)

-- the text that an entry of any fields names, as a range
pub range_of : (fields : Fields) (entry : EntryRow) → (r : Range) × TextRange fields entry r
range_of Unknown entry = (nothing, no_text Unknown entry (λ ts. refl))
range_of Bare entry = (nothing, no_text Bare entry (λ ts. refl))
range_of Types entry = (nothing, no_text Types entry (λ ts. refl))
range_of Number entry = (nothing, no_text Number entry (λ ts. refl))
range_of Positive entry = (nothing, no_text Positive entry (λ ts. refl))
range_of Limit entry = (nothing, no_text Limit entry (λ ts. refl))
range_of Schema entry = (nothing, no_text Schema entry (λ ts. refl))
range_of Values entry = string_of (kind_of entry.first) refl
  where
    string_of : (kind : RowKind) → kind ≡ kind_of entry.first → (r : Range) × TextRange Values entry r
    string_of Null e = (nothing, a_value entry nothing (no_string entry (λ s. sheets.other 0 4 refl (ap kind_number e ∙ s))))
    string_of False e = (nothing, a_value entry nothing (no_string entry (λ s. sheets.other 1 4 refl (ap kind_number e ∙ s))))
    string_of True e = (nothing, a_value entry nothing (no_string entry (λ s. sheets.other 2 4 refl (ap kind_number e ∙ s))))
    string_of ANumber e = (nothing, a_value entry nothing (no_string entry (λ s. sheets.other 3 4 refl (ap kind_number e ∙ s))))
    string_of String e = (record { start = entry.second; length = entry.third }, a_value entry _ (a_string entry (sym (ap kind_number e))))
    string_of Array e = (nothing, a_value entry nothing (no_string entry (λ s. sheets.other 5 4 refl (ap kind_number e ∙ s))))
    string_of Object e = (nothing, a_value entry nothing (no_string entry (λ s. sheets.other 6 4 refl (ap kind_number e ∙ s))))
range_of Names entry = (entry_range entry, a_name entry)
range_of Schemas entry = (nothing, no_text Schemas entry (λ ts. refl))
range_of Members entry = (entry_range entry, a_member entry)
range_of Branches entry = (nothing, no_text Branches entry (λ ts. refl))
range_of Counted entry = (nothing, no_text Counted entry (λ ts. refl))

-- ---- an entry of clause k

module _ (ws ts : List ℕ) (form : RuleForm) (laid : RulesLaid ws form) (long : length ts ≡ text_word ws) (k : ℕ) (h : k < form.c) (list : is_list (fields_at ws k) ≡ true) where
  below : k < clauses_word ws
  below = omega (arith, form_c ws form laid.clauses_laid.schemas_laid.formed)

  ends_within : (clause_at ws k).first + (clause_at ws k).count ≤ entries_word ws
  ends_within = (list_facts ws k (laid.clauses_laid.clauses_fine k h) list).list_within

  module _ (x : ℕ) (low : (clause_at ws k).first ≤ x) (high : x < (clause_at ws k).first + (clause_at ws k).count) (r : Range) (t : TextRange (fields_at ws k) (entry_at ws x) r) where
    pub entry_within : fits (length ts) r ≡ true
    entry_within =
        rw long
        (t.lies (text_word ws) (schemas_word ws)
        (sym (entry_taken ws form laid.clauses_laid k x below list low high)
        ∙ laid.entries_fine x (omega (arith, form_e ws form laid.clauses_laid.schemas_laid.formed, ends_within))))

    pub entry_is : not_utf8 ws ts x ≡ not (is_utf8 (part ts r))
    unfolding not_utf8
    entry_is = rw (list_over_lem ws form laid.clauses_laid k x below list low high) (ap (λ (b : List ℕ). not (is_utf8 b)) (sym (t.is ts)))

-- the same, by the fields and the entry that were read
pub read_as : {f g : Fields} {entry e : EntryRow} {r : Range} → f ≡ g → entry ≡ e → TextRange f entry r → TextRange g e r
read_as {g = g} {entry = entry} {r = r} p q t = subst (λ (x : EntryRow). TextRange g x r) q (subst (λ (h : Fields). TextRange h entry r) p t)

-- ---- the search through the entries of clause k, up to x

pub record Searched (ws ts : List ℕ) (k x : ℕ) : Type 0 where
  pub low : (clause_at ws k).first ≤ x
  pub rest : lowest_from (not_utf8 ws ts) (clause_at ws k).count (clause_at ws k).first ≡ remains (not_utf8 ws ts) ((clause_at ws k).first + (clause_at ws k).count) x

module _ (ws ts : List ℕ) (k : ℕ) where
  abbrev end : ℕ
  end = (clause_at ws k).first + (clause_at ws k).count

  pub search_begins : (clause : ClauseRow) → clause ≡ clause_at ws k → Searched ws ts k clause.first
  search_begins clause read = rw read (record { low = omega arith; rest = begun (not_utf8 ws ts) (clause_at ws k).count (clause_at ws k).first })

  module _ {x : ℕ} (s : Searched ws ts k x) where
    pub search_stops : x < end → not_utf8 ws ts x ≡ true → x ≡ lowest_from (not_utf8 ws ts) (clause_at ws k).count (clause_at ws k).first
    search_stops h t = sym (s.rest ∙ found (not_utf8 ws ts) end x h t)

    pub search_on : x < end → not_utf8 ws ts x ≡ false → Searched ws ts k (x + 1)
    search_on h t = record { low = omega (arith, s.low); rest = s.rest ∙ passed (not_utf8 ws ts) end x h t }

    pub search_ends : end ≤ x → x ≡ lowest_from (not_utf8 ws ts) (clause_at ws k).count (clause_at ws k).first
    search_ends h = sym (s.rest ∙ ended (not_utf8 ws ts) end x h)

entry_ok_lem : (ws : List ℕ) (x : ℕ) → entry_fine ws x ≡ true → entry_ok (fields_at ws (list_over ws x)) (text_word ws) (schemas_word ws) (entry_at ws x) ≡ true
unfolding entry_fine
entry_ok_lem ws x t =
    right (ltb (list_over ws x) (clauses_word ws)) (entry_ok (fields_at ws (list_over ws x)) (text_word ws) (schemas_word ws) (entry_at ws x)) t

module _ (ws ts : List ℕ) (form : RuleForm) (laid : RulesLaid ws form) (long : length ts ≡ text_word ws) (a : AllUtf8 ts) where
  pub all_fine : (x : ℕ) → x < form.e → not_utf8 ws ts x ≡ false
  unfolding not_utf8
  all_fine x h =
      let r = range_of (fields_at ws (list_over ws x)) (entry_at ws x) in
      let ok = entry_ok_lem ws x (laid.entries_fine x h) in
      ap (λ (b : List ℕ). not (is_utf8 b)) (sym (r.1.is ts)) ∙ ap not (a.each r.0 (rw long (r.1.lies (text_word ws) (schemas_word ws) ok)))
