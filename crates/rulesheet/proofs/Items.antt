-- Items of the lists that a clause's entries and a schema's clauses make.
--     schemas_long, values_long, names_long, members_long    each list of a clause is as long as its count says
--     schema_item, value_item, name_item, member_item        its item i is made of entry i
--     name_read                                              and its range is the one that is read as its name
--     clauses_long, clause_item                              a schema's clauses are as many as its row says, from its first on
-- Assumes nothing.
use mathlib.Core.List.{List, [], map}
use mathlib.Core.Path.{◌≡◌, sym, ap, ◌∙◌}
use Prim.Native.Nat.{ℕ, ◌+◌, ◌<◌}
use lib.ListN.{length, get_or, length-map}
use borrow.Author.Tests.{lt-ltb}
use Rattle.sheet.specs.Doc.{Value}
use Rattle.rulesheet.specs.declared.form.EntryRow.{EntryRow}
use Rattle.rulesheet.specs.declared.clause.Entries.{Entries}
use Rattle.rulesheet.specs.Ruleset.{Clause}
use Rattle.rulesheet.specs.Codes.{entry_value, entry_range, entry_name, entry_member}
use Rattle.rulesheet.specs.Sheet.{schemas_word, text_word, schema_at, entry_at, run, clause_of, rules_of}
use Rattle.rulesheet.specs.Clauses.{entries_of, schemas_in, values_in, names_in, members_in, EntryNameRead}
use Rattle.rulesheet.proofs.Reaching.{run_long, made_at, item_is}
use Rattle.rulesheet.proofs.Repeating.{named_fits}

-- ---- the entries of a list clause

module _ (ws : List ℕ) (es : Entries) where
  entries_long : {B : Type 0} (make : EntryRow → B) → length (map make (entries_of ws es)) ≡ es.count
  entries_long make = simp (length-map, run_long)

  pub schemas_long : length (schemas_in ws es) ≡ es.count
  schemas_long = entries_long (λ (e : EntryRow). e.first)

  pub values_long : (ts : List ℕ) → length (values_in ws ts es) ≡ es.count
  values_long ts = entries_long (entry_value ts)

  pub names_long : (ts : List ℕ) → length (names_in ws ts es) ≡ es.count
  names_long ts = entries_long (entry_name ts)

  pub members_long : (ts : List ℕ) → length (members_in ws ts es) ≡ es.count
  members_long ts = entries_long (entry_member ts)

  -- entry i, as it was read
  module _ (i : ℕ) (h : i < es.count) (e : EntryRow) (read : e ≡ entry_at ws (es.first + i)) where
    entry_item : {B : Type 0} (make : EntryRow → B) (d : B) → make e ≡ get_or (map make (entries_of ws es)) i d
    entry_item make d = ap make read ∙ sym (item_is ws make es.count es.first i d h)

    pub schema_item : (d : ℕ) → e.first ≡ get_or (schemas_in ws es) i d
    schema_item = entry_item (λ (x : EntryRow). x.first)

    pub value_item : (ts : List ℕ) (d : Value) → entry_value ts e ≡ get_or (values_in ws ts es) i d
    value_item ts = entry_item (entry_value ts)

    pub name_item : (ts : List ℕ) (d : List ℕ) → entry_name ts e ≡ get_or (names_in ws ts es) i d
    name_item ts = entry_item (entry_name ts)

    pub member_item : (ts : List ℕ) (d : List ℕ × ℕ) → entry_member ts e ≡ get_or (members_in ws ts es) i d
    member_item ts = entry_item (entry_member ts)

    pub name_read : EntryNameRead ws es i (entry_range e)
    name_read =
        record {
          name_is = λ ts. name_item ts [];
          member_is = λ ts. ap (λ (m : List ℕ × ℕ). m.0) (member_item ts ([], 0));
          name_fits = λ fields named ok. rw read (named_fits fields (text_word ws) (schemas_word ws) (entry_at ws (es.first + i)) named (ok i h));
        }

-- ---- the clauses of a schema

module _ (ws ts : List ℕ) (s : ℕ) (h : s < schemas_word ws) where
  clauses_are : (rules_of ws ts).clauses s ≡ map (clause_of ws ts) (run (schema_at ws s).count (schema_at ws s).first)
  unfolding rules_of
  clauses_are = rw (lt-ltb s (schemas_word ws) h)

  pub clauses_long : length ((rules_of ws ts).clauses s) ≡ (schema_at ws s).count
  clauses_long = ap length clauses_are ∙ simp (length-map, run_long)

  pub clause_item : (i : ℕ) (d : Clause) → i < (schema_at ws s).count → get_or ((rules_of ws ts).clauses s) i d ≡ clause_of ws ts ((schema_at ws s).first + i)
  clause_item i d l =
      ap (λ (cs : List Clause). get_or cs i d) clauses_are ∙ made_at (clause_of ws ts) (schema_at ws s).count (schema_at ws s).first i d l
