use mathlib.Core.Path.{◌≡◌, sym, ap, ◌∙◌}
use Prim.Native.Nat.{◌+◌}
use native.Mathlib.Omega.{arith}
use Rattle.laws.proofs.Searches.{ended}
use Rattle.rulesheet.specs.Sheet.{clauses_word, entries_word, clause_at}
use Rattle.rulesheet.specs.Faults.{is_list, list_start, not_utf8}
use Rattle.rulesheet.specs.declared.form.ClauseRow.{ClauseRow}
use Rattle.rulesheet.proofs.Trailers.{form_c, form_e}
use Rattle.rulesheet.proofs.Walking.{fields_read, told, Walked, walk_begins, walk_past, walk_ends, walk_on}
use Rattle.rulesheet.proofs.Repeating.{all_taken}
use Rattle.ruletexts.proofs.first_by.Goals.{then-is_list+in_default, else-is_list}
use Rattle.ruletexts.proofs.first_by.Goals as goal

pub loop-k-init : goal.loop-k-init
loop-k-init c = walk_begins c.args.words.now (not_utf8 c.args.words.now c.args.text.now)

pub clause_at-clause-requires : goal.clause_at-clause-requires
clause_at-clause-requires c = (c.requires.0.clauses_laid.schemas_laid.formed, omega arith)

pub first_in-requires : goal.first_in-requires
first_in-requires c = record {
  rules_laid = (c.requires.0, c.requires.1, c.requires.2);
  clause_listed = (omega arith, (told is_list (fields_read c.args.words.now c.loop-k.k c.clause_at-clause.ensures c.shape_of-shape.ensures) c.is_list.ensures c.if-is_list.true));
}

pub returns-in-Some : goal.returns-in-Some
returns-in-Some c = walk_ends c.args.words.now c.args.form c.requires.0.clauses_laid (omega arith) c.clause_at-clause.result c.clause_at-clause.ensures (told is_list (fields_read c.args.words.now c.loop-k.k c.clause_at-clause.ensures c.shape_of-shape.ensures) c.is_list.ensures c.if-is_list.true) (not_utf8 c.args.words.now c.args.text.now) c.loop-k.invariant c.in-Some.bad c.in-Some.ensures.1 (omega (arith, c.in-Some.ensures.0, ap (λ (r : ClauseRow). r.first) c.clause_at-clause.ensures, ap (λ (r : ClauseRow). r.count) c.clause_at-clause.ensures))

pub loop-k-preserved : goal.loop-k-preserved
loop-k-preserved c = let next : Walked c.args.words.now (not_utf8 c.args.words.now c.args.text.now) (c.loop-k.k + 1) =
    elim c.if-is_list.branch [
      | then-is_list+in_default w ↦
          walk_on c.args.words.now c.args.form c.requires.0.clauses_laid (omega arith) c.clause_at-clause.result c.clause_at-clause.ensures (told is_list (fields_read c.args.words.now c.loop-k.k c.clause_at-clause.ensures c.shape_of-shape.ensures) c.is_list.ensures w.if-is_list.true) (not_utf8 c.args.words.now c.args.text.now) c.loop-k.invariant ((clause_at c.args.words.now c.loop-k.k).first + (clause_at c.args.words.now c.loop-k.k).count) w.in_default.ensures (omega (arith, ap (λ (r : ClauseRow). r.first) c.clause_at-clause.ensures, ap (λ (r : ClauseRow). r.count) c.clause_at-clause.ensures))
      | else-is_list w ↦
          walk_past c.args.words.now (not_utf8 c.args.words.now c.args.text.now) c.loop-k.invariant (told is_list (fields_read c.args.words.now c.loop-k.k c.clause_at-clause.ensures c.shape_of-shape.ensures) c.is_list.ensures w.if-is_list.false)
    ]
    in
    next

pub returns : goal.returns
returns c = let e : c.loop-k.k ≡ clauses_word c.args.words.now = omega (arith, form_c c.args.words.now c.args.form c.requires.0.clauses_laid.schemas_laid.formed) in
    let x : list_start c.args.words.now c.loop-k.k ≡ entries_word c.args.words.now = ap (list_start c.args.words.now) e ∙ all_taken c.args.words.now c.args.text.now c.args.form c.requires.0 in
    form_e c.args.words.now c.args.form c.requires.0.clauses_laid.schemas_laid.formed ∙ sym (c.loop-k.invariant.rest ∙ ended (not_utf8 c.args.words.now c.args.text.now) (entries_word c.args.words.now) (list_start c.args.words.now c.loop-k.k) (omega arith) ∙ x)
