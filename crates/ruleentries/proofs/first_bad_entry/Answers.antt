use mathlib.Core.Bool.{not}
use mathlib.Core.Path.{◌≡◌, refl, sym, ap, ◌∙◌}
use Prim.Native.Nat.{◌+◌}
use native.Mathlib.Omega.{arith}
use Rattle.laws.proofs.Searches.{stops}
use Rattle.rulesheet.specs.declared.form.ClauseRow.{ClauseRow}
use Rattle.rulesheet.specs.Sheet.{clauses_word, entries_word}
use Rattle.rulesheet.specs.Faults.{is_list, list_start, entry_fault}
use Rattle.rulesheet.proofs.Trailers.{facts, form_c, form_e}
use Rattle.rulesheet.proofs.Taking.{after_list, after_other, entries_asked, entry_untaken}
use Rattle.rulesheet.proofs.Walking.{fields_read, told, Walked, walk_begins, walk_past, list_inside, walk_ends, walk_on}
use Rattle.ruleentries.proofs.first_bad_entry.Goals.{then-is_list+in_default, else-is_list}
use Rattle.ruleentries.proofs.first_bad_entry.Goals as goal

pub loop-k-init : goal.loop-k-init
unfolding list_start
loop-k-init c = (refl, walk_begins c.args.words.now (entry_fault c.args.words.now))

pub clause_at-clause-requires : goal.clause_at-clause-requires
clause_at-clause-requires c = (c.requires.0.schemas_laid.formed, omega arith)

pub overflow_add-x : goal.overflow_add-x
overflow_add-x c =
    let clause = c.clause_at-clause in
    let ws = c.args.words.now in
    let formed = c.requires.0.schemas_laid.formed in
    let inside = list_inside ws c.args.form c.requires.0 (omega arith) clause.result clause.ensures (told is_list (fields_read ws c.loop-k.k clause.ensures c.shape_of-shape.ensures) c.is_list.ensures c.if-is_list.true) in
    omega (arith, form_e ws c.args.form formed, (facts ws c.args.form formed).few_entries)

pub first_bad_in-requires : goal.first_bad_in-requires
first_bad_in-requires c =
    let clause = c.clause_at-clause in
    let ws = c.args.words.now in
    (c.requires.0.schemas_laid.formed, c.requires.1, list_inside ws c.args.form c.requires.0 (omega arith) clause.result clause.ensures (told is_list (fields_read ws c.loop-k.k clause.ensures c.shape_of-shape.ensures) c.is_list.ensures c.if-is_list.true))

pub returns-in-Some : goal.returns-in-Some
returns-in-Some c =
    let clause = c.clause_at-clause in
    let ws = c.args.words.now in
    let list = told is_list (fields_read ws c.loop-k.k clause.ensures c.shape_of-shape.ensures) c.is_list.ensures c.if-is_list.true in
    let bad = c.in-Some in
    walk_ends ws c.args.form c.requires.0 (omega arith) clause.result clause.ensures list (entry_fault ws) c.loop-k.invariant.1 bad.bad
    (entries_asked ws c.args.form c.requires.0 c.loop-k.k bad.bad clause.result c.shape_of-shape.result.fields (omega arith) list clause.ensures (fields_read ws c.loop-k.k clause.ensures c.shape_of-shape.ensures) bad.ensures.1)
    bad.ensures.0

pub loop-k-preserved : goal.loop-k-preserved
loop-k-preserved c =
    let clause = c.clause_at-clause in
    let ws = c.args.words.now in
    let k = c.loop-k.k in
    let same = fields_read ws k clause.ensures c.shape_of-shape.ensures in
    let both : (c.if-is_list.x ≡ list_start ws (k + 1)) × Walked ws (entry_fault ws) (k + 1) =
    elim c.if-is_list.branch [
      | then-is_list+in_default w ↦
          let list = told is_list same c.is_list.ensures w.if-is_list.true in
          let end = clause.result.first + clause.result.count in (
            w.x-is ∙ sym (after_list ws k list ∙ ap (λ (x : ClauseRow). x.first + x.count) (sym clause.ensures)),
            walk_on ws c.args.form c.requires.0 (omega arith) clause.result clause.ensures list (entry_fault ws) c.loop-k.invariant.1 end
                (entries_asked ws c.args.form c.requires.0 k end clause.result c.shape_of-shape.result.fields (omega arith) list clause.ensures same w.in_default.ensures)
                (omega arith),
          )
      | else-is_list w ↦
          let other = told is_list same c.is_list.ensures w.if-is_list.false in
          (w.x-is ∙ c.loop-k.invariant.0 ∙ sym (after_other ws k other), walk_past ws (entry_fault ws) c.loop-k.invariant.1 other)
    ]
    in
    both

pub returns : goal.returns
returns c =
    let ws = c.args.words.now in
    let e : c.loop-k.k ≡ clauses_word ws = omega (arith, form_c ws c.args.form c.requires.0.schemas_laid.formed) in
    sym (c.loop-k.invariant.1.rest
    ∙ rw (← c.loop-k.invariant.0)
    (stops (entry_fault ws) (entries_word ws) c.loop-k.x
    (λ h. ap not (entry_untaken ws c.args.form c.requires.0 c.loop-k.x (omega (arith, c.loop-k.invariant.0 ∙ ap (list_start ws) e))))))
