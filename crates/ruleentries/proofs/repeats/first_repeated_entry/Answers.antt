use mathlib.Core.Path.{◌≡◌, sym, ap, ◌∙◌}
use Prim.Native.Nat.{◌+◌}
use native.Mathlib.Omega.{arith}
use Rattle.laws.proofs.Searches.{ended}
use Rattle.rulesheet.specs.Sheet.{clauses_word, entries_word}
use Rattle.rulesheet.specs.Faults.{is_named, fields_at, list_start, repeated}
use Rattle.rulesheet.proofs.Trailers.{facts, form_c, form_e}
use Rattle.rulesheet.proofs.Walking.{fields_read, told, Walked, walk_begins, list_inside, walk_ends, walk_on}
use Rattle.rulesheet.proofs.Repeating.{all_taken}
use Rattle.ruleentries.proofs.Naming.{named_list, unnamed_on}
use Rattle.ruleentries.proofs.repeats.first_repeated_entry.Goals.{then-is_named+else-again-clause, else-is_named}
use Rattle.ruleentries.proofs.repeats.first_repeated_entry.Goals as goal

pub loop-k-init : goal.loop-k-init
loop-k-init c = (walk_begins c.args.words.now (repeated c.args.words.now c.args.text.now))

pub clause_at-clause-requires : goal.clause_at-clause-requires
clause_at-clause-requires c = (c.requires.0.clauses_laid.schemas_laid.formed, omega arith)

pub first_repeated_in-again-requires : goal.first_repeated_in-again-requires
first_repeated_in-again-requires c =
    let clause = c.clause_at-clause in
    let ws = c.args.words.now in record {
      rules_laid = (c.requires.0, c.requires.1);
      clause_named = (omega arith, told is_named (fields_read ws c.loop-k.k clause.ensures c.shape_of-shape.ensures) c.is_named.ensures c.if-is_named.true);
    }

pub overflow_add-clause : goal.overflow_add-clause
overflow_add-clause c =
    let clause = c.clause_at-clause in
    let ws = c.args.words.now in
    let list = named_list (fields_at ws c.loop-k.k) (told is_named (fields_read ws c.loop-k.k clause.ensures c.shape_of-shape.ensures) c.is_named.ensures c.if-is_named.true) in
    let inside = list_inside ws c.args.form c.requires.0.clauses_laid (omega arith) clause.result clause.ensures list in
    let formed = c.requires.0.clauses_laid.schemas_laid.formed in
    omega (arith, form_e ws c.args.form formed, (facts ws c.args.form formed).few_entries)

pub returns-then-again-clause : goal.returns-then-again-clause
returns-then-again-clause c =
    let clause = c.clause_at-clause in
    let ws = c.args.words.now in
    let list = named_list (fields_at ws c.loop-k.k) (told is_named (fields_read ws c.loop-k.k clause.ensures c.shape_of-shape.ensures) c.is_named.ensures c.if-is_named.true) in
    let again = c.first_repeated_in-again in
    walk_ends ws c.args.form c.requires.0.clauses_laid (omega arith) clause.result clause.ensures list (repeated ws c.args.text.now) c.loop-k.invariant again.result again.ensures c.if-again-clause.true

pub loop-k-preserved : goal.loop-k-preserved
loop-k-preserved c =
    let clause = c.clause_at-clause in
    let ws = c.args.words.now in
    let test = repeated ws c.args.text.now in
    let next : Walked ws test (c.loop-k.k + 1) =
    elim c.if-is_named.branch [
      | then-is_named+else-again-clause w ↦
          let list = named_list (fields_at ws c.loop-k.k) (told is_named (fields_read ws c.loop-k.k clause.ensures c.shape_of-shape.ensures) c.is_named.ensures w.if-is_named.true) in
          let again = w.first_repeated_in-again in
          walk_on ws c.args.form c.requires.0.clauses_laid (omega arith) clause.result clause.ensures list test c.loop-k.invariant again.result again.ensures w.if-again-clause.false
      | else-is_named w ↦
          unnamed_on ws c.args.text.now c.args.form c.requires.0 c.loop-k.k (omega arith) (told is_named (fields_read ws c.loop-k.k clause.ensures c.shape_of-shape.ensures) c.is_named.ensures w.if-is_named.false) c.loop-k.invariant
    ]
    in
    next

pub returns : goal.returns
returns c =
    let ws = c.args.words.now in
    let ts = c.args.text.now in
    let formed = c.requires.0.clauses_laid.schemas_laid.formed in
    let e : c.loop-k.k ≡ clauses_word ws = omega (arith, form_c ws c.args.form formed) in
    let x : list_start ws c.loop-k.k ≡ entries_word ws = ap (list_start ws) e ∙ all_taken ws ts c.args.form c.requires.0 in
    form_e ws c.args.form formed ∙ sym (c.loop-k.invariant.rest ∙ ended (repeated ws ts) (entries_word ws) (list_start ws c.loop-k.k) (omega arith) ∙ x)
