use native.Mathlib.Omega.{arith}
use mathlib.Core.Path.{◌≡◌, refl, sym, ◌∙◌}
use Prim.Native.Nat.{◌+◌}
use native.Mathlib.Nat.{sub-zero}
use Rattle.laws.proofs.Searches.{found, passed, ended}
use Rattle.rulesheet.specs.Faults.{schema_start, schema_fault}
use Rattle.rulesheet.proofs.Trailers.{form_m, form_c}
use Rattle.rulelayout.proofs.Schemas.{schema_tested, next_schema}
use Rattle.rulelayout.proofs.first_bad_schema.Goals as goal

pub loop-s-init : goal.loop-s-init
unfolding schema_start
loop-s-init c = (rw sub-zero, refl)

pub schema_at-row-requires : goal.schema_at-row-requires
schema_at-row-requires c = (c.requires, omega arith)

pub overflow_add-end : goal.overflow_add-end
overflow_add-end c = omega (arith, c.wide-first.ensures, c.wide.ensures)

pub returns-then-not-first-start : goal.returns-then-not-first-start
returns-then-not-first-start c = rw (← form_m c.args.words.now c.args.form c.requires) (sym (c.loop-s.invariant.0 ∙ found (schema_fault c.args.words.now) c.args.form.m c.loop-s.s (omega arith) (rw (← schema_tested c.args.words.now c.loop-s.s c.wide-first.result (c.wide-first.result + c.wide.result) c.loop-s.start c.wide-c.result c.schema_at-row.result c.schema_at-row.ensures c.wide-first.ensures (omega (arith, c.wide-first.ensures, c.wide.ensures)) c.loop-s.invariant.1 (c.wide-c.ensures ∙ form_c c.args.words.now c.args.form c.requires)) c.if-not-first-start.true-raw)))

pub loop-s-preserved : goal.loop-s-preserved
loop-s-preserved c = (c.loop-s.invariant.0 ∙ passed (schema_fault c.args.words.now) c.args.form.m c.loop-s.s (omega arith) (rw (← schema_tested c.args.words.now c.loop-s.s c.wide-first.result (c.wide-first.result + c.wide.result) c.loop-s.start c.wide-c.result c.schema_at-row.result c.schema_at-row.ensures c.wide-first.ensures (omega (arith, c.wide-first.ensures, c.wide.ensures)) c.loop-s.invariant.1 (c.wide-c.ensures ∙ form_c c.args.words.now c.args.form c.requires)) c.if-not-first-start.false-raw), next_schema c.args.words.now c.loop-s.s c.wide-first.result (c.wide-first.result + c.wide.result) c.loop-s.start c.wide-c.result c.schema_at-row.result c.schema_at-row.ensures c.wide-first.ensures (omega (arith, c.wide-first.ensures, c.wide.ensures)))

pub returns : goal.returns
returns c = let end : c.loop-s.s ≡ c.args.form.m = omega arith in rw (← form_m c.args.words.now c.args.form c.requires) (sym (c.loop-s.invariant.0 ∙ ended (schema_fault c.args.words.now) c.args.form.m c.loop-s.s (omega arith) ∙ end))
