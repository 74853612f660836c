use native.Mathlib.Omega.{arith}
use mathlib.Core.Path.{◌≡◌, sym, ◌∙◌}
use mathlib.Core.Bool.{not}
use Prim.Native.Nat.{◌+◌}
use Rattle.laws.proofs.Searches.{begun, found, passed, ended}
use Rattle.rulesheet.specs.Sheet.{schemas_word, text_word, entry_at}
use Rattle.rulesheet.specs.Faults.{entry_ok}
use Rattle.rulesheet.proofs.Trailers.{facts, form_m, form_e}
use Rattle.ruleentries.proofs.first_bad_in.Goals as goal

pub loop-x-init : goal.loop-x-init
loop-x-init c = begun _ c.args.list.count c.args.list.first

pub overflow_add-x-end : goal.overflow_add-x-end
overflow_add-x-end c = omega (arith, c.requires.2, (facts c.args.words.now c.args.form c.requires.0).few_entries, form_e c.args.words.now c.args.form c.requires.0)

pub entry_at-requires : goal.entry_at-requires
entry_at-requires c = (c.requires.0, omega (arith, c.requires.2))

pub returns-then-not-entry_ok : goal.returns-then-not-entry_ok
returns-then-not-entry_ok c = (omega arith, sym (c.loop-x.invariant ∙ found (λ i. not (entry_ok c.args.fields (text_word c.args.words.now) (schemas_word c.args.words.now) (entry_at c.args.words.now i))) (c.args.list.first + c.args.list.count) c.loop-x.x (omega arith) (rw (← c.requires.1, ← form_m c.args.words.now c.args.form c.requires.0, ← c.entry_at.ensures, ← c.entry_ok.ensures) c.if-not-entry_ok.true-raw)))

pub loop-x-preserved : goal.loop-x-preserved
loop-x-preserved c = (c.loop-x.invariant ∙ passed (λ i. not (entry_ok c.args.fields (text_word c.args.words.now) (schemas_word c.args.words.now) (entry_at c.args.words.now i))) (c.args.list.first + c.args.list.count) c.loop-x.x (omega arith) (rw (← c.requires.1, ← form_m c.args.words.now c.args.form c.requires.0, ← c.entry_at.ensures, ← c.entry_ok.ensures) c.if-not-entry_ok.false-raw))

pub returns : goal.returns
returns c = let there : c.loop-x.x ≡ c.args.list.first + c.args.list.count = omega (arith, c.requires.2) in sym (c.loop-x.invariant ∙ ended (λ i. not (entry_ok c.args.fields (text_word c.args.words.now) (schemas_word c.args.words.now) (entry_at c.args.words.now i))) (c.args.list.first + c.args.list.count) c.loop-x.x (omega arith) ∙ there)
