-- `check` meets its contract: the last word leads to the check whose answer is asked. Assumes nothing.
use mathlib.Core.Path.{sym, ◌∙◌}
use native.Mathlib.Omega.{arith}
use Rattle.sheetcheck.proofs.LastWord.{no_words, of_record, of_rules, of_none}
use Rattle.sheetcheck.proofs.check.Goals as goal

pub returns-then-n-eq0 : goal.returns-then-n-eq0
returns-then-n-eq0 c = sym (no_words c.args.words.now c.args.text.now (omega (arith, c.if-n-eq0.true)))

pub returns-then-kind-eq-KIND : goal.returns-then-kind-eq-KIND
returns-then-kind-eq-KIND c = c.check_record.ensures ∙ sym (of_record c.args.words.now c.args.text.now (omega (arith, c.if-n-eq0.false)) c.if-kind-eq-KIND.true)

pub returns-then-kind-eq-KIND-2 : goal.returns-then-kind-eq-KIND-2
returns-then-kind-eq-KIND-2 c = c.check_rules.ensures ∙ sym (of_rules c.args.words.now c.args.text.now (omega (arith, c.if-n-eq0.false)) c.if-kind-eq-KIND-2.true)

pub returns : goal.returns
returns c = sym (of_none c.args.words.now c.args.text.now (omega (arith, c.if-n-eq0.false)) c.if-kind-eq-KIND.false c.if-kind-eq-KIND-2.false)
