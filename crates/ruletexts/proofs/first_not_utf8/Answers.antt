-- `first_not_utf8` meets its contract: where every range is UTF-8 no entry is at fault, and an empty table tells nothing. Assumes nothing.
use mathlib.Core.Path.{sym, ◌∙◌}
use Prim.Native.Nat.{ℕ, ◌+◌, ◌≤◌, ◌<◌}
use native.Mathlib.Omega.{arith}
use Rattle.reach.proofs.Reaching.{blank}
use Rattle.laws.proofs.Searches.{none_found}
use Rattle.rulesheet.specs.Sheet.{entries_word}
use Rattle.rulesheet.specs.Faults.{not_utf8}
use Rattle.rulesheet.proofs.Trailers.{form_e}
use Rattle.ruletexts.proofs.Readable.{all_fine}
use Rattle.ruletexts.proofs.first_not_utf8.Goals as goal

pub is_ascii-requires : goal.is_ascii-requires
is_ascii-requires c = c.requires.2

pub returns-then-is_ascii : goal.returns-then-is_ascii
returns-then-is_ascii c = form_e c.args.words.now c.args.form c.requires.0.clauses_laid.schemas_laid.formed ∙ sym (none_found (not_utf8 c.args.words.now c.args.text.now) (entries_word c.args.words.now) 0 (λ (x : ℕ) (l : 0 ≤ x) (h : x < 0 + entries_word c.args.words.now). all_fine c.args.words.now c.args.text.now c.args.form c.requires.0 c.requires.1 (c.is_ascii.ensures c.if-is_ascii.true) x (omega (arith, form_e c.args.words.now c.args.form c.requires.0.clauses_laid.schemas_laid.formed))) ∙ omega arith)

pub know-whole-requires : goal.know-whole-requires
know-whole-requires c = blank c.args.text.now c.requires.2

pub first_by-requires : goal.first_by-requires
first_by-requires c = (c.requires.0, c.requires.1, c.know-whole.ensures)

pub returns : goal.returns
returns c = c.first_by.ensures
