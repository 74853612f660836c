use mathlib.Core.Bool.{false}
use mathlib.Core.Path.{◌≡◌, sym}
use Prim.Native.Nat.{ℕ, ◌+◌, ◌<◌}
use native.Mathlib.Omega.{arith}
use borrow.Author.Count.{below_more}
use Rattle.sheet.specs.Doc.{Value}
use Rattle.sheet.specs.Record.{doc_of}
use Rattle.rulesheet.specs.Codes.{entry_value}
use Rattle.rulesheet.specs.Sheet.{entry_at}
use Rattle.meaning.specs.Tests.{equal}
use Rattle.clause.proofs.Equality.{entry_told}
use Rattle.clause.proofs.Listing.{entry_found, entry_nowhere}
use Rattle.clause.proofs.values.enum_holds.Goals as goal

pub returns-then-equals_entry : goal.returns-then-equals_entry
returns-then-equals_entry c =
    sym (entry_found c.args.rules.now c.args.list (λ (v : Value). equal ((doc_of c.args.«record».now c.args.text.now).value c.args.row.0) v) (entry_value c.args.rule_text.now) c.loop-i.i (omega arith) (entry_told ((doc_of c.args.«record».now c.args.text.now).value c.args.row.0) c.args.rules.now c.args.rule_text.now _ _ _ _ c.entry_of-entry.ensures c.equals_entry.ensures c.if-equals_entry.true))

pub loop-i-preserved : goal.loop-i-preserved
loop-i-preserved c =
    below_more (λ (k : ℕ). equal ((doc_of c.args.«record».now c.args.text.now).value c.args.row.0) (entry_value c.args.rule_text.now (entry_at c.args.rules.now (c.args.list.first + k))) ≡ false) c.loop-i.i c.loop-i.invariant (entry_told ((doc_of c.args.«record».now c.args.text.now).value c.args.row.0) c.args.rules.now c.args.rule_text.now _ _ _ _ c.entry_of-entry.ensures c.equals_entry.ensures c.if-equals_entry.false)

pub returns : goal.returns
returns c =
    sym (entry_nowhere c.args.rules.now c.args.list (λ (v : Value). equal ((doc_of c.args.«record».now c.args.text.now).value c.args.row.0) v) (entry_value c.args.rule_text.now) (λ (i : ℕ) (l : i < c.args.list.count). c.loop-i.invariant i (omega arith)))
