use mathlib.Core.Bool.{true}
use mathlib.Core.Path.{◌≡◌, refl, sym, ◌∙◌}
use Prim.Native.Nat.{ℕ, ◌+◌, ◌<◌}
use native.Mathlib.Omega.{arith}
use borrow.Author.Count.{below_more}
use borrow.Author.Tests.{not-true, not-false}
use Rattle.rulesheet.specs.declared.code.Fields.TheVariants.{Names}
use Rattle.sheet.specs.Record.{doc_of}
use Rattle.rulesheet.specs.Codes.{entry_name}
use Rattle.rulesheet.specs.Sheet.{entry_at}
use Rattle.clause.proofs.Requiring.{is_missed, is_found, is_named, entry_lacks, entry_has, no_object, lacks, has_all}
use Rattle.clause.proofs.members.required.Goals as goal

pub returns-then-not-is_kind : goal.returns-then-not-is_kind
returns-then-not-is_kind c =
    no_object (doc_of c.args.«record».now c.args.text.now) c.args.row.0 c.args.rules.now c.args.rule_text.now c.args.list (sym (c.is_kind.ensures c.args.text.now) ∙ not-true _ c.if-not-is_kind.true-raw)

pub has_member-requires-clause-name_fits_members_counted : goal.has_member-requires-clause-name_fits_members_counted
has_member-requires-clause-name_fits_members_counted c = (rw c.requires.rules_read.0.text_length (c.entry_name-name.ensures.name_fits Names refl c.requires.rules_read.1.listed), c.children_of-members.ensures.count_is c.args.text.now)

pub returns-then-not-has_member : goal.returns-then-not-has_member
returns-then-not-has_member c =
    lacks (doc_of c.args.«record».now c.args.text.now) c.args.row.0 c.args.rules.now c.args.rule_text.now c.args.list (sym (c.is_kind.ensures c.args.text.now) ∙ not-false _ c.if-not-is_kind.false-raw) c.loop-i.i (omega arith) (entry_lacks (doc_of c.args.«record».now c.args.text.now) c.args.row.0 c.args.rules.now c.args.rule_text.now c.args.list c.loop-i.i (omega arith) _ c.entry_name-name.ensures _ _ refl (c.children_of-members.ensures.count_is c.args.text.now) (is_missed c.has_member.ensures (not-true _ c.if-not-has_member.true-raw)))

pub loop-i-preserved : goal.loop-i-preserved
loop-i-preserved c =
    below_more (λ (k : ℕ). is_named (doc_of c.args.«record».now c.args.text.now) c.args.row.0 (entry_name c.args.rule_text.now (entry_at c.args.rules.now (c.args.list.first + k))) ≡ true) c.loop-i.i c.loop-i.invariant (entry_has (doc_of c.args.«record».now c.args.text.now) c.args.row.0 c.args.rules.now c.args.rule_text.now c.args.list c.loop-i.i (omega arith) _ c.entry_name-name.ensures _ _ refl (c.children_of-members.ensures.count_is c.args.text.now) (is_found c.has_member.ensures (not-false _ c.if-not-has_member.false-raw)))

pub returns : goal.returns
returns c =
    has_all (doc_of c.args.«record».now c.args.text.now) c.args.row.0 c.args.rules.now c.args.rule_text.now c.args.list (sym (c.is_kind.ensures c.args.text.now) ∙ not-false _ c.if-not-is_kind.false-raw) (λ (i : ℕ) (l : i < c.args.list.count). c.loop-i.invariant i (omega arith))
