use mathlib.Core.Bool.{Bool, true, false}
use mathlib.Core.List.{List}
use mathlib.Core.Path.{◌≡◌, refl, sym, ◌∙◌}
use Prim.Native.Nat.{ℕ, ◌+◌, ◌<◌}
use native.Mathlib.Omega.{arith}
use lib.ListN.{length}
use borrow.Author.Count.{below_more}
use borrow.Author.Rules.{rules}
use Rattle.text.specs.declared.Range.{Range}
use Rattle.text.specs.Part.{fits, part, same_bytes}
use Rattle.sheet.specs.Record.{doc_of}
use Rattle.sheet.specs.Accepted.{NameRead}
use Rattle.rulesheet.specs.declared.clause.Entries.{Entries}
use Rattle.rulesheet.specs.declared.code.Fields.TheVariants.{Members}
use Rattle.rulesheet.specs.Clauses.{EntryNameRead}
use Rattle.rulesheet.specs.Codes.{entry_name}
use Rattle.rulesheet.specs.Sheet.{entry_at}
use Rattle.meaning.specs.Rules.{called}
use Rattle.looking.proofs.Naming.{compared}
use Rattle.told.proofs.Earlier.{entry_same, entry_names, none_names}
use Rattle.told.proofs.named_in.Goals as goal

-- the bytes of the row's name were compared with those of entry i
named : (ws ts rs us : List ℕ) (list : Entries) (j i : ℕ) (own name : Range) (r : Bool) → NameRead ws j own → i < list.count → EntryNameRead rs list i name
    → r ≡ same_bytes (part ts own) (part us name) → r ≡ called (doc_of ws ts) (entry_name us (entry_at rs (list.first + i))) j
named ws ts rs us list j i own name r row low read is = compared row ts _ _ (entry_same read us _ _ low is)

pub names-requires-asks-same_part-requires : goal.names-requires-asks-same_part-requires
names-requires-asks-same_part-requires c =
    let own : fits (length c.args.text.now) c.name_of-own.result ≡ true = rw c.requires.record_read.0.text_length c.name_of-own.ensures.name_fits in
    let listed : (name : Range) → EntryNameRead c.args.rules.now c.args.list c.args.hint name → fits (length c.args.rule_text.now) name ≡ true =
    λ name read. rw c.requires.rules_read.0.text_length (read.name_fits Members refl c.requires.rules_read.1.listed) in
    search rules

pub names-requires-in-loop-i-asks-same_part-requires : goal.names-requires-in-loop-i-asks-same_part-requires
names-requires-in-loop-i-asks-same_part-requires c =
    let own : fits (length c.args.text.now) c.name_of-own.result ≡ true = rw c.requires.record_read.0.text_length c.name_of-own.ensures.name_fits in
    let listed : (name : Range) → EntryNameRead c.args.rules.now c.args.list c.loop-i.i name → fits (length c.args.rule_text.now) name ≡ true =
    λ name read. rw c.requires.rules_read.0.text_length (read.name_fits Members refl c.requires.rules_read.1.listed) in
    search rules

pub returns-then-names : goal.returns-then-names
returns-then-names c =
    let here : c.names.result ≡ called (doc_of c.args.«record».now c.args.text.now) (entry_name c.args.rule_text.now (entry_at c.args.rules.now (c.args.list.first + c.args.hint))) c.args.row.0 = search (rules, named) in
    sym (entry_names (doc_of c.args.«record».now c.args.text.now) c.args.row.0 c.args.rules.now c.args.rule_text.now c.args.list c.args.hint (omega arith) (sym here ∙ c.if-names.true))

pub returns-then-names-2 : goal.returns-then-names-2
returns-then-names-2 c =
    let here : c.names-in-loop-i.result ≡ called (doc_of c.args.«record».now c.args.text.now) (entry_name c.args.rule_text.now (entry_at c.args.rules.now (c.args.list.first + c.loop-i.i))) c.args.row.0 = search (rules, named) in
    sym (entry_names (doc_of c.args.«record».now c.args.text.now) c.args.row.0 c.args.rules.now c.args.rule_text.now c.args.list c.loop-i.i (omega arith) (sym here ∙ c.if-names-2.true))

pub loop-i-preserved : goal.loop-i-preserved
loop-i-preserved c =
    let here : c.names-in-loop-i.result ≡ called (doc_of c.args.«record».now c.args.text.now) (entry_name c.args.rule_text.now (entry_at c.args.rules.now (c.args.list.first + c.loop-i.i))) c.args.row.0 = search (rules, named) in
    below_more (λ (k : ℕ). called (doc_of c.args.«record».now c.args.text.now) (entry_name c.args.rule_text.now (entry_at c.args.rules.now (c.args.list.first + k))) c.args.row.0 ≡ false) c.loop-i.i c.loop-i.invariant (sym here ∙ c.if-names-2.false)

pub returns : goal.returns
returns c =
    sym (none_names (doc_of c.args.«record».now c.args.text.now) c.args.row.0 c.args.rules.now c.args.rule_text.now c.args.list (λ (k : ℕ) (l : k < c.args.list.count). c.loop-i.invariant k (omega arith)))
