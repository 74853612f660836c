use mathlib.Core.Bool.{true, false}
use mathlib.Core.Path.{◌≡◌}
use native.Mathlib.Omega.{arith}
use Rattle.sheet.specs.Record.{doc_of}
use Rattle.told.proofs.Earlier.{clauses_few, unnamed_from, unnamed_more, named_here_lem, unnamed_is}
use Rattle.told.proofs.unnamed_in.Goals as goal

pub loop-k-init : goal.loop-k-init
loop-k-init c =
    unnamed_from (doc_of c.args.«record».now c.args.text.now) c.args.row.0 _ _ _ (c.requires.rules_read.0.laid, c.requires.rules_read.1, c.requires.rules_read.2, c.requires.rules_read.3) c.args.rule_text.now c.args.from c.requires.none_named_before_from.0 c.requires.none_named_before_from.1

pub overflow_add-first : goal.overflow_add-first
overflow_add-first c =
    omega (arith, clauses_few _ _ _ (c.requires.rules_read.0.laid, c.requires.rules_read.1, c.requires.rules_read.2, c.requires.rules_read.3))

pub telling_of-clause-requires : goal.telling_of-clause-requires
telling_of-clause-requires c =
    (c.requires.rules_read.0.laid.clauses_laid.schemas_laid.formed, omega (arith, clauses_few _ _ _ (c.requires.rules_read.0.laid, c.requires.rules_read.1, c.requires.rules_read.2, c.requires.rules_read.3)))

pub returns-then-clause_names : goal.returns-then-clause_names
returns-then-clause_names c =
    unnamed_is (doc_of c.args.«record».now c.args.text.now) c.args.row.0 _ _ _ (c.requires.rules_read.0.laid, c.requires.rules_read.1, c.requires.rules_read.2, c.requires.rules_read.3) c.args.rule_text.now true (named_here_lem (doc_of c.args.«record».now c.args.text.now) c.args.row.0 c.args.rules.now c.args.rule_text.now c.args.first c.loop-k.k _ (c.telling_of-clause.ensures.means_telling c.args.rule_text.now) _ c.clause_names.ensures c.args.i (omega arith) c.if-clause_names.true)

pub loop-k-preserved : goal.loop-k-preserved
loop-k-preserved c =
    unnamed_more (doc_of c.args.«record».now c.args.text.now) c.args.row.0 c.args.rules.now c.args.rule_text.now c.args.first c.loop-k.k _ (c.telling_of-clause.ensures.means_telling c.args.rule_text.now) _ c.clause_names.ensures c.loop-k.invariant c.if-clause_names.false

pub returns : goal.returns
returns c =
    let e : c.loop-k.k ≡ c.args.i = omega arith in
    unnamed_is (doc_of c.args.«record».now c.args.text.now) c.args.row.0 _ _ _ (c.requires.rules_read.0.laid, c.requires.rules_read.1, c.requires.rules_read.2, c.requires.rules_read.3) c.args.rule_text.now false (rw e at c.loop-k.invariant)
