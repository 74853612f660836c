-- `finish_in` meets its contract, by the variant. Assumes nothing.
use native.Mathlib.Omega.{arith}
use mathlib.Core.Path.{sym, ap, subst, ◌∙◌}
use lib.Dec.{eqb, ltb}
use Rattle.sheet.specs.Record.{doc_of}
use Rattle.rulesheet.specs.Codes.{no_entry}
use Rattle.rulesheet.specs.Sheet.{entry_at}
use Rattle.rulesheet.proofs.Reaching.{made_at}
use Rattle.meaning.specs.Rules.{contained}
use borrow.Enum.Refused.{opened}
use Rattle.finish.proofs.Ending.{Ends, any_ends, one_ends, not_ends, if_ends, contains_ends, all_ends}
use Rattle.rulesheet.specs.Clauses as R
use Rattle.finish.proofs.finish_in.Goals as goal

pub returns-in-AnyOf : goal.returns-in-AnyOf
returns-in-AnyOf c =
    λ ts us p same. subst (λ x. Ends (doc_of c.args.«record».now ts) p c.args.tally c.args.rules.now us x (ltb c.args.tally c.in-AnyOf.es.count)) (sym c.in-AnyOf.is) (any_ends (doc_of c.args.«record».now ts) p c.args.tally c.args.rules.now us c.in-AnyOf.es)

pub returns-in-OneOf : goal.returns-in-OneOf
returns-in-OneOf c =
    λ ts us p same. subst (λ x. Ends (doc_of c.args.«record».now ts) p c.args.tally c.args.rules.now us x (eqb c.saturating_sub.result 1)) (sym c.in-OneOf.is) (rw c.saturating_sub.ensures (one_ends (doc_of c.args.«record».now ts) p c.args.tally c.args.rules.now us c.in-OneOf.es))

pub returns-in-Not : goal.returns-in-Not
returns-in-Not c =
    λ ts us p same. subst (λ x. Ends (doc_of c.args.«record».now ts) p c.args.tally c.args.rules.now us x (eqb c.args.tally 1)) (sym c.in-Not.is) (not_ends (doc_of c.args.«record».now ts) p c.args.tally c.args.rules.now us _)

pub returns-in-IfThenElse : goal.returns-in-IfThenElse
returns-in-IfThenElse c =
    λ ts us p same. subst (λ x. Ends (doc_of c.args.«record».now ts) p c.args.tally c.args.rules.now us x (ltb c.args.tally 2)) (sym c.in-IfThenElse.is) (if_ends (doc_of c.args.«record».now ts) p c.args.tally c.args.rules.now us _)

pub returns-in-Contains : goal.returns-in-Contains
returns-in-Contains c =
    let few = (subst (λ x. R.Sized (R.held x)) c.in-Contains.is (c.requires.rules_laid.1.sized c.requires.rules_laid.0.clauses_laid)) in λ ts us p same. subst (λ x. Ends (doc_of c.args.«record».now ts) p c.args.tally c.args.rules.now us x c.enough.result) (sym c.in-Contains.is) (contains_ends (doc_of c.args.«record».now ts) p c.args.tally c.args.rules.now us c.in-Contains.es c.entry_of-entry.result c.enough.result (c.entry_of-entry.ensures ∙ sym (made_at (entry_at c.args.rules.now) c.in-Contains.es.count c.in-Contains.es.first 0 no_entry (omega (arith, few)))) (c.enough.ensures ts ∙ ap (λ j. contained (doc_of c.args.«record».now ts) j c.entry_of-entry.result.second c.entry_of-entry.result.third c.args.tally) (sym same)))

pub returns-in_default : goal.returns-in_default
returns-in_default c =
    λ ts us p same. all_ends (doc_of c.args.«record».now ts) p c.args.tally c.args.rules.now us c.args.clause (opened c.in_default.in_default-own.keys6)
