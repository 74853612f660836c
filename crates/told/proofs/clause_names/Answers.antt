-- `clause_names` meets its contract, by the variant. Assumes nothing.
use mathlib.Core.List.{List}
use Prim.Native.Nat.{ℕ}
use mathlib.Core.Path.{sym, ap}
use Rattle.sheet.specs.Record.{doc_of}
use Rattle.meaning.specs.Lists.{any}
use Rattle.meaning.specs.Rules.{names_of}
use borrow.Enum.Refused.{opened}
use Rattle.told.specs.Read.{named_by}
use Rattle.told.proofs.Earlier.{names_none}
use Rattle.told.proofs.clause_names.Goals as goal

pub returns-in-Properties : goal.returns-in-Properties
unfolding names_of
returns-in-Properties c =
    rw c.in-Properties.is c.named_in.ensures

pub returns-in_default : goal.returns-in_default
unfolding any
returns-in_default c =
    sym (ap (λ (names : List (List ℕ)). named_by (doc_of c.args.«record».now c.args.text.now) names c.args.row.0) (names_none c.args.rules.now c.args.rule_text.now c.args.clause (opened c.in_default.in_default-own.keys2)))
