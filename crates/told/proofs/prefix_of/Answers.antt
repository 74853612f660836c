-- `prefix_of` meets its contract, by the variant. Assumes nothing.
use mathlib.Core.Path.{sym, ap}
use native.Mathlib.Omega.{arith}
use lib.ListN.{length}
use Rattle.rulesheet.proofs.Items.{schemas_long}
use Rattle.meaning.specs.Rules.{prefix_of}
use borrow.Enum.Refused.{opened}
use Rattle.told.proofs.Earlier.{prefix_none}
use Rattle.told.proofs.prefix_of.Goals as goal

pub returns-in-PrefixItems-clause-by_index : goal.returns-in-PrefixItems-clause-by_index
unfolding prefix_of
returns-in-PrefixItems-clause-by_index c = λ rs us. rw c.in-PrefixItems.is (sym (schemas_long rs c.in-PrefixItems.schemas))

pub returns-in_default : goal.returns-in_default
returns-in_default c = record {
  by_index = λ rs us. sym (ap length (prefix_none rs us c.args.clause (opened c.in_default.in_default-own.keys2)));
  upper_bound = λ form b. omega arith;
}
