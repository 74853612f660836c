-- `member_schema` meets its contract. Assumes nothing.
use mathlib.Core.List.{[], List}
use mathlib.Core.Path.{ap}
use Prim.Native.Nat.{ℕ}
use Rattle.rulesheet.proofs.Items.{member_item}
use Rattle.rulereader.proofs.member_schema.Goals as goal

pub returns : goal.returns
returns c = λ ts. ap (λ (m : List ℕ × ℕ). m.1) (member_item c.args.words.now c.args.list c.args.i c.requires.2 c.entry_of.result c.entry_of.ensures ts ([], 0))
