-- `reach::is_ascii` meets its contract. Every range of ASCII is ASCII.
-- Assumes nothing.
use Rattle.reach.proofs.Reaching.{all_ascii}
use Rattle.reach.proofs.is_ascii.Goals as goal

pub returns : goal.returns
returns c = λ t. all_ascii c.args.text.now (c.all_ascii.ensures t)
