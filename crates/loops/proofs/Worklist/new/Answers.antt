-- `Worklist::new` meets its contract: nothing is marked. Assumes nothing.
use mathlib.Core.Path.{refl}
use Rattle.unguarded.specs.Worklist.{mark_count}
use Rattle.unguarded.proofs.Worklists.{blank_tidy}
use Rattle.loops.proofs.Worklist.new.Goals as goal

pub returns : goal.returns
unfolding mark_count
returns c = (blank_tidy _ _ refl refl refl, refl, refl)
