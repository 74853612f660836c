use mathlib.Core.Path.{sym, ◌∙◌}
use borrow.Author.Tests.{not-false}
use Rattle.reach.proofs.Reaching.{within}
use Rattle.reach.proofs.beginning.Goals as goal

pub loop-at-preserved : goal.loop-at-preserved
loop-at-preserved c = within _ _ (sym c.inside.ensures ∙ not-false _ c.if-not-inside.false-raw)
