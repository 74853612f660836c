use mathlib.Core.Path.{◌≡◌}
use borrow.Author.Rules.{rules}
use lib.ListN.{length}
use Rattle.listing.specs.Listing.{records_in}
use Rattle.queue.proofs.Turns.{Going}
use Rattle.queue.proofs.judge_all.Given as goal

abbrev pub invariant-loop-i : goal.invariant-loop-i
invariant-loop-i l =
    (length l.cells ≡ length l.initial.cells) × (length l.list ≡ length l.initial.list) × Going l.words l.bytes l.listing l.rules l.rule_text l.initial.cells l.initial.list l.initial.answers (records_in l.listing) l.cells l.list l.answers l.i
