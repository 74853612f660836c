-- What a visit does to a worklist. No public contract cites this.
-- Assumes nothing.
use Rattle.std.specs.Prelude.{List, ℕ}
use Rattle.unguarded.specs.Worklist.{Tidy, Visited}
use Rattle.loops.specs.declared.Worklist.{Worklist}

abbrev pub Tidied : Worklist → Type 0
Tidied list = Tidy list.seen list.queue list.tail

-- all of ts, and nothing else, was marked, and put at the queue's end if it was new
abbrev pub Visits : List ℕ → Worklist → Worklist → Type 0
Visits ts old new = Visited ts old.seen old.queue old.tail new.seen new.queue new.tail
