-- `judge_root` meets its contract. Assumes nothing.
use Rattle.progress.proofs.Testing.{passes_many}
use Rattle.run.proofs.judge_root.Goals as goal

pub clauses_of-many-requires : goal.clauses_of-many-requires
clauses_of-many-requires c = c.requires.ready.inside.rule_in

pub plain-passed-requires : goal.plain-passed-requires
plain-passed-requires c = record {
  reads_all_clauses = (c.requires.ready.inside, c.clauses_of-many.ensures);
  unsettled = c.requires.unsettled;
}

pub judge_pair-requires : goal.judge_pair-requires
judge_pair-requires c = record {
  ready = c.requires.ready;
  unsettled = c.requires.unsettled;
  passes_first = passes_many c.clauses_of-many.ensures c.plain-passed.ensures;
}
