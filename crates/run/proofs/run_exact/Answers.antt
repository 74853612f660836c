-- `run_exact` meets its contract. Assumes nothing.
use mathlib.Core.Path.{refl}
use native.Mathlib.Omega.{arith}
use Rattle.lent.specs.Lent.{pair}
use Rattle.run.proofs.Whole.{cleared_fresh, root_ready, root_unsettled, root_areas, root_writes, root_judged}
use Rattle.progress.proofs.Turning.{cell_asks}
use Rattle.lent.proofs.Reading.{row_low, kid_first, kid_many, kids_small}
use Rattle.run.proofs.run_exact.Goals as goal

pub judge_root-count-requires : goal.judge_root-count-requires
judge_root-count-requires c = record {
  ready = root_ready (cleared_fresh c.requires c.clear.ensures);
  unsettled = root_unsettled (cleared_fresh c.requires c.clear.ensures);
}

pub verdict_of-ok-requires : goal.verdict_of-ok-requires
verdict_of-ok-requires c =
    let F = cleared_fresh c.requires c.clear.ensures in
    cell_asks c.requires.fit (root_ready {t = 0} F).inside (root_areas F c.judge_root-count.ensures)

pub children_of-kids-requires : goal.children_of-kids-requires
children_of-kids-requires c =
    let S = c.args.lent.now.sheets in
    (S.record_read.laid.formed, row_low S (root_ready {t = 0} (cleared_fresh c.requires c.clear.ensures)).inside)

pub marked_of-marked-requires : goal.marked_of-marked-requires
marked_of-marked-requires c =
    let ts = c.args.lent.now.text.now in
    let F = cleared_fresh c.requires c.clear.ensures in record {
      columns_in_cells = rw (c.schemas.ensures, c.children_of-kids.ensures.first_is ts, c.children_of-kids.ensures.count_is ts) (root_writes F c.judge_root-count.ensures c.requires.fit);
      kids_end_fits = kids_small ts c.args.lent.now.sheets (root_ready {t = 0} F).inside c.children_of-kids.ensures (omega arith);
    }

pub returns : goal.returns
returns c =
    let S = c.args.lent.now.sheets in
    root_judged _ c.requires (cleared_fresh c.requires c.clear.ensures) c.judge_root-count.ensures c.verdict_of-ok.ensures refl refl (kid_first S (pair 0 0) c.children_of-kids.ensures refl) (kid_many S (pair 0 0) c.children_of-kids.ensures refl) c.schemas.ensures c.marked_of-marked.ensures
