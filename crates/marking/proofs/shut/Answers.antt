-- `shut` meets its contract: where the pair holds its marks stay, and else they go. Assumes nothing.
use native.Mathlib.Omega.{arith}
use Rattle.areas.proofs.Writers.{marked_same, marked_as}
use Rattle.lent.proofs.Reading.{row_low, kids_small}
use Rattle.lent.proofs.Marks.{kept_all, kept_none}
use Rattle.marking.proofs.shut.Goals as goal

pub returns-then-ok : goal.returns-then-ok
returns-then-ok c =
    marked_same _ (λ k a b. kept_all _ _ _ _ k c.if-ok.true)

pub children_of-kids-requires : goal.children_of-kids-requires
children_of-kids-requires c =
    let S = c.args.lent.now.sheets in (S.record_read.laid.formed, row_low S c.requires.inside)

pub take_marks-requires : goal.take_marks-requires
take_marks-requires c =
    let ts = c.args.lent.now.text.now in
    let K = c.children_of-kids.ensures in record {
      columns_in_cells = rw (c.schemas.ensures, K.first_is ts, K.count_is ts) c.requires.writes_marks;
      kids_end_fits = kids_small ts c.args.lent.now.sheets c.requires.inside K (omega arith);
    }

pub returns : goal.returns
returns c =
    let ts = c.args.lent.now.text.now in
    let K = c.children_of-kids.ensures in
    marked_as (rw (c.schemas.ensures, K.first_is ts, K.count_is ts) at c.take_marks.ensures) (λ k a b. kept_none _ _ _ _ k c.if-ok.false)
