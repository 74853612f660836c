-- `follow::shifted` meets its contract. Assumes nothing.
use native.Mathlib.Omega.{arith}
use lib.ListN.{length-set}
use Rattle.brackets.specs.Brackets.{brackets}
use Rattle.follow.proofs.Stacking.{more}
use Rattle.follow.proofs.shifted.Goals as goal

pub returns-in-Push : goal.returns-in-Push
returns-in-Push c =
    let a = c.args in
    let k = c.in-Push.bracket in
    rw c.in-Push.is
    (record {
      brackets_are = more a.table.now (brackets a.s.opened) a.s.more k c.requires.0;
      fits = c.requires.1;
      few = omega arith;
      long = length-set a.table.now a.s.more k;
    })
