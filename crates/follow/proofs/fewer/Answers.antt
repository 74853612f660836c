-- `follow::fewer` meets its contract. Assumes nothing.
use mathlib.Core.Path.{refl, sym, ap, ◌∙◌}
use native.Mathlib.Omega.{arith}
use Rattle.jsontext.specs.Automaton.{outer}
use Rattle.brackets.specs.Brackets.{brackets}
use Rattle.follow.proofs.Stacking.{bottom, fewer}
use Rattle.follow.proofs.fewer.Goals as goal

pub returns-then-s-eq0 : goal.returns-then-s-eq0
returns-then-s-eq0 c =
    let s = c.args.s in
    let none = c.if-s-eq0.true in
    let turned = c.popped.ensures in
    λ cells.
    record {
      brackets_are =
          bottom cells (brackets c.popped.result) s.more none
          ∙ turned.brackets_are
          ∙ ap outer (sym (bottom cells (brackets s.opened) s.more none));
      fits = turned.fits;
      few = omega arith;
      long = refl;
    }

pub returns-else-s-eq0 : goal.returns-else-s-eq0
returns-else-s-eq0 c =
    let s = c.args.s in
    λ cells.
    record {
      brackets_are = fewer cells (brackets s.opened) s.more c.if-s-eq0.false;
      fits = c.requires;
      few = omega arith;
      long = refl;
    }
