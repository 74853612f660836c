use mathlib.Core.Bool.{◌&&◌}
use mathlib.Core.List.{List}
use mathlib.Core.Option.{some}
use mathlib.Core.Path.{refl, sym, ap, ◌∙◌, subst}
use Prim.Native.Nat.{ℕ}
use native.Mathlib.Omega.{arith}
use lib.Dec.{eqb}
use lib.ListN.{length, get_or, replicate, length-replicate}
use Rattle.jsontext.specs.Automaton as Auto
use Rattle.jsontext.specs.Automaton.{at, ended}
use Rattle.grammar.specs.Codes.{place_at}
use Rattle.grammar.specs.declared.Bracket.{Bracket}
use Rattle.grammar.specs.declared.Bracket.TheVariants.{Square}
use Rattle.brackets.specs.Brackets.{brackets}
use Rattle.brackets.proofs.Bits.{stepped_none, stepped_some}
use Rattle.brackets.proofs.Moving.{code_place}
use Rattle.follow.specs.Following.{all_open}
use Rattle.follow.proofs.Stacking.{bottom, all_none}
use Rattle.follow.proofs.Going.{Going, sets_out, on, breaks, ends}
use Rattle.follow.proofs.follow_deep.Goals as goal

pub loop-at-init : goal.loop-at-init
loop-at-init c =
    let a = c.args in
    let ks = bottom (replicate 65_536 Square) (brackets a.opened) 0 refl in (
      subst (λ (x : List Auto.Bracket). Going a.json.now a.from (at (place_at a.place) (brackets a.opened)) a.from (at (place_at a.place) x)) (sym ks)
          (sets_out a.json.now a.from (at (place_at a.place) (brackets a.opened)) c.requires.0),
      c.requires.2,
      c.requires.3,
      omega arith,
      length-replicate {A = Bracket} 65_536 Square,
    )

pub slice_bounds-around_all-end : goal.slice_bounds-around_all-end
slice_bounds-around_all-end c = sym c.loop-at.invariant.4

pub around_all-requires : goal.around_all-requires
around_all-requires c =
    let l = c.loop-at in
    omega (arith, l.invariant.3, l.invariant.4, c.requires.1)

pub step-requires : goal.step-requires
step-requires c = c.loop-at.invariant.1

pub returns-in_default : goal.returns-in_default
returns-in_default c =
    let l = c.loop-at in
    let a = c.args in
    let ks : List Auto.Bracket = all_open l.table l.s in
    let dies = stepped_none l.p (get_or a.json.now l.at 0) c.around_all.result ks c.around_all.ensures (sym c.step.ensures ∙ c.in_default.is) in
    breaks a.json.now a.from (at (place_at a.place) (brackets a.opened)) l.at (at (place_at l.p) ks) l.invariant.0 (omega arith) dies

pub slice_bounds-shifted-end : goal.slice_bounds-shifted-end
slice_bounds-shifted-end c = sym c.loop-at.invariant.4

pub shifted-s-requires : goal.shifted-s-requires
shifted-s-requires c = let l = c.loop-at in (omega (arith, l.invariant.3, l.invariant.4, c.requires.1), l.invariant.2)

pub loop-at-preserved : goal.loop-at-preserved
loop-at-preserved c =
    let l = c.loop-at in
    let a = c.args in
    let ks : List Auto.Bracket = all_open l.table l.s in
    let b : ℕ = get_or a.json.now l.at 0 in
    let m = c.in-Some.m in
    let leads = sym c.step.ensures ∙ c.in-Some.is in
    let turned = c.shifted-s.ensures in
    let steps =
    stepped_some l.p b c.around_all.result ks c.around_all.ensures m leads
    ∙ ap (λ (x : List Auto.Bracket). some (at (place_at m.place) x)) (sym turned.brackets_are) in (
      on a.json.now a.from (at (place_at a.place) (brackets a.opened)) l.at (at (place_at l.p) ks) l.invariant.0 (omega arith)
          (at (place_at m.place) (all_open c.shifted-s.new.table c.shifted-s.result)) steps,
      code_place m l.p b c.around_all.result leads,
      turned.fits,
      omega (arith, turned.few, l.invariant.3),
      turned.long ∙ l.invariant.4,
    )

pub at_end-requires : goal.at_end-requires
at_end-requires c = c.loop-at.invariant.1

pub returns : goal.returns
returns c =
    let l = c.loop-at in
    let a = c.args in
    let o = l.s.opened in
    ends a.json.now a.from (at (place_at a.place) (brackets a.opened)) l.at (at (place_at l.p) (all_open l.table l.s)) l.invariant.0 (omega arith)
    (record { at = length a.json.now; whole = c.at_end.result && eqb l.s.more 0 }) (omega (arith, l.invariant.0.inside))
    (rw c.at_end.ensures (all_none (ended (place_at l.p)) l.table l.s.more o.bits o.depth))
