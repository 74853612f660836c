use mathlib.Core.Bool.{Bool, ◌&&◌}
use mathlib.Core.List.{List}
use mathlib.Core.Option.{some}
use mathlib.Core.Path.{sym, ap, ◌∙◌}
use Prim.Native.Nat.{ℕ}
use native.Mathlib.Omega.{arith}
use lib.ListN.{length, get_or}
use Rattle.jsontext.specs.Automaton.{Bracket, at, ended}
use Rattle.grammar.specs.Codes.{place_at}
use Rattle.brackets.specs.Brackets.{brackets}
use Rattle.brackets.proofs.Bits.{stepped_none, stepped_some}
use Rattle.brackets.proofs.Moving.{code_place}
use Rattle.follow.proofs.Stacking.{none_below}
use Rattle.follow.proofs.Going.{sets_out, on, breaks, ends, then}
use Rattle.follow.proofs.follow.Goals as goal

pub loop-at-init : goal.loop-at-init
loop-at-init c =
    let a = c.args in
    (sets_out a.json.now a.from (at (place_at a.place) (brackets a.opened)) c.requires.0, c.requires.2, c.requires.3)

pub follow_deep-requires : goal.follow_deep-requires
follow_deep-requires c =
    let l = c.loop-at in
    (l.invariant.0.inside, c.requires.1, l.invariant.1, l.invariant.2)

pub returns-then-o-ge62 : goal.returns-then-o-ge62
returns-then-o-ge62 c =
    let l = c.loop-at in
    let a = c.args in
    then a.json.now a.from (at (place_at a.place) (brackets a.opened)) l.at (at (place_at l.p) (brackets l.o)) l.invariant.0 c.follow_deep.result c.follow_deep.ensures

pub step-requires : goal.step-requires
step-requires c = c.loop-at.invariant.1

pub returns-in_default : goal.returns-in_default
returns-in_default c =
    let l = c.loop-at in
    let a = c.args in
    let ks : List Bracket = brackets l.o in
    let dies = stepped_none l.p (get_or a.json.now l.at 0) c.around.result ks c.around.ensures (sym c.step.ensures ∙ c.in_default.is) in
    breaks a.json.now a.from (at (place_at a.place) (brackets a.opened)) l.at (at (place_at l.p) ks) l.invariant.0 (omega arith) dies

pub changed_by-o-requires : goal.changed_by-o-requires
changed_by-o-requires c = (c.loop-at.invariant.2, omega arith)

pub loop-at-preserved : goal.loop-at-preserved
loop-at-preserved c =
    let l = c.loop-at in
    let a = c.args in
    let ks : List Bracket = brackets l.o in
    let b : ℕ = get_or a.json.now l.at 0 in
    let m = c.in-Some.m in
    let leads = sym c.step.ensures ∙ c.in-Some.is in
    let turned = c.changed_by-o.ensures in
    let steps =
    stepped_some l.p b c.around.result ks c.around.ensures m leads
    ∙ ap (λ (x : List Bracket). some (at (place_at m.place) x)) (sym turned.brackets_are) in (
      on a.json.now a.from (at (place_at a.place) (brackets a.opened)) l.at (at (place_at l.p) ks) l.invariant.0 (omega arith)
          (at (place_at m.place) (brackets c.changed_by-o.result)) steps,
      code_place m l.p b c.around.result leads,
      turned.fits,
    )

pub at_end-requires : goal.at_end-requires
at_end-requires c = c.loop-at.invariant.1

pub returns : goal.returns
returns c =
    let l = c.loop-at in
    let a = c.args in
    let e = ended (place_at l.p) in
    ends a.json.now a.from (at (place_at a.place) (brackets a.opened)) l.at (at (place_at l.p) (brackets l.o)) l.invariant.0 (omega arith)
    (record { at = length a.json.now; whole = c.at_end.result }) (omega (arith, l.invariant.0.inside)) (c.at_end.ensures ∙ ap (λ (x : Bool). e && x) (sym (none_below l.o.bits l.o.depth)))
