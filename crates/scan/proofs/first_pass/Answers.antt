-- `scan::first_pass` meets its contract. Assumes nothing.
use mathlib.Core.Path.{◌≡◌, refl, subst}
use native.Mathlib.Omega.{arith}
use borrow.Author.Rules.{rules}
use lib.ListN.{length}
use Rattle.scan.specs.Scanning.{Carried, areas, broken, at_end, at_fault, deep}
use Rattle.scan.proofs.Carrying.{begins, at_rest, not_at_rest, ready, stops, on}
use Rattle.scan.proofs.first_pass.Goals as goal

pub loop-at-init : goal.loop-at-init
loop-at-init c =
    let a = c.args in
    rw c.begin-p.ensures (begins a.json.now (areas a.values.now a.texts.now a.names.now a.words.now a.objects.now) c.requires.blank, refl, refl, refl, refl, refl)

pub returns-then-p : goal.returns-then-p
returns-then-p c =
    let p = c.loop-at.p in
    let e = at_rest p.watch.fault p.gathered.on c.if-p.true in
    at_fault c.loop-at.invariant.0.carried e.0 e.1

pub returns-then-p-ge62 : goal.returns-then-p-ge62
returns-then-p-ge62 c = deep c.loop-at.invariant.0.carried c.if-p-ge62.true

pub next-requires : goal.next-requires
next-requires c =
    let a = c.args in
    let l = c.loop-at in
    let short = c.requires.json_len_bound in
    record {
      at_in_bounds = (c.loop-at-test.true, short);
      ready =
          ready a.json.now (areas a.values.now a.texts.now a.names.now a.words.now a.objects.now) l.at l.p
          (areas l.values l.texts l.names l.words l.objects) short l.invariant.0 (omega arith);
    }

pub returns-in_default : goal.returns-in_default
returns-in_default c =
    let a = c.args in
    let l = c.loop-at in
    let more = c.loop-at-test.true in
    broken refl more l.invariant.0.carried.trail
    (stops a.json.now (areas a.values.now a.texts.now a.names.now a.words.now a.objects.now) l.at l.p
    (areas l.values l.texts l.names l.words l.objects) c.requires.json_len_bound l.invariant.0 more c.next.result _ c.next.ensures c.in_default.is)

pub loop-at-preserved : goal.loop-at-preserved
loop-at-preserved c =
    let a = c.args in
    let l = c.loop-at in (
      on a.json.now (areas a.values.now a.texts.now a.names.now a.words.now a.objects.now) l.at l.p
          (areas l.values l.texts l.names l.words l.objects) c.requires.json_len_bound l.invariant.0 c.loop-at-test.true c.next.result _
          (omega (arith, c.type_inv.json l.at)) (not_at_rest l.p.watch.fault l.p.gathered.on c.if-p.false) c.next.ensures c.in-Some.q c.in-Some.is,
      search rules,
      search rules,
      search rules,
      search rules,
      search rules,
    )

pub returns : goal.returns
returns c =
    let a = c.args in
    let l = c.loop-at in
    let carried = l.invariant.0.carried in
    let whole : l.at ≡ length a.json.now = omega (arith, carried.inside) in
    at_end
    (subst
    (λ n. Carried a.json.now (areas a.values.now a.texts.now a.names.now a.words.now a.objects.now) n l.p (areas l.values l.texts l.names l.words l.objects))
    whole carried)
    refl
