-- `keys_differ` meets its contract. Assumes nothing.
use native.Mathlib.Omega.{arith}
use mathlib.Core.Bool.{false≢true, ◌||◌}
use mathlib.Core.Path.{◌≡◌}
use Prim.Native.Nat.{◌+◌}
use lib.Dec.{eqb}
use lib.ListN.{length}
use borrow.Author.Tests.{eqb-false}
use Rattle.laws.proofs.Tests.{neither}
use Rattle.rulelists.proofs.Entries.{name_fits, two_differ, three_differ, four_differ}
use Rattle.rulelists.proofs.keys_differ.Goals as goal

pub key_at-a-requires : goal.key_at-a-requires
key_at-a-requires c =
    (c.requires.rules_formed.0, omega (arith, c.requires.rules_formed.1, c.requires.le_count.0), name_fits c.args.words.now (length c.args.text.now) c.args.list.first c.args.list.count c.args.list.first 0 c.requires.rules_formed.2 (omega arith) (omega (arith, c.requires.le_count.0)))

pub key_at-b-requires : goal.key_at-b-requires
key_at-b-requires c =
    (c.requires.rules_formed.0, omega (arith, c.requires.rules_formed.1, c.requires.le_count.0), name_fits c.args.words.now (length c.args.text.now) c.args.list.first c.args.list.count (c.args.list.first + 1) 1 c.requires.rules_formed.2 (omega arith) (omega (arith, c.requires.le_count.0)))

pub returns-then-a-b : goal.returns-then-a-b
returns-then-a-b c t = absurd (false≢true t)

pub returns-then-count-eq2 : goal.returns-then-count-eq2
returns-then-count-eq2 c t =
    rw c.if-count-eq2.true (two_differ c.args.words.now c.args.text.now c.args.list.first c.key_at-a.result c.key_at-b.result c.key_at-a.ensures c.key_at-b.ensures c.if-a-b.false)

pub key_at-c-requires : goal.key_at-c-requires
key_at-c-requires c =
    (c.requires.rules_formed.0, omega (arith, c.requires.rules_formed.1, c.requires.le_count.0, c.if-count-eq2.false), name_fits c.args.words.now (length c.args.text.now) c.args.list.first c.args.list.count (c.args.list.first + 2) 2 c.requires.rules_formed.2 (omega arith) (omega (arith, c.requires.le_count.0, c.if-count-eq2.false)))

pub returns-then-a-c : goal.returns-then-a-c
returns-then-a-c c t = absurd (false≢true t)

pub returns-then-count-eq3 : goal.returns-then-count-eq3
returns-then-count-eq3 c t =
    let a = c.key_at-a in
    let b = c.key_at-b in
    let d = c.key_at-c in
    let n = neither (eqb a.result d.result) (eqb b.result d.result) c.if-a-c.false in
    rw c.if-count-eq3.true (three_differ c.args.words.now c.args.text.now c.args.list.first a.result b.result a.ensures b.ensures c.if-a-b.false d.result d.ensures (eqb-false _ _ n.0) (eqb-false _ _ n.1))

pub key_at-d-requires : goal.key_at-d-requires
key_at-d-requires c =
    (c.requires.rules_formed.0, omega (arith, c.requires.rules_formed.1, c.requires.le_count.0, c.if-count-eq2.false, c.if-count-eq3.false), name_fits c.args.words.now (length c.args.text.now) c.args.list.first c.args.list.count (c.args.list.first + 3) 3 c.requires.rules_formed.2 (omega arith) (omega (arith, c.requires.le_count.0, c.if-count-eq2.false, c.if-count-eq3.false)))

pub returns-then-a-d : goal.returns-then-a-d
returns-then-a-d c t = absurd (false≢true t)

pub returns : goal.returns
returns c t =
    let a = c.key_at-a in
    let b = c.key_at-b in
    let d = c.key_at-c in
    let e = c.key_at-d in
    let n = neither (eqb a.result d.result) (eqb b.result d.result) c.if-a-c.false in
    let l = neither (eqb a.result e.result) (eqb b.result e.result || eqb d.result e.result) c.if-a-d.false in
    let k = neither (eqb b.result e.result) (eqb d.result e.result) l.1 in
    let four : c.args.list.count ≡ 4 = omega (arith, c.requires.le_count.0, c.requires.le_count.1, c.if-count-eq2.false, c.if-count-eq3.false) in
    rw four (four_differ c.args.words.now c.args.text.now c.args.list.first a.result b.result a.ensures b.ensures c.if-a-b.false d.result d.ensures (eqb-false _ _ n.0) (eqb-false _ _ n.1) e.result e.ensures (eqb-false _ _ l.0) (eqb-false _ _ k.0) (eqb-false _ _ k.1))
