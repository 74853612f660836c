-- `gathering::gather_byte` meets its contract. Assumes nothing.
use Prim.Native.Nat.{suc}
use native.Mathlib.Omega.{arith}
use lib.ListN.{get_or, drop}
use Rattle.gathering.proofs.Places.{idle_even, idle_low}
use Rattle.gathering.proofs.gather_byte.Goals as goal

pub returns-then-place-eq0 : goal.returns-then-place-eq0
returns-then-place-eq0 c =
    let a = c.args in
    λ ks e t w g h. rw (idle_even 0 ks (get_or a.json.now a.at 0) (drop (suc a.at) a.json.now) g a.place c.if-place-ge24.true c.requires.0 c.if-place-eq0.true) h

pub returns-then-place-ge24 : goal.returns-then-place-ge24
returns-then-place-ge24 c =
    let a = c.args in
    λ ks e. c.name_moves.ensures ks a.objects.now

pub returns-then-place-ge5 : goal.returns-then-place-ge5
returns-then-place-ge5 c =
    let a = c.args in
    λ ks e t w g h. rw (idle_low 0 ks (get_or a.json.now a.at 0) (drop (suc a.at) a.json.now) g a.place c.if-place-ge5.true (omega arith)) h

pub returns : goal.returns
returns c =
    let a = c.args in
    λ ks e. c.outer_moves.ensures ks e a.words.now
