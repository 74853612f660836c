-- `gathering::outer_moves` meets its contract. Assumes nothing.
use mathlib.Core.Path.{◌≡◌, sym}
use mathlib.Core.List.{List, ◌∷◌}
use Prim.Native.Nat.{ℕ, suc, ◌-◌}
use native.Mathlib.Omega.{arith}
use borrow.Author.Tests.{lt-ltb}
use lib.ListN.{length, get_or, drop, length-drop}
use Rattle.gathering.proofs.Places.{at_place, outer_blank, value_ahead, value_first, array_shuts, no_name, name_opens}
use borrow.Author.Rules.{rules}
use Rattle.gathering.proofs.outer_moves.Goals as goal

pub returns-then-byte-le32 : goal.returns-then-byte-le32
returns-then-byte-le32 c =
    let a = c.args in
    λ ks e words t w g h. rw (outer_blank 0 ks (get_or a.json.now a.at 0) (drop (suc a.at) a.json.now) g a.place c.requires.0 c.if-byte-le32.true) h

pub returns-then-place-eq0 : goal.returns-then-place-eq0
returns-then-place-eq0 c =
    let a = c.args in
    λ ks e words t w g h. rw (value_ahead 0 ks (get_or a.json.now a.at 0) (drop (suc a.at) a.json.now) g a.place c.if-place-eq0.true (omega arith)) (c.start_value.ensures ks e a.text.now words t w g h)

pub returns-then-byte-eq93 : goal.returns-then-byte-eq93
returns-then-byte-eq93 c =
    let a = c.args in
    λ ks e words t w g h. rw (array_shuts 0 ks (get_or a.json.now a.at 0) (drop (suc a.at) a.json.now) g a.place c.if-place-eq1.true c.if-byte-eq93.true) h

pub returns-then-place-eq1 : goal.returns-then-place-eq1
returns-then-place-eq1 c =
    let a = c.args in
    λ ks e words t w g h. rw (value_first 0 ks (get_or a.json.now a.at 0) (drop (suc a.at) a.json.now) g a.place c.if-place-eq1.true (omega arith) c.if-byte-eq93.false) (c.start_value-then-place-eq1.ensures ks e a.text.now words t w g h)

pub returns-then-place-eq2 : goal.returns-then-place-eq2
returns-then-place-eq2 c =
    let a = c.args in
    λ ks e words t w g h. rw (at_place 0 ks (get_or a.json.now a.at 0) (drop (suc a.at) a.json.now) g a.place 2 c.if-place-eq2.true) h

pub returns-then-byte-ne34 : goal.returns-then-byte-ne34
returns-then-byte-ne34 c =
    let a = c.args in
    let p = c.requires.0 in
    λ ks e words t w g h. rw (no_name 0 ks (get_or a.json.now a.at 0) (drop (suc a.at) a.json.now) g a.place (omega arith) p c.if-byte-ne34.true) h

pub open_name-requires : goal.open_name-requires
open_name-requires c =
    let a = c.args in
    let p = c.requires in
    let few = p.3.objects_few (a.depth - 1) in
    (search rules, omega (arith, c.object_at-object.ensures))

pub returns : goal.returns
returns c =
    let a = c.args in
    let p = c.requires in
    let b : ℕ = get_or a.json.now a.at 0 in
    let bs : List ℕ = drop (suc a.at) a.json.now in
    λ ks e words t w g h.
    let object : get_or g.objects (length ks - 1) 0 ≡ c.object_at-object.result = rw (e, sym h.objects_are) (sym c.object_at-object.ensures) in
    let size : length (b ∷ bs) ≡ length a.json.now - a.at = omega (arith, length-drop (suc a.at) a.json.now) in
    rw (name_opens 0 ks (get_or a.json.now a.at 0) (drop (suc a.at) a.json.now) g a.place (omega arith) p.0 c.if-byte-ne34.false, lt-ltb 0 (length (b ∷ bs)) (omega arith), object, size) (c.open_name.ensures words a.objects.now t w g h)
