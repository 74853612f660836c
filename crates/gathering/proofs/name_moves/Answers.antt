-- `gathering::name_moves` meets its contract. Assumes nothing.
use mathlib.Core.Path.{◌≡◌, sym, ap, ◌∙◌}
use Prim.Native.Nat.{suc}
use native.Mathlib.Omega.{arith}
use lib.ListN.{get_or, drop}
use Rattle.naming.specs.Gathering.{digit_of}
use Rattle.gathering.specs.declared.Gathered.{Gathered}
use Rattle.gathering.proofs.Acts.{unit_does}
use Rattle.gathering.proofs.Places.{in_char, in_digits, at_place}
use Rattle.gathering.proofs.name_moves.Goals as goal

pub returns-then-place-eq25 : goal.returns-then-place-eq25
returns-then-place-eq25 c =
    let a = c.args in
    λ ks objects t w g h. rw (at_place 0 ks (get_or a.json.now a.at 0) (drop (suc a.at) a.json.now) g a.place 25 c.if-place-eq25.true) (c.in_text.ensures objects t w g h)

pub returns-then-place-eq27 : goal.returns-then-place-eq27
returns-then-place-eq27 c =
    let a = c.args in
    λ ks objects t w g h. rw (at_place 0 ks (get_or a.json.now a.at 0) (drop (suc a.at) a.json.now) g a.place 27 c.if-place-eq27.true) (c.in_escape.ensures a.words.now objects t w g h)

pub returns-then-place-ge37 : goal.returns-then-place-ge37
returns-then-place-ge37 c =
    let a = c.args in
    let p = c.requires in
    λ ks objects t w g h. rw (in_char 0 ks (get_or a.json.now a.at 0) (drop (suc a.at) a.json.now) g a.place c.if-place-ge37.true (omega arith) p.3) (c.say_byte.ensures a.words.now objects t w g h)

pub returns-then-place-eq29 : goal.returns-then-place-eq29
unfolding digit_of
returns-then-place-eq29 c =
    let a = c.args in
    λ ks objects t w g h.
    let same : digit_of g.unit (get_or a.json.now a.at 0) ≡ c.hex_more-unit.result = sym (c.hex_more-unit.ensures.0 ∙ ap (λ (m : Gathered). digit_of m.unit (get_or a.json.now a.at 0)) h.numbers_are) in
    rw (at_place 0 ks (get_or a.json.now a.at 0) (drop (suc a.at) a.json.now) g a.place 29 c.if-place-eq29.true, same) (c.escape_whole.ensures a.words.now objects t w g h)

pub returns : goal.returns
unfolding digit_of
returns c =
    let a = c.args in
    let p = c.requires in
    λ ks objects t w g h.
    let same : digit_of g.unit (get_or a.json.now a.at 0) ≡ c.hex_more-unit.result = sym (c.hex_more-unit.ensures.0 ∙ ap (λ (m : Gathered). digit_of m.unit (get_or a.json.now a.at 0)) h.numbers_are) in
    rw (in_digits 0 ks (get_or a.json.now a.at 0) (drop (suc a.at) a.json.now) g a.place (omega arith) (omega arith) p.3, same) (unit_does a.text.now a.words.now objects a.n c.hex_more-unit.result t w g h)
