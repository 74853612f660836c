-- `write_sheet` meets its contract, turn by turn. Assumes nothing.
use mathlib.Core.List.{List}
use mathlib.Core.Path.{◌≡◌, ap, ◌∙◌}
use Prim.Native.Nat.{ℕ}
use native.Mathlib.Omega.{arith}
use borrow.Author.Rules.{rules}
use lib.ListN.{length}
use Rattle.jsontext.specs.Text.{Text}
use Rattle.placing.specs.Desk.{Desk, acts}
use Rattle.writing.specs.Reading.{Reading, desk_of, desk_at, Writable, Stands}
use Rattle.writing.proofs.Turns.{going_none, going_then, going_end, same_none, same_then}
use Rattle.writing.proofs.Sheets.{cleared_long, text_read, text_ready, sheet_stands}
use Rattle.writing.proofs.write_sheet.Goals as goal

-- what stands in the areas stands where they were lent from
stand : (t : Text) (words room : List ℕ) {words' room' : List ℕ} → Stands t words room words' room' → (words'' room'' : List ℕ) → words'' ≡ words' → room'' ≡ room' → Stands t words room words'' room''
stand t words room s words'' room'' e f = rw (e, f) s

pub clear_rows-requires : goal.clear_rows-requires
clear_rows-requires c = omega (arith, c.requires.writable.words_fit)

pub loop-spot-init : goal.loop-spot-init
loop-spot-init c =
    let a = c.args in
    let json = a.json.now in
    let rows = a.rows.now in
    let bytes = a.bytes.now in
    let words = a.words.now in
    let text = a.text.now in
    record {
      going = λ (s : Reading json 0 0). going_none a.n json 0 (desk_of 0 0 0 rows bytes _ text) s;
      ready = rw c.clear_rows.ensures (text_ready json a.n a.size rows bytes words text c.requires.writable (omega (arith, c.requires.sizes_bounded.1)) c.requires.sizes_bounded.2);
      same = same_none _;
    }

pub turn-spot-requires-clause-reading : goal.turn-spot-requires-clause-reading
turn-spot-requires-clause-reading c =
    let a = c.args in
    (c.loop-spot.invariant.going (text_read a.json.now a.n a.size a.rows.now a.bytes.now a.words.now a.text.now c.requires.writable)).left

pub turn-spot-requires-clause-ready_2 : goal.turn-spot-requires-clause-ready_2
turn-spot-requires-clause-ready_2 c = c.loop-spot.invariant.ready

pub loop-spot-preserved : goal.loop-spot-preserved
loop-spot-preserved c =
    let a = c.args in
    let inv = c.loop-spot.invariant in
    record {
      going =
          λ (s : Reading a.json.now 0 0).
          let g = inv.going s in
          going_then a.n a.json.now 0 (desk_of 0 0 0 a.rows.now a.bytes.now _ a.text.now) s c.loop-spot.spot.at (desk_at c.loop-spot.spot c.loop-spot.areas) g _ _
          (rw inv.same.many at (c.turn-spot.ensures.going g.left));
      ready = c.turn-spot.ensures.ready.0;
      same = same_then inv.same c.turn-spot.ensures.same;
    }

pub finish-requires : goal.finish-requires
finish-requires c =
    let a = c.args in
    let w₀ = c.requires.writable in
    (omega (arith, w₀.words_fit, c.loop-spot.invariant.same.words_same.1 ∙ ap length c.clear_rows.ensures ∙ cleared_long a.json.now a.n a.size a.rows.now a.bytes.now a.words.now a.text.now w₀), c.requires.sizes_bounded.1)

pub returns : goal.returns
returns c =
    let a = c.args in
    let json = a.json.now in
    let rows = a.rows.now in
    let bytes = a.bytes.now in
    let words = a.words.now in
    let text = a.text.now in
    let sp = c.loop-spot.spot in
    let inv = c.loop-spot.invariant in
    λ (w : Writable json a.n a.size rows bytes words text).
    let s = text_read json a.n a.size rows bytes words text w in
    let e : Desk = desk_at sp c.loop-spot.areas in
    stand w.of words text (sheet_stands json a.n a.size rows bytes words text w e
    (going_end a.n json 0 (desk_of 0 0 0 rows bytes _ text) s sp.at e (inv.going s) (omega (arith, c.loop-spot-test.false))
    ∙ ap (λ (x : List ℕ). acts a.n s.lexemes (desk_of 0 0 0 rows bytes x text)) c.clear_rows.ensures))
    _ _ (search (rules, inv.same.words_same.0, c.finish.ensures)) (search (rules, inv.same.text_same.0))
