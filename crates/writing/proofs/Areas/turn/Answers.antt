-- `turn` meets its contract.
-- Assumes nothing.
use Prim.Native.Nat.{◌+◌}
use native.Mathlib.Omega.{arith}
use Rattle.sheet.specs.declared.kind.RowKind.TheVariants.{Null, False, True, Number, Array, Object}
use Rattle.placing.specs.Desk.{Desk}
use Rattle.writing.specs.Reading.{Reading, desk_of}
use Rattle.writing.proofs.Cases.{gap_going, null_going, true_going, false_going}
use Rattle.writing.proofs.Containers.{array_going, object_going, array_end_going, object_end_going, array_room, object_room, array_open, object_open}
use Rattle.writing.proofs.Strings.{number_forward, number_going}
use Rattle.writing.proofs.Turns.{row_turn, open_turn, shut_turn, false_there}
use Rattle.writing.proofs.Areas.turn.Goals as goal

pub write_string-requires : goal.write_string-requires
write_string-requires c =
    let s₀ = c.requires.reading in
    let ok = c.requires.ready_2 in
    let l = c.requires.at_in_bounds in record {
      reading = s₀;
      ready_2 = ok;
      at_in_bounds = (l.0, l.1, c.if-byte-eq34.true);
    }

pub returns-then-byte-le44-clause-going : goal.returns-then-byte-le44-clause-going
returns-then-byte-le44-clause-going c =
    let a = c.args in
    let d : Desk = desk_of a.spot.level a.spot.label.start a.spot.label.length a.self.now.rows.now a.self.now.bytes.now a.self.now.words.now a.self.now.text.now in
    let ok = c.requires.ready_2 in
    let l = c.requires.at_in_bounds in (λ (s : Reading a.json.now a.spot.at a.spot.level). gap_going a.json.now a.spot.at a.self.now.n d s l.0 (omega arith) c.if-byte-eq34.false)

pub write_row-requires : goal.write_row-requires
write_row-requires c =
    let a = c.args in
    let ok = c.requires.ready_2 in
    let l = c.requires.at_in_bounds in
    (omega (arith, ok.low, ok.rows_long), ok.words_long, omega (arith, ok.rows_low a.spot.level, l.0, l.1))

pub returns-then-byte-le57-clause-going : goal.returns-then-byte-le57-clause-going
returns-then-byte-le57-clause-going c =
    let a = c.args in
    let d : Desk = desk_of a.spot.level a.spot.label.start a.spot.label.length a.self.now.rows.now a.self.now.bytes.now a.self.now.words.now a.self.now.text.now in
    let s₀ = c.requires.reading in
    let ok = c.requires.ready_2 in
    let l = c.requires.at_in_bounds in
    let both = row_turn a.self.now.n a.spot.at a.spot.level a.spot.label.start a.spot.label.length a.json.now a.self.now.rows.now a.self.now.bytes.now a.self.now.words.now a.self.now.text.now ok Number c.read_number-f.result.word c.read_number-f.result.scale c.read_number-f.result.to _ _ _ _ _ _ c.write_row.ensures.counted c.write_row.ensures.written c.write_row.ensures.moved (number_forward a.self.now.n a.json.now a.spot.at d s₀ l.0 (omega arith) (omega arith) _ _ _ c.read_number-f.ensures) (λ (s : Reading a.json.now a.spot.at a.spot.level). number_going a.self.now.n a.json.now a.spot.at d s l.0 (omega arith) (omega arith) _ _ _ c.read_number-f.ensures) in
    rw (c.write_row.ensures.others.0, c.write_row.ensures.others.1) both.0

pub returns-then-byte-le57-clause-ready : goal.returns-then-byte-le57-clause-ready
returns-then-byte-le57-clause-ready c =
    let a = c.args in
    let d : Desk = desk_of a.spot.level a.spot.label.start a.spot.label.length a.self.now.rows.now a.self.now.bytes.now a.self.now.words.now a.self.now.text.now in
    let s₀ = c.requires.reading in
    let ok = c.requires.ready_2 in
    let l = c.requires.at_in_bounds in
    let both = row_turn a.self.now.n a.spot.at a.spot.level a.spot.label.start a.spot.label.length a.json.now a.self.now.rows.now a.self.now.bytes.now a.self.now.words.now a.self.now.text.now ok Number c.read_number-f.result.word c.read_number-f.result.scale c.read_number-f.result.to _ _ _ _ _ _ c.write_row.ensures.counted c.write_row.ensures.written c.write_row.ensures.moved (number_forward a.self.now.n a.json.now a.spot.at d s₀ l.0 (omega arith) (omega arith) _ _ _ c.read_number-f.ensures) (λ (s : Reading a.json.now a.spot.at a.spot.level). number_going a.self.now.n a.json.now a.spot.at d s l.0 (omega arith) (omega arith) _ _ _ c.read_number-f.ensures) in
    rw (c.write_row.ensures.same.many, c.write_row.ensures.others.0) both.1

pub open_row-requires : goal.open_row-requires
open_row-requires c =
    let a = c.args in
    let d : Desk = desk_of a.spot.level a.spot.label.start a.spot.label.length a.self.now.rows.now a.self.now.bytes.now a.self.now.words.now a.self.now.text.now in
    let s₀ = c.requires.reading in
    let ok = c.requires.ready_2 in
    let l = c.requires.at_in_bounds in
    (omega (arith, array_room a.json.now a.spot.at a.self.now.n d s₀ l.0 c.if-byte-eq91.true, ok.rows_long), ok.words_long, omega (arith, ok.rows_low a.spot.level, l.0, l.1), omega (arith, l.0, l.1))

pub returns-then-byte-eq91-clause-going : goal.returns-then-byte-eq91-clause-going
returns-then-byte-eq91-clause-going c =
    let a = c.args in
    let d : Desk = desk_of a.spot.level a.spot.label.start a.spot.label.length a.self.now.rows.now a.self.now.bytes.now a.self.now.words.now a.self.now.text.now in
    let s₀ = c.requires.reading in
    let ok = c.requires.ready_2 in
    let l = c.requires.at_in_bounds in
    let both = open_turn a.self.now.n a.spot.at a.spot.level a.spot.label.start a.spot.label.length a.json.now a.self.now.rows.now a.self.now.bytes.now a.self.now.words.now a.self.now.text.now ok Array _ _ _ _ _ _ c.open_row.ensures.counted c.open_row.ensures.written c.open_row.ensures.moved (array_room a.json.now a.spot.at a.self.now.n d s₀ l.0 c.if-byte-eq91.true) (λ (s : Reading a.json.now a.spot.at a.spot.level). array_going a.json.now a.spot.at a.self.now.n d s l.0 c.if-byte-eq91.true) in
    rw (c.open_row.ensures.others.0, c.open_row.ensures.others.1) both.0

pub returns-then-byte-eq91-clause-ready : goal.returns-then-byte-eq91-clause-ready
returns-then-byte-eq91-clause-ready c =
    let a = c.args in
    let d : Desk = desk_of a.spot.level a.spot.label.start a.spot.label.length a.self.now.rows.now a.self.now.bytes.now a.self.now.words.now a.self.now.text.now in
    let s₀ = c.requires.reading in
    let ok = c.requires.ready_2 in
    let l = c.requires.at_in_bounds in
    let both = open_turn a.self.now.n a.spot.at a.spot.level a.spot.label.start a.spot.label.length a.json.now a.self.now.rows.now a.self.now.bytes.now a.self.now.words.now a.self.now.text.now ok Array _ _ _ _ _ _ c.open_row.ensures.counted c.open_row.ensures.written c.open_row.ensures.moved (array_room a.json.now a.spot.at a.self.now.n d s₀ l.0 c.if-byte-eq91.true) (λ (s : Reading a.json.now a.spot.at a.spot.level). array_going a.json.now a.spot.at a.self.now.n d s l.0 c.if-byte-eq91.true) in
    rw (c.open_row.ensures.same.many, c.open_row.ensures.others.0) both.1

pub open_row-requires-then-byte-eq123 : goal.open_row-requires-then-byte-eq123
open_row-requires-then-byte-eq123 c =
    let a = c.args in
    let d : Desk = desk_of a.spot.level a.spot.label.start a.spot.label.length a.self.now.rows.now a.self.now.bytes.now a.self.now.words.now a.self.now.text.now in
    let s₀ = c.requires.reading in
    let ok = c.requires.ready_2 in
    let l = c.requires.at_in_bounds in
    (omega (arith, object_room a.json.now a.spot.at a.self.now.n d s₀ l.0 c.if-byte-eq123.true, ok.rows_long), ok.words_long, omega (arith, ok.rows_low a.spot.level, l.0, l.1), omega (arith, l.0, l.1))

pub returns-then-byte-eq123-clause-going : goal.returns-then-byte-eq123-clause-going
returns-then-byte-eq123-clause-going c =
    let a = c.args in
    let d : Desk = desk_of a.spot.level a.spot.label.start a.spot.label.length a.self.now.rows.now a.self.now.bytes.now a.self.now.words.now a.self.now.text.now in
    let s₀ = c.requires.reading in
    let ok = c.requires.ready_2 in
    let l = c.requires.at_in_bounds in
    let both = open_turn a.self.now.n a.spot.at a.spot.level a.spot.label.start a.spot.label.length a.json.now a.self.now.rows.now a.self.now.bytes.now a.self.now.words.now a.self.now.text.now ok Object _ _ _ _ _ _ c.open_row-then-byte-eq123.ensures.counted c.open_row-then-byte-eq123.ensures.written c.open_row-then-byte-eq123.ensures.moved (object_room a.json.now a.spot.at a.self.now.n d s₀ l.0 c.if-byte-eq123.true) (λ (s : Reading a.json.now a.spot.at a.spot.level). object_going a.json.now a.spot.at a.self.now.n d s l.0 c.if-byte-eq123.true) in
    rw (c.open_row-then-byte-eq123.ensures.others.0, c.open_row-then-byte-eq123.ensures.others.1) both.0

pub returns-then-byte-eq123-clause-ready : goal.returns-then-byte-eq123-clause-ready
returns-then-byte-eq123-clause-ready c =
    let a = c.args in
    let d : Desk = desk_of a.spot.level a.spot.label.start a.spot.label.length a.self.now.rows.now a.self.now.bytes.now a.self.now.words.now a.self.now.text.now in
    let s₀ = c.requires.reading in
    let ok = c.requires.ready_2 in
    let l = c.requires.at_in_bounds in
    let both = open_turn a.self.now.n a.spot.at a.spot.level a.spot.label.start a.spot.label.length a.json.now a.self.now.rows.now a.self.now.bytes.now a.self.now.words.now a.self.now.text.now ok Object _ _ _ _ _ _ c.open_row-then-byte-eq123.ensures.counted c.open_row-then-byte-eq123.ensures.written c.open_row-then-byte-eq123.ensures.moved (object_room a.json.now a.spot.at a.self.now.n d s₀ l.0 c.if-byte-eq123.true) (λ (s : Reading a.json.now a.spot.at a.spot.level). object_going a.json.now a.spot.at a.self.now.n d s l.0 c.if-byte-eq123.true) in
    rw (c.open_row-then-byte-eq123.ensures.same.many, c.open_row-then-byte-eq123.ensures.others.0) both.1

pub close_row-requires : goal.close_row-requires
close_row-requires c =
    let a = c.args in
    let d : Desk = desk_of a.spot.level a.spot.label.start a.spot.label.length a.self.now.rows.now a.self.now.bytes.now a.self.now.words.now a.self.now.text.now in
    let s₀ = c.requires.reading in
    let ok = c.requires.ready_2 in
    let l = c.requires.at_in_bounds in
    (array_open a.json.now a.spot.at a.self.now.n d s₀ l.0 c.if-byte-eq93.true, omega (arith, ok.low, ok.rows_long), ok.words_long, omega (arith, l.0, l.1))

pub returns-then-byte-eq93-clause-going : goal.returns-then-byte-eq93-clause-going
returns-then-byte-eq93-clause-going c =
    let a = c.args in
    let d : Desk = desk_of a.spot.level a.spot.label.start a.spot.label.length a.self.now.rows.now a.self.now.bytes.now a.self.now.words.now a.self.now.text.now in
    let ok = c.requires.ready_2 in
    let l = c.requires.at_in_bounds in
    let both = shut_turn a.self.now.n a.spot.at a.spot.level a.spot.label.start a.spot.label.length a.json.now a.self.now.rows.now a.self.now.bytes.now a.self.now.words.now a.self.now.text.now ok _ _ _ _ _ c.close_row.ensures.written c.close_row.ensures.moved (λ (s : Reading a.json.now a.spot.at a.spot.level). array_end_going a.json.now a.spot.at a.self.now.n d s l.0 c.if-byte-eq93.true) in
    rw (c.close_row.ensures.others.0, c.close_row.ensures.others.1, c.close_row.ensures.others.2) both.0

pub returns-then-byte-eq93-clause-ready : goal.returns-then-byte-eq93-clause-ready
returns-then-byte-eq93-clause-ready c =
    let a = c.args in
    let d : Desk = desk_of a.spot.level a.spot.label.start a.spot.label.length a.self.now.rows.now a.self.now.bytes.now a.self.now.words.now a.self.now.text.now in
    let ok = c.requires.ready_2 in
    let l = c.requires.at_in_bounds in
    let both = shut_turn a.self.now.n a.spot.at a.spot.level a.spot.label.start a.spot.label.length a.json.now a.self.now.rows.now a.self.now.bytes.now a.self.now.words.now a.self.now.text.now ok _ _ _ _ _ c.close_row.ensures.written c.close_row.ensures.moved (λ (s : Reading a.json.now a.spot.at a.spot.level). array_end_going a.json.now a.spot.at a.self.now.n d s l.0 c.if-byte-eq93.true) in
    rw (c.close_row.ensures.same.many, c.close_row.ensures.others.0, c.close_row.ensures.others.1) both.1

pub close_row-requires-then-byte-eq125 : goal.close_row-requires-then-byte-eq125
close_row-requires-then-byte-eq125 c =
    let a = c.args in
    let d : Desk = desk_of a.spot.level a.spot.label.start a.spot.label.length a.self.now.rows.now a.self.now.bytes.now a.self.now.words.now a.self.now.text.now in
    let s₀ = c.requires.reading in
    let ok = c.requires.ready_2 in
    let l = c.requires.at_in_bounds in
    (object_open a.json.now a.spot.at a.self.now.n d s₀ l.0 c.if-byte-eq125.true, omega (arith, ok.low, ok.rows_long), ok.words_long, omega (arith, l.0, l.1))

pub returns-then-byte-eq125-clause-going : goal.returns-then-byte-eq125-clause-going
returns-then-byte-eq125-clause-going c =
    let a = c.args in
    let d : Desk = desk_of a.spot.level a.spot.label.start a.spot.label.length a.self.now.rows.now a.self.now.bytes.now a.self.now.words.now a.self.now.text.now in
    let ok = c.requires.ready_2 in
    let l = c.requires.at_in_bounds in
    let both = shut_turn a.self.now.n a.spot.at a.spot.level a.spot.label.start a.spot.label.length a.json.now a.self.now.rows.now a.self.now.bytes.now a.self.now.words.now a.self.now.text.now ok _ _ _ _ _ c.close_row-then-byte-eq125.ensures.written c.close_row-then-byte-eq125.ensures.moved (λ (s : Reading a.json.now a.spot.at a.spot.level). object_end_going a.json.now a.spot.at a.self.now.n d s l.0 c.if-byte-eq125.true) in
    rw (c.close_row-then-byte-eq125.ensures.others.0, c.close_row-then-byte-eq125.ensures.others.1, c.close_row-then-byte-eq125.ensures.others.2) both.0

pub returns-then-byte-eq125-clause-ready : goal.returns-then-byte-eq125-clause-ready
returns-then-byte-eq125-clause-ready c =
    let a = c.args in
    let d : Desk = desk_of a.spot.level a.spot.label.start a.spot.label.length a.self.now.rows.now a.self.now.bytes.now a.self.now.words.now a.self.now.text.now in
    let ok = c.requires.ready_2 in
    let l = c.requires.at_in_bounds in
    let both = shut_turn a.self.now.n a.spot.at a.spot.level a.spot.label.start a.spot.label.length a.json.now a.self.now.rows.now a.self.now.bytes.now a.self.now.words.now a.self.now.text.now ok _ _ _ _ _ c.close_row-then-byte-eq125.ensures.written c.close_row-then-byte-eq125.ensures.moved (λ (s : Reading a.json.now a.spot.at a.spot.level). object_end_going a.json.now a.spot.at a.self.now.n d s l.0 c.if-byte-eq125.true) in
    rw (c.close_row-then-byte-eq125.ensures.same.many, c.close_row-then-byte-eq125.ensures.others.0, c.close_row-then-byte-eq125.ensures.others.1) both.1

pub write_row-requires-then-byte-eq110 : goal.write_row-requires-then-byte-eq110
write_row-requires-then-byte-eq110 c =
    let a = c.args in
    let ok = c.requires.ready_2 in
    let l = c.requires.at_in_bounds in
    (omega (arith, ok.low, ok.rows_long), ok.words_long, omega (arith, ok.rows_low a.spot.level, l.0, l.1))

pub returns-then-byte-eq110-clause-going : goal.returns-then-byte-eq110-clause-going
returns-then-byte-eq110-clause-going c =
    let a = c.args in
    let d : Desk = desk_of a.spot.level a.spot.label.start a.spot.label.length a.self.now.rows.now a.self.now.bytes.now a.self.now.words.now a.self.now.text.now in
    let ok = c.requires.ready_2 in
    let l = c.requires.at_in_bounds in
    let both = row_turn a.self.now.n a.spot.at a.spot.level a.spot.label.start a.spot.label.length a.json.now a.self.now.rows.now a.self.now.bytes.now a.self.now.words.now a.self.now.text.now ok Null 0 0 (a.spot.at + 4) _ _ _ _ _ _ c.write_row-then-byte-eq110.ensures.counted c.write_row-then-byte-eq110.ensures.written c.write_row-then-byte-eq110.ensures.moved (omega arith) (λ (s : Reading a.json.now a.spot.at a.spot.level). null_going a.json.now a.spot.at a.self.now.n d s l.0 c.if-byte-eq110.true) in
    rw (c.write_row-then-byte-eq110.ensures.others.0, c.write_row-then-byte-eq110.ensures.others.1) both.0

pub returns-then-byte-eq110-clause-ready : goal.returns-then-byte-eq110-clause-ready
returns-then-byte-eq110-clause-ready c =
    let a = c.args in
    let d : Desk = desk_of a.spot.level a.spot.label.start a.spot.label.length a.self.now.rows.now a.self.now.bytes.now a.self.now.words.now a.self.now.text.now in
    let ok = c.requires.ready_2 in
    let l = c.requires.at_in_bounds in
    let both = row_turn a.self.now.n a.spot.at a.spot.level a.spot.label.start a.spot.label.length a.json.now a.self.now.rows.now a.self.now.bytes.now a.self.now.words.now a.self.now.text.now ok Null 0 0 (a.spot.at + 4) _ _ _ _ _ _ c.write_row-then-byte-eq110.ensures.counted c.write_row-then-byte-eq110.ensures.written c.write_row-then-byte-eq110.ensures.moved (omega arith) (λ (s : Reading a.json.now a.spot.at a.spot.level). null_going a.json.now a.spot.at a.self.now.n d s l.0 c.if-byte-eq110.true) in
    rw (c.write_row-then-byte-eq110.ensures.same.many, c.write_row-then-byte-eq110.ensures.others.0) both.1

pub write_row-requires-then-byte-eq116 : goal.write_row-requires-then-byte-eq116
write_row-requires-then-byte-eq116 c =
    let a = c.args in
    let ok = c.requires.ready_2 in
    let l = c.requires.at_in_bounds in
    (omega (arith, ok.low, ok.rows_long), ok.words_long, omega (arith, ok.rows_low a.spot.level, l.0, l.1))

pub returns-then-byte-eq116-clause-going : goal.returns-then-byte-eq116-clause-going
returns-then-byte-eq116-clause-going c =
    let a = c.args in
    let d : Desk = desk_of a.spot.level a.spot.label.start a.spot.label.length a.self.now.rows.now a.self.now.bytes.now a.self.now.words.now a.self.now.text.now in
    let ok = c.requires.ready_2 in
    let l = c.requires.at_in_bounds in
    let both = row_turn a.self.now.n a.spot.at a.spot.level a.spot.label.start a.spot.label.length a.json.now a.self.now.rows.now a.self.now.bytes.now a.self.now.words.now a.self.now.text.now ok True 0 0 (a.spot.at + 4) _ _ _ _ _ _ c.write_row-then-byte-eq116.ensures.counted c.write_row-then-byte-eq116.ensures.written c.write_row-then-byte-eq116.ensures.moved (omega arith) (λ (s : Reading a.json.now a.spot.at a.spot.level). true_going a.json.now a.spot.at a.self.now.n d s l.0 c.if-byte-eq116.true) in
    rw (c.write_row-then-byte-eq116.ensures.others.0, c.write_row-then-byte-eq116.ensures.others.1) both.0

pub returns-then-byte-eq116-clause-ready : goal.returns-then-byte-eq116-clause-ready
returns-then-byte-eq116-clause-ready c =
    let a = c.args in
    let d : Desk = desk_of a.spot.level a.spot.label.start a.spot.label.length a.self.now.rows.now a.self.now.bytes.now a.self.now.words.now a.self.now.text.now in
    let ok = c.requires.ready_2 in
    let l = c.requires.at_in_bounds in
    let both = row_turn a.self.now.n a.spot.at a.spot.level a.spot.label.start a.spot.label.length a.json.now a.self.now.rows.now a.self.now.bytes.now a.self.now.words.now a.self.now.text.now ok True 0 0 (a.spot.at + 4) _ _ _ _ _ _ c.write_row-then-byte-eq116.ensures.counted c.write_row-then-byte-eq116.ensures.written c.write_row-then-byte-eq116.ensures.moved (omega arith) (λ (s : Reading a.json.now a.spot.at a.spot.level). true_going a.json.now a.spot.at a.self.now.n d s l.0 c.if-byte-eq116.true) in
    rw (c.write_row-then-byte-eq116.ensures.same.many, c.write_row-then-byte-eq116.ensures.others.0) both.1

pub write_row-requires-2 : goal.write_row-requires-2
write_row-requires-2 c =
    let a = c.args in
    let ok = c.requires.ready_2 in
    let l = c.requires.at_in_bounds in
    (omega (arith, ok.low, ok.rows_long), ok.words_long, omega (arith, ok.rows_low a.spot.level, l.0, l.1))

pub returns-clause-going : goal.returns-clause-going
returns-clause-going c =
    let a = c.args in
    let d : Desk = desk_of a.spot.level a.spot.label.start a.spot.label.length a.self.now.rows.now a.self.now.bytes.now a.self.now.words.now a.self.now.text.now in
    let ok = c.requires.ready_2 in
    let l = c.requires.at_in_bounds in
    let both = row_turn a.self.now.n a.spot.at a.spot.level a.spot.label.start a.spot.label.length a.json.now a.self.now.rows.now a.self.now.bytes.now a.self.now.words.now a.self.now.text.now ok False 0 0 (a.spot.at + 5) _ _ _ _ _ _ c.write_row-2.ensures.counted c.write_row-2.ensures.written c.write_row-2.ensures.moved (omega arith) (λ (s : Reading a.json.now a.spot.at a.spot.level). false_going a.json.now a.spot.at a.self.now.n d s l.0 (false_there a.self.now.n a.spot.at a.spot.level a.spot.label.start a.spot.label.length a.json.now a.self.now.rows.now a.self.now.bytes.now a.self.now.words.now a.self.now.text.now ok s l.0 (omega arith) c.if-byte-eq91.false c.if-byte-eq123.false c.if-byte-eq93.false c.if-byte-eq125.false c.if-byte-eq110.false c.if-byte-eq116.false)) in
    rw (c.write_row-2.ensures.others.0, c.write_row-2.ensures.others.1) both.0

pub returns-clause-ready : goal.returns-clause-ready
returns-clause-ready c =
    let a = c.args in
    let d : Desk = desk_of a.spot.level a.spot.label.start a.spot.label.length a.self.now.rows.now a.self.now.bytes.now a.self.now.words.now a.self.now.text.now in
    let ok = c.requires.ready_2 in
    let l = c.requires.at_in_bounds in
    let both = row_turn a.self.now.n a.spot.at a.spot.level a.spot.label.start a.spot.label.length a.json.now a.self.now.rows.now a.self.now.bytes.now a.self.now.words.now a.self.now.text.now ok False 0 0 (a.spot.at + 5) _ _ _ _ _ _ c.write_row-2.ensures.counted c.write_row-2.ensures.written c.write_row-2.ensures.moved (omega arith) (λ (s : Reading a.json.now a.spot.at a.spot.level). false_going a.json.now a.spot.at a.self.now.n d s l.0 (false_there a.self.now.n a.spot.at a.spot.level a.spot.label.start a.spot.label.length a.json.now a.self.now.rows.now a.self.now.bytes.now a.self.now.words.now a.self.now.text.now ok s l.0 (omega arith) c.if-byte-eq91.false c.if-byte-eq123.false c.if-byte-eq93.false c.if-byte-eq125.false c.if-byte-eq110.false c.if-byte-eq116.false)) in
    rw (c.write_row-2.ensures.same.many, c.write_row-2.ensures.others.0) both.1
