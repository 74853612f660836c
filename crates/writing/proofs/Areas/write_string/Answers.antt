-- `write_string` meets its contract.
-- Assumes nothing.
use mathlib.Core.List.{[], List, ◌∷◌}
use mathlib.Core.Path.{◌≡◌, sym, ◌∙◌}
use Prim.Native.Nat.{ℕ, ◌+◌, ◌-◌}
use native.Mathlib.Omega.{arith}
use lib.ListN.{get_or, drop, set}
use Rattle.placing.specs.Desk.{Desk, rowed, owner_at}
use Rattle.writing.specs.Reading.{blanks_of, Reading, desk_of}
use Rattle.figures.proofs.Parts.{byte_inside}
use Rattle.writing.proofs.Strings.{string_at, name_going, string_going}
use Rattle.writing.proofs.Ready.{ready_row, ready_bytes}
use Rattle.writing.proofs.Areas.write_string.Goals as goal

pub overflow_cast-from : goal.overflow_cast-from
overflow_cast-from c =
    let a = c.args in
    let k = a.spot.level in
    let ok = c.requires.ready_2 in
    let l = c.requires.at_in_bounds in
    omega (arith, ok.bytes_low k, l.0, l.1)

pub copy_string-end-requires : goal.copy_string-end-requires
copy_string-end-requires c =
    let a = c.args in
    let json = a.json.now in
    let i = a.spot.at in
    let k = a.spot.level in
    let rows = a.self.now.rows.now in
    let bytes = a.self.now.bytes.now in
    let words = a.self.now.words.now in
    let text = a.self.now.text.now in
    let d : Desk = desk_of k a.spot.label.start a.spot.label.length rows bytes words text in
    let ok = c.requires.ready_2 in
    let l = c.requires.at_in_bounds in record {
      string_goes_on = string_at a.self.now.n json i d c.requires.reading l.0 l.2;
      sizes_bounded = (omega (arith, ok.bytes_low k, l.0, l.1), omega (arith, l.1));
    }

pub overflow_cast-size : goal.overflow_cast-size
overflow_cast-size c =
    let a = c.args in
    let k = a.spot.level in
    let ok = c.requires.ready_2 in
    let l = c.requires.at_in_bounds in
    omega (arith, ok.bytes_low k, l.0, l.1)

pub overflow_sub-size : goal.overflow_sub-size
overflow_sub-size c =
    let a = c.args in
    let json = a.json.now in
    let i = a.spot.at in
    let k = a.spot.level in
    let rows = a.self.now.rows.now in
    let bytes = a.self.now.bytes.now in
    let words = a.self.now.words.now in
    let text = a.self.now.text.now in
    let d : Desk = desk_of k a.spot.label.start a.spot.label.length rows bytes words text in
    let l = c.requires.at_in_bounds in
    let c₀ = c.copy_string-end.ensures (string_at a.self.now.n json i d c.requires.reading l.0 l.2) in
    omega (arith, c₀.size_is)

pub overflow_cast-size-2 : goal.overflow_cast-size-2
overflow_cast-size-2 c =
    let a = c.args in
    let json = a.json.now in
    let i = a.spot.at in
    let k = a.spot.level in
    let rows = a.self.now.rows.now in
    let bytes = a.self.now.bytes.now in
    let words = a.self.now.words.now in
    let text = a.self.now.text.now in
    let d : Desk = desk_of k a.spot.label.start a.spot.label.length rows bytes words text in
    let ok = c.requires.ready_2 in
    let l = c.requires.at_in_bounds in
    let c₀ = c.copy_string-end.ensures (string_at a.self.now.n json i d c.requires.reading l.0 l.2) in
    omega (arith, ok.bytes_low k, l.0, l.1, c₀.size_is, c₀.within, c₀.no_longer)

pub overflow_add-self : goal.overflow_add-self
overflow_add-self c =
    let a = c.args in
    let json = a.json.now in
    let i = a.spot.at in
    let k = a.spot.level in
    let rows = a.self.now.rows.now in
    let bytes = a.self.now.bytes.now in
    let words = a.self.now.words.now in
    let text = a.self.now.text.now in
    let d : Desk = desk_of k a.spot.label.start a.spot.label.length rows bytes words text in
    let ok = c.requires.ready_2 in
    let l = c.requires.at_in_bounds in
    let c₀ = c.copy_string-end.ensures (string_at a.self.now.n json i d c.requires.reading l.0 l.2) in
    omega (arith, ok.bytes_low k, l.0, l.1, c₀.size_is, c₀.within, c₀.no_longer)

pub skip-behind-requires : goal.skip-behind-requires
skip-behind-requires c =
    let a = c.args in
    let json = a.json.now in
    let i = a.spot.at in
    let k = a.spot.level in
    let rows = a.self.now.rows.now in
    let bytes = a.self.now.bytes.now in
    let words = a.self.now.words.now in
    let text = a.self.now.text.now in
    let d : Desk = desk_of k a.spot.label.start a.spot.label.length rows bytes words text in
    let l = c.requires.at_in_bounds in
    let c₀ = c.copy_string-end.ensures (string_at a.self.now.n json i d c.requires.reading l.0 l.2) in
    omega (arith, c₀.within, l.1)

pub overflow_add-result : goal.overflow_add-result
overflow_add-result c =
    let a = c.args in let json = a.json.now in let l = c.requires.at_in_bounds in let b : get_or json c.skip-behind.result 0 ≡ 0x3A = sym c.byte_at.ensures ∙ c.if-byte_at-eq58.true in let m = byte_inside json c.skip-behind.result (λ z. omega (arith, b)) in omega (arith, m, l.1)

pub returns-then-byte_at-eq58-clause-going : goal.returns-then-byte_at-eq58-clause-going
returns-then-byte_at-eq58-clause-going c =
    let a = c.args in
    let json = a.json.now in
    let i = a.spot.at in
    let k = a.spot.level in
    let rows = a.self.now.rows.now in
    let bytes = a.self.now.bytes.now in
    let words = a.self.now.words.now in
    let text = a.self.now.text.now in
    let d : Desk = desk_of k a.spot.label.start a.spot.label.length rows bytes words text in
    let ok = c.requires.ready_2 in
    let l = c.requires.at_in_bounds in
    let r = c.copy_string-end.result in
    let c₀ = c.copy_string-end.ensures (string_at a.self.now.n json i d c.requires.reading l.0 l.2) in
    let b : get_or json (r.to + blanks_of (drop r.to json)) 0 ≡ 0x3A = rw (← c.skip-behind.ensures) (sym c.byte_at.ensures ∙ c.if-byte_at-eq58.true) in
    rw c.skip-behind.ensures (λ (s : Reading json i k). name_going a.self.now.n json i d s l.0 l.2 r.to r.at _ c.copy_string-end.ensures b)

pub returns-then-byte_at-eq58-clause-ready : goal.returns-then-byte_at-eq58-clause-ready
returns-then-byte_at-eq58-clause-ready c =
    let a = c.args in
    let json = a.json.now in
    let i = a.spot.at in
    let k = a.spot.level in
    let rows = a.self.now.rows.now in
    let bytes = a.self.now.bytes.now in
    let words = a.self.now.words.now in
    let text = a.self.now.text.now in
    let d : Desk = desk_of k a.spot.label.start a.spot.label.length rows bytes words text in
    let ok = c.requires.ready_2 in
    let l = c.requires.at_in_bounds in
    let r = c.copy_string-end.result in
    let c₀ = c.copy_string-end.ensures (string_at a.self.now.n json i d c.requires.reading l.0 l.2) in
    let b : get_or json (r.to + blanks_of (drop r.to json)) 0 ≡ 0x3A = rw (← c.skip-behind.ensures) (sym c.byte_at.ensures ∙ c.if-byte_at-eq58.true) in
    rw c.skip-behind.ensures (
      ready_bytes a.self.now.n i k rows bytes words ok (r.to + blanks_of (drop r.to json) + 1) (get_or bytes k 0 + (r.at - get_or bytes k 0)) (omega (arith, ok.bytes_low k, c₀.size_is, c₀.no_longer)) (omega (arith, c₀.forward)),
      omega (arith, c₀.forward),
    )

pub write_row-requires : goal.write_row-requires
write_row-requires c =
    let a = c.args in
    let k = a.spot.level in
    let ok = c.requires.ready_2 in
    let l = c.requires.at_in_bounds in
    (omega (arith, ok.low, ok.rows_long), ok.words_long, omega (arith, ok.rows_low k, l.0, l.1))

pub returns-clause-going : goal.returns-clause-going
unfolding rowed
returns-clause-going c =
    let a = c.args in
    let json = a.json.now in
    let i = a.spot.at in
    let k = a.spot.level in
    let rows = a.self.now.rows.now in
    let bytes = a.self.now.bytes.now in
    let words = a.self.now.words.now in
    let text = a.self.now.text.now in
    let d : Desk = desk_of k a.spot.label.start a.spot.label.length rows bytes words text in
    let ok = c.requires.ready_2 in
    let l = c.requires.at_in_bounds in
    let r = c.copy_string-end.result in
    let c₀ = c.copy_string-end.ensures (string_at a.self.now.n json i d c.requires.reading l.0 l.2) in
    let b : get_or json (r.to + blanks_of (drop r.to json)) 0 ≡ 0x3A → ⊥ = rw (← c.skip-behind.ensures) (λ (z : get_or json c.skip-behind.result 0 ≡ 0x3A). c.if-byte_at-eq58.false (c.byte_at.ensures ∙ z)) in
    let size = r.at - get_or bytes k 0 in
    let six : List ℕ = 4 ∷ get_or bytes k 0 ∷ size ∷ owner_at k rows ∷ a.spot.label.start ∷ a.spot.label.length ∷ [] in
    rw (c.write_row.ensures.counted, c.write_row.ensures.written, c.write_row.ensures.others.0, c.write_row.ensures.others.1, c.write_row.ensures.moved.0, c.write_row.ensures.moved.1, c.write_row.ensures.moved.2, c.write_row.ensures.moved.3) (λ (s : Reading json i k). string_going a.self.now.n json i d s l.0 l.2 r.to r.at _ c.copy_string-end.ensures b)

pub returns-clause-ready : goal.returns-clause-ready
unfolding rowed
returns-clause-ready c =
    let a = c.args in
    let json = a.json.now in
    let i = a.spot.at in
    let k = a.spot.level in
    let rows = a.self.now.rows.now in
    let bytes = a.self.now.bytes.now in
    let words = a.self.now.words.now in
    let text = a.self.now.text.now in
    let d : Desk = desk_of k a.spot.label.start a.spot.label.length rows bytes words text in
    let ok = c.requires.ready_2 in
    let l = c.requires.at_in_bounds in
    let r = c.copy_string-end.result in
    let c₀ = c.copy_string-end.ensures (string_at a.self.now.n json i d c.requires.reading l.0 l.2) in
    let b : get_or json (r.to + blanks_of (drop r.to json)) 0 ≡ 0x3A → ⊥ = rw (← c.skip-behind.ensures) (λ (z : get_or json c.skip-behind.result 0 ≡ 0x3A). c.if-byte_at-eq58.false (c.byte_at.ensures ∙ z)) in
    let size = r.at - get_or bytes k 0 in
    let six : List ℕ = 4 ∷ get_or bytes k 0 ∷ size ∷ owner_at k rows ∷ a.spot.label.start ∷ a.spot.label.length ∷ [] in
    rw (c.write_row.ensures.same.many, c.write_row.ensures.counted, c.write_row.ensures.written, c.write_row.ensures.others.0, c.write_row.ensures.moved.0, c.write_row.ensures.moved.1) (
      ready_bytes a.self.now.n r.to k (set rows k (get_or rows k 0 + 1)) bytes _ (ready_row a.self.now.n i k rows bytes words ok r.to (get_or rows k 0) six (omega (arith, c₀.forward))) r.to (get_or bytes k 0 + size) (omega (arith, ok.bytes_low k, c₀.size_is, c₀.no_longer)) (omega arith),
      omega (arith, c₀.forward),
    )
