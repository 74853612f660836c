-- `laying::write` meets its contract.
-- Assumes nothing.
use mathlib.Core.Path.{◌∙◌}
use native.Mathlib.Omega.{arith}
use borrow.Author.Rules.{rules, Fits-under}
use Rattle.laying.specs.Laying.{Countable}
use Rattle.laying.proofs.Outcomes.{words_short, room_short}
use Rattle.laying.proofs.Counted.{values_long, texts_long, rows_all, bytes_all, rows_few, bytes_few, writable, laid}
use Rattle.laying.proofs.write.Goals as goal

pub start_levels-n-requires : goal.start_levels-n-requires
start_levels-n-requires c =
    let a = c.args in
    let p = c.requires.countable in
    (omega (arith, values_long a.json.now a.values.now a.texts.now p), omega (arith, rows_few a.json.now a.values.now a.texts.now p))

pub start_levels-size-requires : goal.start_levels-size-requires
start_levels-size-requires c =
    let a = c.args in
    let p = c.requires.countable in
    (omega (arith, texts_long a.json.now a.values.now a.texts.now p), bytes_few a.json.now a.values.now a.texts.now p c.requires.json_len_bound)

pub overflow_mul-needed : goal.overflow_mul-needed
overflow_mul-needed c =
    let a = c.args in
    let n = c.start_levels-n in
    Fits-under _ _ 6_145 (omega (arith, n.ensures.0, rows_few a.json.now a.values.now a.texts.now c.requires.countable)) tt

pub overflow_add-needed : goal.overflow_add-needed
overflow_add-needed c =
    let a = c.args in
    let n = c.start_levels-n in
    Fits-under _ _ 6_149 (omega (arith, n.ensures.0, rows_few a.json.now a.values.now a.texts.now c.requires.countable)) tt

pub returns-then-words-needed : goal.returns-then-words-needed
returns-then-words-needed c =
    let a = c.args in
    let n = c.start_levels-n in
    let m = c.start_levels-size in
    λ (w : Countable a.json.now a.values.now a.texts.now).
    words_short w.of w.clean a.words.now a.text.now n.result m.result
    (n.ensures.0 ∙ rows_all a.json.now a.values.now a.texts.now w)
    (m.ensures.0 ∙ bytes_all a.json.now a.values.now a.texts.now w)
    c.if-words-needed.true

pub returns-then-text-size : goal.returns-then-text-size
returns-then-text-size c =
    let a = c.args in
    let n = c.start_levels-n in
    let m = c.start_levels-size in
    λ (w : Countable a.json.now a.values.now a.texts.now).
    room_short w.of w.clean a.words.now a.text.now n.result m.result
    (n.ensures.0 ∙ rows_all a.json.now a.values.now a.texts.now w)
    (m.ensures.0 ∙ bytes_all a.json.now a.values.now a.texts.now w)
    c.if-words-needed.false
    c.if-text-size.true

pub write_sheet-requires : goal.write_sheet-requires
write_sheet-requires c =
    let a = c.args in
    let n = c.start_levels-n in
    let m = c.start_levels-size in
    let p = c.requires.countable in
    let few = rows_few a.json.now a.values.now a.texts.now p in
    let short = bytes_few a.json.now a.values.now a.texts.now p c.requires.json_len_bound in record {
      writable = writable a.json.now a.values.now a.texts.now p n.result m.result n.new.starts m.new.starts a.words.now a.text.now
          n.ensures.0 m.ensures.0 n.ensures.1 m.ensures.1 (search rules) (search rules) c.if-words-needed.false c.if-text-size.false;
      sizes_bounded = (c.requires.json_len_bound, omega (arith, n.ensures.0, few), omega (arith, m.ensures.0, short));
    }

pub returns : goal.returns
returns c =
    let a = c.args in
    let n = c.start_levels-n in
    let m = c.start_levels-size in
    λ (w : Countable a.json.now a.values.now a.texts.now).
    laid a.json.now a.values.now a.texts.now w n.result m.result n.new.starts m.new.starts a.words.now a.text.now
    n.ensures.0 m.ensures.0 n.ensures.1 m.ensures.1 (search rules) (search rules) c.if-words-needed.false c.if-text-size.false
    c.write_sheet.new.words c.write_sheet.new.text c.write_sheet.ensures
