-- `RecordForm::of` meets its contract: a trailer in order says where row 0 is. Assumes nothing.
use native.Mathlib.Omega.{arith}
use Rattle.sheet.specs.Record.{form_of}
use Rattle.sheet.proofs.Trailers.{trailer_facts}
use Rattle.sheet.proofs.record.RecordForm.of.Goals as goal

pub overflow_sub-size : goal.overflow_sub-size
overflow_sub-size c = omega (arith, (trailer_facts c.args.words.now c.requires).long, (trailer_facts c.args.words.now c.requires).room, (trailer_facts c.args.words.now c.requires).back_is)

pub bounds-words-size : goal.bounds-words-size
bounds-words-size c = omega (arith, (trailer_facts c.args.words.now c.requires).long, (trailer_facts c.args.words.now c.requires).room, (trailer_facts c.args.words.now c.requires).back_is)

pub overflow_sub-result : goal.overflow_sub-result
overflow_sub-result c = omega (arith, (trailer_facts c.args.words.now c.requires).long, (trailer_facts c.args.words.now c.requires).room, (trailer_facts c.args.words.now c.requires).back_is, c.wide-back.ensures)

pub overflow_sub-result-2 : goal.overflow_sub-result-2
overflow_sub-result-2 c = omega (arith, (trailer_facts c.args.words.now c.requires).long, (trailer_facts c.args.words.now c.requires).room, (trailer_facts c.args.words.now c.requires).back_is, c.wide-back.ensures)

pub overflow_sub-result-3 : goal.overflow_sub-result-3
overflow_sub-result-3 c = omega (arith, (trailer_facts c.args.words.now c.requires).long, (trailer_facts c.args.words.now c.requires).room, (trailer_facts c.args.words.now c.requires).back_is, c.wide-back.ensures)

pub bounds-words-size-2 : goal.bounds-words-size-2
bounds-words-size-2 c = omega (arith, (trailer_facts c.args.words.now c.requires).long, (trailer_facts c.args.words.now c.requires).room, (trailer_facts c.args.words.now c.requires).back_is, c.wide-back.ensures)

pub returns : goal.returns
unfolding form_of
returns c = rw c.wide-back.ensures
