-- `RuleForm::of` meets its contract: a trailer in order says where the parts are. Assumes nothing.
use native.Mathlib.Omega.{arith}
use Rattle.rulesheet.specs.Sheet.{form_of}
use Rattle.rulesheet.proofs.Trailers.{trailer_facts}
use Rattle.rulesheet.proofs.form.RuleForm.of.Goals as goal

pub overflow_sub-size : goal.overflow_sub-size
overflow_sub-size c = omega (arith, (trailer_facts c.args.words.now c.requires).long, (trailer_facts c.args.words.now c.requires).room, (trailer_facts c.args.words.now c.requires).back_is)

pub bounds-words-size : goal.bounds-words-size
bounds-words-size c = omega (arith, (trailer_facts c.args.words.now c.requires).long, (trailer_facts c.args.words.now c.requires).room, (trailer_facts c.args.words.now c.requires).back_is)

pub overflow_sub-e : goal.overflow_sub-e
overflow_sub-e c = omega (arith, (trailer_facts c.args.words.now c.requires).long, (trailer_facts c.args.words.now c.requires).room, (trailer_facts c.args.words.now c.requires).back_is, c.wide-back.ensures)

pub bounds-words-size-2 : goal.bounds-words-size-2
bounds-words-size-2 c = omega (arith, (trailer_facts c.args.words.now c.requires).long, (trailer_facts c.args.words.now c.requires).room, (trailer_facts c.args.words.now c.requires).back_is, c.wide-back.ensures)

pub overflow_sub-c : goal.overflow_sub-c
overflow_sub-c c = omega (arith, (trailer_facts c.args.words.now c.requires).long, (trailer_facts c.args.words.now c.requires).room, (trailer_facts c.args.words.now c.requires).back_is, c.wide-back.ensures)

pub bounds-words-size-3 : goal.bounds-words-size-3
bounds-words-size-3 c = omega (arith, (trailer_facts c.args.words.now c.requires).long, (trailer_facts c.args.words.now c.requires).room, (trailer_facts c.args.words.now c.requires).back_is, c.wide-back.ensures)

pub overflow_sub-entries : goal.overflow_sub-entries
overflow_sub-entries c = omega (arith, (trailer_facts c.args.words.now c.requires).long, (trailer_facts c.args.words.now c.requires).room, (trailer_facts c.args.words.now c.requires).back_is, c.wide-back.ensures)

pub overflow_mul-entries : goal.overflow_mul-entries
overflow_mul-entries c = omega (arith, (trailer_facts c.args.words.now c.requires).long, (trailer_facts c.args.words.now c.requires).room, (trailer_facts c.args.words.now c.requires).back_is, c.wide-back.ensures, c.wide.ensures)

pub overflow_sub-entries-2 : goal.overflow_sub-entries-2
overflow_sub-entries-2 c = omega (arith, (trailer_facts c.args.words.now c.requires).long, (trailer_facts c.args.words.now c.requires).room, (trailer_facts c.args.words.now c.requires).back_is, c.wide-back.ensures, c.wide.ensures)

pub overflow_sub-result : goal.overflow_sub-result
overflow_sub-result c = omega (arith, (trailer_facts c.args.words.now c.requires).long, (trailer_facts c.args.words.now c.requires).room, (trailer_facts c.args.words.now c.requires).back_is, c.wide-back.ensures, c.wide.ensures)

pub overflow_sub-result-2 : goal.overflow_sub-result-2
overflow_sub-result-2 c = omega (arith, (trailer_facts c.args.words.now c.requires).long, (trailer_facts c.args.words.now c.requires).room, (trailer_facts c.args.words.now c.requires).back_is, c.wide-back.ensures, c.wide.ensures)

pub overflow_mul-result : goal.overflow_mul-result
overflow_mul-result c = omega (arith, (trailer_facts c.args.words.now c.requires).long, (trailer_facts c.args.words.now c.requires).room, (trailer_facts c.args.words.now c.requires).back_is, c.wide-back.ensures, c.wide.ensures, c.wide-2.ensures)

pub overflow_sub-result-3 : goal.overflow_sub-result-3
overflow_sub-result-3 c = omega (arith, (trailer_facts c.args.words.now c.requires).long, (trailer_facts c.args.words.now c.requires).room, (trailer_facts c.args.words.now c.requires).back_is, c.wide-back.ensures, c.wide.ensures, c.wide-2.ensures)

pub overflow_sub-result-4 : goal.overflow_sub-result-4
overflow_sub-result-4 c = omega (arith, (trailer_facts c.args.words.now c.requires).long, (trailer_facts c.args.words.now c.requires).room, (trailer_facts c.args.words.now c.requires).back_is, c.wide-back.ensures, c.wide.ensures, c.wide-2.ensures)

pub bounds-words-size-4 : goal.bounds-words-size-4
bounds-words-size-4 c = omega (arith, (trailer_facts c.args.words.now c.requires).long, (trailer_facts c.args.words.now c.requires).room, (trailer_facts c.args.words.now c.requires).back_is, c.wide-back.ensures, c.wide.ensures, c.wide-2.ensures)

pub returns : goal.returns
unfolding form_of
returns c = rw (c.wide-back.ensures, c.wide.ensures, c.wide-2.ensures)
