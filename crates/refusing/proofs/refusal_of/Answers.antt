-- `refusing::refusal_of` meets its contract. Assumes nothing.
use mathlib.Core.Path.{refl, sym, ◌∙◌}
use native.Mathlib.Omega.{arith}
use Rattle.refusing.specs.Refusing.{not_json}
use Rattle.refusing.proofs.Halting.{come}
use Rattle.refusing.proofs.Calls.{refuted, called, called_end, called_lies, called_left, called_none, called_some}
use Rattle.refusing.proofs.refusal_of.Goals as goal

pub whole_text-end-requires : goal.whole_text-end-requires
whole_text-end-requires c = (c.requires.short_and_lent.0, come _ _ _ _ c.first_pass-halt.ensures)

pub returns-then-not-end : goal.returns-then-not-end
returns-then-not-end c =
    let f = c.whole_text-end.ensures in
    (not_json refl (sym f.whole_is ∙ refuted c.whole_text-end.result.whole c.if-not-end.true) (f.at_is ∙ omega arith), (λ e. omega arith))

pub last_watch-last-requires : goal.last_watch-last-requires
last_watch-last-requires c = called_end (called c.requires.short_and_lent c.first_pass-halt.ensures c.whole_text-end.ensures c.if-not-end.false)

pub first_amiss-requires : goal.first_amiss-requires
first_amiss-requires c = called_lies (called c.requires.short_and_lent c.first_pass-halt.ensures c.whole_text-end.ensures c.if-not-end.false) c.last_watch-last.result c.last_watch-last.ensures

pub overflow_sub-result : goal.overflow_sub-result
overflow_sub-result c = called_left (called c.requires.short_and_lent c.first_pass-halt.ensures c.whole_text-end.ensures c.if-not-end.false) c.last_watch-last.result c.last_watch-last.ensures _ c.in-Some.ensures.0 c.in-Some.ensures.1

pub returns-in-Some : goal.returns-in-Some
returns-in-Some c =
    (called_some (called c.requires.short_and_lent c.first_pass-halt.ensures c.whole_text-end.ensures c.if-not-end.false) c.last_watch-last.result c.last_watch-last.ensures _ c.in-Some.ensures.0 c.in-Some.ensures.1, c.in-Some.ensures.1)

pub returns-in-None : goal.returns-in-None
returns-in-None c = called_none (called c.requires.short_and_lent c.first_pass-halt.ensures c.whole_text-end.ensures c.if-not-end.false) c.last_watch-last.result c.last_watch-last.ensures _ refl c.in-None.ensures
