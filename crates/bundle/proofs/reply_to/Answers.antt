-- `reply_to` takes the parts of the bundle and reads the words of both sheets. Assumes nothing.
use mathlib.Core.Path.{sym, ◌∙◌}
use native.Mathlib.Omega.{arith}
use lib.Seq.{length-take-le}
use Rattle.parts.proofs.Words.{words_within, words_taken}
use Rattle.parts.proofs.Bundles.{sizes, record_short, rules_short}
use Rattle.bundle.proofs.Replying.{bad_replied, parts_told}
use Rattle.bundle.proofs.reply_to.Goals as goal

pub returns-in_default : goal.returns-in_default
returns-in_default c = bad_replied _ (sym c.parts_of.ensures ∙ c.in_default.is)

pub overflow_add-rules : goal.overflow_add-rules
overflow_add-rules c = omega (arith, sizes _ _ _ (sym c.parts_of.ensures ∙ c.in-Some.is))

pub overflow_add-rule_text : goal.overflow_add-rule_text
overflow_add-rule_text c =
    omega (arith, sizes _ _ _ (sym c.parts_of.ensures ∙ c.in-Some.is))

pub overflow_add-end : goal.overflow_add-end
overflow_add-end c =
    omega (arith, sizes _ _ _ (sym c.parts_of.ensures ∙ c.in-Some.is))

pub slice_bounds-read_words-end : goal.slice_bounds-read_words-end
slice_bounds-read_words-end c =
    sym (length-take-le _ _ (omega (arith, sizes _ _ _ (sym c.parts_of.ensures ∙ c.in-Some.is))))

pub read_words-a-requires : goal.read_words-a-requires
read_words-a-requires c =
    omega (arith, record_short _ _ _ (sym c.parts_of.ensures ∙ c.in-Some.is))

pub slice_bounds-read_words-end-3 : goal.slice_bounds-read_words-end-3
slice_bounds-read_words-end-3 c =
    omega (arith, sizes _ _ _ (sym c.parts_of.ensures ∙ c.in-Some.is))

pub read_words-c-requires : goal.read_words-c-requires
read_words-c-requires c =
    omega (arith, rules_short _ _ _ (sym c.parts_of.ensures ∙ c.in-Some.is))

pub slice_bounds-record_words-end : goal.slice_bounds-record_words-end
slice_bounds-record_words-end c = words_within _ _ _ _ c.read_words-a.ensures

pub slice_bounds-reply_to_sheets-end : goal.slice_bounds-reply_to_sheets-end
slice_bounds-reply_to_sheets-end c = sym (length-take-le _ _ (words_within _ _ _ _ c.read_words-a.ensures))

pub slice_bounds-reply_to_sheets-end-2 : goal.slice_bounds-reply_to_sheets-end-2
slice_bounds-reply_to_sheets-end-2 c =
    omega (arith, sizes _ _ _ (sym c.parts_of.ensures ∙ c.in-Some.is))

pub slice_bounds-rule_words-end : goal.slice_bounds-rule_words-end
slice_bounds-rule_words-end c = words_within _ _ _ _ c.read_words-c.ensures

pub slice_bounds-reply_to_sheets-end-3 : goal.slice_bounds-reply_to_sheets-end-3
slice_bounds-reply_to_sheets-end-3 c = sym (length-take-le _ _ (words_within _ _ _ _ c.read_words-c.ensures))

pub slice_bounds-reply_to_sheets-end-4 : goal.slice_bounds-reply_to_sheets-end-4
slice_bounds-reply_to_sheets-end-4 c =
    omega (arith, sizes _ _ _ (sym c.parts_of.ensures ∙ c.in-Some.is))

pub returns : goal.returns
returns c =
    rw (words_taken _ _ _ _ c.read_words-a.ensures, words_taken _ _ _ _ c.read_words-c.ensures, parts_told _ _ _ (sym c.parts_of.ensures ∙ c.in-Some.is) _ _) at c.reply_to_sheets.ensures
