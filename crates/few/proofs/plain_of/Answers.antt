-- `plain_of` meets its contract: by its code each clause that is asked for, and no other. Assumes nothing.
use Rattle.rulesheet.proofs.Meanings.{decodes}
use Rattle.rulesheet.proofs.Decoding.{types_decoded, minimum_decoded, maximum_decoded, above_decoded, below_decoded, min_length_decoded, max_length_decoded, min_items_decoded, max_items_decoded, min_properties_decoded, max_properties_decoded}
use Rattle.few.proofs.Asking.{plain_by, plain_none}
use Rattle.few.proofs.plain_of.Goals as goal

pub returns-in-2 : goal.returns-in-2
returns-in-2 c =
    let row = c.clause_at-row in
    plain_by c.args.words.now c.args.form c.args.k c.requires.1 row.result row.ensures _ (decodes 2 c.in-2.is (types_decoded _ _))

pub returns-in-10 : goal.returns-in-10
returns-in-10 c =
    let row = c.clause_at-row in
    plain_by c.args.words.now c.args.form c.args.k c.requires.1 row.result row.ensures _ (decodes 10 c.in-10.is (minimum_decoded _ _ c.of_word.ensures))

pub returns-in-11 : goal.returns-in-11
returns-in-11 c =
    let row = c.clause_at-row in
    plain_by c.args.words.now c.args.form c.args.k c.requires.1 row.result row.ensures _ (decodes 11 c.in-11.is (maximum_decoded _ _ c.of_word-in-11.ensures))

pub returns-in-12 : goal.returns-in-12
returns-in-12 c =
    let row = c.clause_at-row in
    plain_by c.args.words.now c.args.form c.args.k c.requires.1 row.result row.ensures _ (decodes 12 c.in-12.is (above_decoded _ _ c.of_word-in-12.ensures))

pub returns-in-13 : goal.returns-in-13
returns-in-13 c =
    let row = c.clause_at-row in
    plain_by c.args.words.now c.args.form c.args.k c.requires.1 row.result row.ensures _ (decodes 13 c.in-13.is (below_decoded _ _ c.of_word-in-13.ensures))

pub returns-in-20 : goal.returns-in-20
returns-in-20 c =
    let row = c.clause_at-row in
    plain_by c.args.words.now c.args.form c.args.k c.requires.1 row.result row.ensures _ (decodes 20 c.in-20.is (min_length_decoded _ _))

pub returns-in-21 : goal.returns-in-21
returns-in-21 c =
    let row = c.clause_at-row in
    plain_by c.args.words.now c.args.form c.args.k c.requires.1 row.result row.ensures _ (decodes 21 c.in-21.is (max_length_decoded _ _))

pub returns-in-22 : goal.returns-in-22
returns-in-22 c =
    let row = c.clause_at-row in
    plain_by c.args.words.now c.args.form c.args.k c.requires.1 row.result row.ensures _ (decodes 22 c.in-22.is (min_items_decoded _ _))

pub returns-in-23 : goal.returns-in-23
returns-in-23 c =
    let row = c.clause_at-row in
    plain_by c.args.words.now c.args.form c.args.k c.requires.1 row.result row.ensures _ (decodes 23 c.in-23.is (max_items_decoded _ _))

pub returns-in-24 : goal.returns-in-24
returns-in-24 c =
    let row = c.clause_at-row in
    plain_by c.args.words.now c.args.form c.args.k c.requires.1 row.result row.ensures _ (decodes 24 c.in-24.is (min_properties_decoded _ _))

pub returns-in-25 : goal.returns-in-25
returns-in-25 c =
    let row = c.clause_at-row in
    plain_by c.args.words.now c.args.form c.args.k c.requires.1 row.result row.ensures _ (decodes 25 c.in-25.is (max_properties_decoded _ _))

pub returns-in_default : goal.returns-in_default
returns-in_default c = plain_none
