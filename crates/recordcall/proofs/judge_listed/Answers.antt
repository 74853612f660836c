use lib.ListN.{length}
use Rattle.meaning.specs.Rules.{whole}
use Rattle.number.proofs.Calls.{count_fits, call_told}
use Rattle.recordcall.proofs.Listed.{called_listed}
use Rattle.listing.proofs.Inside.{words_inside, text_inside}
use Rattle.recordcall.proofs.judge_listed.Goals as goal

pub words_of-record-requires : goal.words_of-record-requires
words_of-record-requires c =
    rw c.words_at.ensures (words_inside (length c.args.words.now) (length c.args.bytes.now) c.args.listing.now c.args.i c.requires.record_listed.within)

pub bytes_of-text-requires : goal.bytes_of-text-requires
bytes_of-text-requires c =
    rw c.text_at.ensures (text_inside (length c.args.words.now) (length c.args.bytes.now) c.args.listing.now c.args.i c.requires.record_listed.within)

pub number_of-requires : goal.number_of-requires
number_of-requires c =
    count_fits whole _ _ _ _ _ _ c.judge_record-answer.result c.judge_record-answer.ensures

pub returns : goal.returns
returns c =
    called_listed c.args.words.now c.args.bytes.now c.args.listing.now c.args.i c.words_of-record.ensures c.words_at.ensures c.bytes_of-text.ensures c.text_at.ensures (call_told whole _ _ _ _ _ _ c.judge_record-answer.result c.judge_record-answer.ensures c.number_of.ensures)
