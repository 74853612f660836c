-- `first_not_utf8` meets its contract: a search through the rows. Assumes nothing.
use Rattle.laws.proofs.Passing.{Passing}
use Rattle.sheet.specs.Record.{rows_word, doc_of}
use Rattle.sheet.specs.Faults.{not_utf8}
use Rattle.recordtexts.proofs.first_not_utf8.Given as goal

abbrev pub invariant-loop-j : goal.invariant-loop-j
invariant-loop-j l = Passing (not_utf8 (doc_of l.words l.text)) (rows_word l.words) l.j
