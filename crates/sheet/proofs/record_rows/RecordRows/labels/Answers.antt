-- `RecordRows::labels` meets its contract: the labels stand before the trailer. Assumes nothing.
use native.Mathlib.Omega.{arith}
use Rattle.sheet.proofs.Trailers.{rows_end}
use Rattle.sheet.proofs.record_rows.RecordRows.labels.Goals as goal

pub overflow_add-result : goal.overflow_add-result
overflow_add-result c = omega (arith, c.wide.ensures, rows_end c.args.self.now.words.now c.args.self.now.form c.args.self.now.formed)

pub overflow_add-result-2 : goal.overflow_add-result-2
overflow_add-result-2 c = omega (arith, c.wide.ensures, rows_end c.args.self.now.words.now c.args.self.now.form c.args.self.now.formed)
