-- `unnamed_in` meets its contract: no clause passed names the row. Assumes nothing.
use mathlib.Core.Bool.{false}
use mathlib.Core.Path.{◌≡◌}
use Rattle.sheet.specs.Record.{doc_of}
use Rattle.meaning.specs.Lists.{concat_map}
use Rattle.meaning.specs.Rules.{names_of}
use Rattle.told.specs.Read.{named_by}
use Rattle.told.proofs.Earlier.{first_clauses}
use Rattle.told.proofs.unnamed_in.Given as goal

abbrev pub invariant-loop-k : goal.invariant-loop-k
invariant-loop-k l = named_by (doc_of l.«record» l.text) (concat_map names_of (first_clauses l.rules l.rule_text l.first l.k)) l.row.0 ≡ false
