-- `told_of` meets its contract: by its code each clause that is asked for, and no other. Assumes nothing.
use mathlib.Core.Path.{refl}
use Rattle.rulesheet.proofs.Meanings.{decodes}
use Rattle.rulesheet.proofs.Decoding.{additional_decoded, items_decoded}
use Rattle.few.specs.Asked.{told, ReadBy}
use Rattle.few.proofs.Asking.{read_by, never_by, told_few}
use Rattle.few.proofs.told_of.Goals as goal

pub returns-in-42 : goal.returns-in-42
unfolding told
returns-in-42 c =
    let row = c.clause_at-row in
    let read : ReadBy told row.result _ = read_by told (decodes 42 c.in-42.is (additional_decoded _ _)) (λ ws ts. refl) in record {
      means_told = λ ts. read.means c.args.words.now ts c.args.k row.ensures;
      tested = read.tested c.args.words.now c.args.form c.args.k c.requires.1 row.ensures;
    }

pub returns-in-44 : goal.returns-in-44
unfolding told
returns-in-44 c =
    let row = c.clause_at-row in
    let read : ReadBy told row.result _ = read_by told (decodes 44 c.in-44.is (items_decoded _ _)) (λ ws ts. refl) in record {
      means_told = λ ts. read.means c.args.words.now ts c.args.k row.ensures;
      tested = read.tested c.args.words.now c.args.form c.args.k c.requires.1 row.ensures;
    }

pub returns-in_default : goal.returns-in_default
returns-in_default c =
    let row = c.clause_at-row in
    let read : ReadBy told row.result _ = never_by told (told_few _ c.in_default.in_default-own.rest) in record {
      means_told = λ ts. read.means c.args.words.now ts c.args.k row.ensures;
      tested = read.tested c.args.words.now c.args.form c.args.k c.requires.1 row.ensures;
    }
