-- `telling_of` meets its contract: by its code each clause that is asked for, and no other. Assumes nothing.
use mathlib.Core.Path.{refl}
use Rattle.rulesheet.proofs.Meanings.{decodes}
use Rattle.rulesheet.proofs.Decoding.{members_decoded, prefix_decoded}
use Rattle.few.specs.Asked.{telling, ReadBy}
use Rattle.few.proofs.Asking.{read_by, never_by, telling_few}
use Rattle.few.proofs.telling_of.Goals as goal

pub returns-in-40 : goal.returns-in-40
unfolding telling
returns-in-40 c =
    let row = c.clause_at-row in
    let read : ReadBy telling row.result _ = read_by telling (decodes 40 c.in-40.is (members_decoded _ _)) (λ ws ts. refl) in record {
      means_telling = λ ts. read.means c.args.words.now ts c.args.k row.ensures;
      tested = read.tested c.args.words.now c.args.form c.args.k c.requires.1 row.ensures;
    }

pub returns-in-43 : goal.returns-in-43
unfolding telling
returns-in-43 c =
    let row = c.clause_at-row in
    let read : ReadBy telling row.result _ = read_by telling (decodes 43 c.in-43.is (prefix_decoded _ _)) (λ ws ts. refl) in record {
      means_telling = λ ts. read.means c.args.words.now ts c.args.k row.ensures;
      tested = read.tested c.args.words.now c.args.form c.args.k c.requires.1 row.ensures;
    }

pub returns-in_default : goal.returns-in_default
returns-in_default c =
    let row = c.clause_at-row in
    let read : ReadBy telling row.result _ = never_by telling (telling_few _ c.in_default.in_default-own.rest) in record {
      means_telling = λ ts. read.means c.args.words.now ts c.args.k row.ensures;
      tested = read.tested c.args.words.now c.args.form c.args.k c.requires.1 row.ensures;
    }
