-- `read_with` meets its contract. Assumes nothing.
use mathlib.Core.Logic.{⊎_elim}
use mathlib.Core.Path.{refl}
use native.Mathlib.Omega.{arith}
use Rattle.std.proofs.lemmas.Result.{err_from_is_err_and}
use Rattle.laying.proofs.Call as Call
use Rattle.reading.proofs.Refused.{told_refused, told_fine}
use Rattle.reading.proofs.read_with.Goals as goal

pub refusal_of-requires : goal.refusal_of-requires
refusal_of-requires c = record {
  short_and_lent = c.requires;
  blank = record { values_blank = refl; texts_blank = refl; objects_blank = refl };
}

pub returns-in_err-refusal_of : goal.returns-in_err-refusal_of
returns-in_err-refusal_of c =
    let a = c.args in
    let told = c.in_err-refusal_of.ensures in
    let p = err_from_is_err_and c.from_residual.result c.from_residual.ensures.1 in
    rw (p.1, p.2) (told_refused a.json.now a.words.now a.text.now c.requires.0 told.0 told.1)

pub returns : goal.returns
returns c =
    let a = c.args in
    let w = told_fine a.json.now a.words.now a.text.now c.requires.0 c.in_ok-refusal_of.ensures refl in
    Call.reads w.of c.requires.0 w.spelled (c.write.ensures w)
