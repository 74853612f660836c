use Rattle.text.specs.Fingerprint.{fingerprint_of}
use Rattle.text.proofs.print.fingerprint.Goals as goal

pub returns : goal.returns
unfolding fingerprint_of
returns c = rw c.gathered.ensures at c.mixed.ensures
