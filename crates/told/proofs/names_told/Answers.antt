-- `names_told` meets its contract: the marks tell, or those before a clause name nothing. Assumes nothing.
use native.Mathlib.Omega.{arith}
use Rattle.told.proofs.Earlier.{before_long, clauses_few}
use Rattle.told.proofs.names_told.Goals as goal

pub returns : goal.returns
returns c =
    let asked = c.requires in record {
      by_index = λ us f. record { within = omega (arith, before_long _ _ _ asked us, c.names_from.ensures.upper_bound); none = c.names_from.ensures.by_index us };
      by_index_2 = λ us e. absurd (omega (arith, clauses_few _ _ _ asked, c.names_from.ensures.upper_bound));
    }
