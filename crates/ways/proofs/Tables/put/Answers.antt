-- `ways::Tables::put` meets its contract. Assumes nothing.
use mathlib.Core.Path.{refl}
use Rattle.ways.proofs.Tables.put.Goals as goal

pub returns : goal.returns
returns c =
    let e = c.place_of-place.ensures.0 in
    record { first = rw e; then = rw e; under = refl; marked = refl }
