-- `nametables::first_of` meets its contract: there is room for so many names. Assumes nothing.
use Rattle.nametables.proofs.Growing.{clear, clear_room}
use Rattle.nametables.proofs.first_of.Goals as goal

pub first_among-requires : goal.first_among-requires
first_among-requires g c =
    let p = c.requires.places in record {
      room = clear_room g.row.PLACES g.row.N _ p.0 p.2 p.1 c.requires.count_in_bounds;
      by_index = clear g.row.PLACES;
    }
