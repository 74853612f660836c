use Rattle.listing.specs.Listing.{outside}
use Rattle.listing.proofs.is_outside.Goals as goal

pub returns : goal.returns
unfolding outside
returns c =
    rw (c.range_fits.ensures, c.words_at.ensures, c.range_fits-2.ensures, c.text_at.ensures)
