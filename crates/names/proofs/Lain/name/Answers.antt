-- `names::Lain::name` meets its contract: its length is a word's. Assumes nothing.
use Rattle.text.proofs.Ranges.{part_length}
use Prim.Native.Nat.{◌<◌}
use native.Mathlib.Omega.{arith}
use Rattle.names.specs.Names.{range_at}
use Rattle.names.proofs.Lain.name.Goals as goal

pub range_at-requires : goal.range_at-requires
range_at-requires c = c.args.self.now.lying.inside _ c.requires

pub bytes_of-requires : goal.bytes_of-requires
bytes_of-requires c =
    rw c.range_at.ensures (c.args.self.now.lying.fitting _ c.requires)

pub returns-clause-bytes : goal.returns-clause-bytes
returns-clause-bytes c = rw c.range_at.ensures at c.bytes_of.ensures

pub returns-clause-short : goal.returns-clause-short
returns-clause-short c =
    let range = c.range_at.ensures in
    let lain = c.args.self.now in
    let word : c.range_at.result.length < 4_294_967_296 = omega arith in
    rw (c.bytes_of.ensures, range, part_length lain.text.now (range_at lain.words.now lain.names c.args.i) (lain.lying.fitting _ c.requires)) (rw range at word)
