-- `key_at` meets its contract. Assumes nothing.
use mathlib.Core.Path.{ap, ◌∙◌}
use lib.ListN.{length}
use Prim.Native.Nat.{◌+◌, ◌*◌}
use native.Mathlib.Omega.{arith}
use Rattle.text.specs.declared.Range.{Range}
use Rattle.rulesheet.specs.declared.form.EntryRow.{EntryRow}
use Rattle.rulesheet.specs.Sheet.{form_of, entry_at}
use Rattle.text.specs.Part.{part}
use Rattle.text.proofs.Ranges.{part_length}
use Rattle.rulesheet.specs.Codes.{entry_name}
use Rattle.rulelists.specs.Lists.{key_of}
use Rattle.rulelists.proofs.key_at.Goals as goal

pub bytes_of-requires : goal.bytes_of-requires
bytes_of-requires c = rw (c.name.ensures, c.entry_at-entry.ensures) c.requires.2

pub key-requires : goal.key-requires
unfolding entry_at
key-requires c =
    let e = ap length c.bytes_of.ensures ∙ part_length c.args.text.now c.name.result (rw (c.name.ensures, c.entry_at-entry.ensures) c.requires.2) in
    let second = ap (λ (r : Range). r.length) c.name.ensures ∙ ap (λ (x : EntryRow). x.second) c.entry_at-entry.ensures in
    omega (arith, e, second, c.type_inv.words ((form_of c.args.words.now).entries + 3 * c.args.x + 1))

pub returns : goal.returns
returns c =
    c.key.ensures ∙ ap key_of (c.bytes_of.ensures ∙ ap (part c.args.text.now) c.name.ensures ∙ ap (entry_name c.args.text.now) c.entry_at-entry.ensures)
