-- `named_fine` meets its contract. Assumes nothing.
use Prim.Native.Nat.{◌+◌}
use lib.ListN.{length}
use Rattle.rulesheet.proofs.Trailers.{form_m}
use Rattle.rulelists.proofs.Entries.{all_named, names_fit}
use Rattle.rulelists.proofs.named_fine.Goals as goal

pub few_differ-requires : goal.few_differ-requires
few_differ-requires c =
    (c.requires.0, c.requires.2, names_fit c.args.words.now c.args.fields c.args.list.first c.args.list.count (all_named c.args.words.now c.args.fields (length c.args.text.now) c.args.form.m c.bound_of-bound.result c.args.list.first (c.args.list.first + c.args.list.count) c.requires.3 c.requires.1 (form_m c.args.words.now c.args.form c.requires.0) c.bound_of-bound.ensures (c.all_named.ensures c.if-all_named.true)) _ c.requires.1 c.requires.3)

pub returns-then-all_named : goal.returns-then-all_named
returns-then-all_named c t =
    record { entries = all_named c.args.words.now c.args.fields (length c.args.text.now) c.args.form.m c.bound_of-bound.result c.args.list.first (c.args.list.first + c.args.list.count) c.requires.3 c.requires.1 (form_m c.args.words.now c.args.form c.requires.0) c.bound_of-bound.ensures (c.all_named.ensures c.if-all_named.true); names = λ n. c.few_differ.ensures t }
