-- `apart` meets its contract: the rows' labels lie as the search for a repeated name asks. Assumes nothing.
use mathlib.Core.Path.{◌≡◌, sym, ap, ◌∙◌}
use Prim.Native.Nat.{ℕ, ◌+◌, ◌<◌}
use native.Mathlib.Omega.{arith}
use borrow.Author.Tests.{leb-true}
use Rattle.laws.proofs.Searches.{clear_below}
use Rattle.names.specs.declared.Names.{Names}
use Rattle.names.specs.Names.{name_at, repeats_at}
use Rattle.names.proofs.Repeats.{repeats_agree}
use Rattle.sheet.specs.Record.{doc_of}
use Rattle.sheet.proofs.Labels.{labels_lie, label_name}
use Rattle.recordcheck.proofs.order.apart.Goals as goal

pub first_repeated-requires : goal.first_repeated-requires
first_repeated-requires c =
    let rows = c.args.sheet.rows in
    let is = c.labels-labels.ensures in
    let count : c.labels-labels.result.count ≡ c.args.children.count = ap (λ (n : Names). n.count) is in
    labels_lie rows.words.now c.args.sheet.text.now rows.form rows.formed c.args.children.first c.labels-labels.result (ap (λ (n : Names). n.base) is) (ap (λ (n : Names). n.stride) is)
    (c.args.sheet.whole ∙ rows.sized)
    (omega (arith, c.requires.within))
    (λ i l. c.requires.by_index i (omega (arith, count)))

pub returns : goal.returns
returns c t =
    let rows = c.args.sheet.rows in
    let is = c.labels-labels.ensures in
    let names = c.labels-labels.result in
    let count : names.count ≡ c.args.children.count = ap (λ (n : Names). n.count) is in
    let past = leb-true names.count c.first_repeated.result t in
    record {
      none_repeats =
          λ (i : ℕ) (l : i < c.args.children.count).
          repeats_agree (λ k. (doc_of rows.words.now c.args.sheet.text.now).name (c.args.children.first + k)) (name_at rows.words.now c.args.sheet.text.now names) i
          (λ k g. sym (label_name rows.words.now c.args.sheet.text.now rows.form rows.formed c.args.children.first names (ap (λ (n : Names). n.base) is) (ap (λ (n : Names). n.stride) is) k))
          ∙ clear_below (repeats_at rows.words.now c.args.sheet.text.now names) names.count 0 i (omega arith) (omega (arith, count)) (omega (arith, count, c.first_repeated.ensures));
    }
