-- `owns_ok` meets its contract: a row that can have children has them within the rows, and each names it. Assumes nothing.
use native.Mathlib.Omega.{arith}
use Prim.Native.Nat.{◌+◌}
use mathlib.Core.Bool.{not}
use mathlib.Core.Path.{sym, ap, ◌∙◌}
use lib.Dec.{eqb}
use borrow.Author.Tests.{eq-eqb, ne_eqb}
use Rattle.sheet.specs.Kinds.{holds_children}
use Rattle.sheet.specs.Record.{owner_at}
use Rattle.sheet.specs.Faults.{owns_ok}
use Rattle.laws.proofs.Searches.{found, passed, ended}
use Rattle.sheet.proofs.Rows.{children_facts}
use Rattle.sheet.proofs.Trailers.{form_few}
use Rattle.recordlayout.proofs.Strangers.{stranger_here, none_here}
use Rattle.recordlayout.proofs.owns_ok.Goals as goal

pub returns-then-not-holds_children : goal.returns-then-not-holds_children
unfolding owns_ok
returns-then-not-holds_children c = rw (sym (c.holds_children.ensures ∙ ap holds_children c.of.ensures) ∙ c.if-not-holds_children.true)

pub overflow_add-k-end : goal.overflow_add-k-end
overflow_add-k-end c = omega (arith, (children_facts c.args.rows.now.size c.args.rows.now.form.rows c.args.j c.args.row c.requires (sym (c.holds_children.ensures ∙ ap holds_children c.of.ensures) ∙ c.if-not-holds_children.false)).within, form_few c.args.rows.now.words.now c.args.rows.now.form c.args.rows.now.formed)

pub row-requires : goal.row-requires
row-requires c = omega (arith, (children_facts c.args.rows.now.size c.args.rows.now.form.rows c.args.j c.args.row c.requires (sym (c.holds_children.ensures ∙ ap holds_children c.of.ensures) ∙ c.if-not-holds_children.false)).within)

pub returns-then-row-j : goal.returns-then-row-j
unfolding owns_ok
returns-then-row-j c =
    rw (sym (c.holds_children.ensures ∙ ap holds_children c.of.ensures) ∙ c.if-not-holds_children.false, c.loop-k.invariant ∙ found (λ i. not (eqb (owner_at c.args.rows.now.words.now i) c.args.j)) (c.args.row.first + c.args.row.count) c.loop-k.k (omega arith) (stranger_here c.args.rows.now.words.now c.args.j c.loop-k.k c.row.result c.row.ensures c.if-row-j.true))
    (sym (ne_eqb c.loop-k.k (c.args.row.first + c.args.row.count) (omega arith)))

pub loop-k-preserved : goal.loop-k-preserved
loop-k-preserved c = c.loop-k.invariant ∙ passed (λ i. not (eqb (owner_at c.args.rows.now.words.now i) c.args.j)) (c.args.row.first + c.args.row.count) c.loop-k.k (omega arith) (none_here c.args.rows.now.words.now c.args.j c.loop-k.k c.row.result c.row.ensures c.if-row-j.false)

pub returns : goal.returns
unfolding owns_ok
returns c =
    rw (sym (c.holds_children.ensures ∙ ap holds_children c.of.ensures) ∙ c.if-not-holds_children.false, c.loop-k.invariant ∙ ended (λ i. not (eqb (owner_at c.args.rows.now.words.now i) c.args.j)) (c.args.row.first + c.args.row.count) c.loop-k.k (omega arith))
    (sym (eq-eqb c.loop-k.k (c.args.row.first + c.args.row.count) (omega arith)))
