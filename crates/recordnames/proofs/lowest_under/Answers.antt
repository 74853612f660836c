-- `lowest_under` meets its contract: an object's names lie among the words, and nothing else's children have any. Assumes nothing.
use native.Mathlib.Omega.{arith}
use mathlib.Core.Bool.{Bool, true}
use mathlib.Core.List.{List}
use mathlib.Core.Path.{◌≡◌, sym, ap, ◌∙◌}
use Prim.Native.Nat.{ℕ, ◌+◌, ◌*◌, ◌≤◌, ◌<◌, min}
use Rattle.names.specs.declared.Names.{Names}
use Rattle.sheet.specs.declared.record.Row.{Row}
use Rattle.sheet.specs.declared.record.RecordForm.{RecordForm}
use Rattle.sheet.specs.Kinds.{kind_of, is_object_kind}
use Rattle.sheet.specs.Record.{row_words, rows_word, row_at}
use Rattle.sheet.specs.Accepted.{Laid}
use Rattle.sheet.proofs.Trailers.{form_rows, form_few}
use Rattle.sheet.proofs.Siblings.{children_end, names_lie, lowered_past, lowered_at, lowered_none}
use Rattle.recordnames.proofs.lowest_under.Goals as goal

-- row o, which was read, is an object, and its children's labels stand there
module _ (ws ts : List ℕ) (form : RecordForm) (laid : Laid ws form) (o : ℕ) (h : o < form.rows) (row : Row) (read : row ≡ row_at ws o) where
  inside : o < rows_word ws
  inside = omega (arith, form_rows ws form laid.formed)

  kind_read : {b : Bool} → is_object_kind (kind_of row.kind) ≡ b → is_object_kind (kind_of (row_at ws o).kind) ≡ b
  kind_read is = ap (λ (r : Row). is_object_kind (kind_of r.kind)) (sym read) ∙ is

  children_within : is_object_kind (kind_of row.kind) ≡ true → row.first + row.count ≤ form.rows
  children_within object = rw read (omega (arith, children_end ws ts form laid o inside (kind_read object), form_rows ws form laid.formed))

  module _ (names : Names) (stand : names ≡ record { base = form.start + row_words * row.first + 4; stride = row_words; count = row.count }) where
    at_base : names.base ≡ form.start + row_words * (row_at ws o).first + 4
    at_base = ap (λ (n : Names). n.base) stand ∙ ap (λ (r : Row). form.start + row_words * r.first + 4) read

    by_words : names.stride ≡ row_words
    by_words = ap (λ (n : Names). n.stride) stand

    all : names.count ≡ (row_at ws o).count
    all = ap (λ (n : Names). n.count) stand ∙ ap (λ (r : Row). r.count) read

pub returns-then-not-is_object : goal.returns-then-not-is_object
returns-then-not-is_object c =
    lowered_none c.args.sheet.now.rows.words.now c.args.sheet.now.text.now c.args.sheet.now.rows.form c.requires.0 c.args.o c.args.least (inside c.args.sheet.now.rows.words.now c.args.sheet.now.text.now c.args.sheet.now.rows.form c.requires.0 c.args.o c.requires.1 c.row-kind.result c.row-kind.ensures) (kind_read c.args.sheet.now.rows.words.now c.args.sheet.now.text.now c.args.sheet.now.rows.form c.requires.0 c.args.o c.requires.1 c.row-kind.result c.row-kind.ensures (sym (c.is_object.ensures ∙ ap is_object_kind c.of.ensures) ∙ c.if-not-is_object.true))

pub labels-labels-requires : goal.labels-labels-requires
labels-labels-requires c = children_within c.args.sheet.now.rows.words.now c.args.sheet.now.text.now c.args.sheet.now.rows.form c.requires.0 c.args.o c.requires.1 c.row-kind.result c.row-kind.ensures (sym (c.is_object.ensures ∙ ap is_object_kind c.of.ensures) ∙ c.if-not-is_object.false)

pub first_repeated-at-requires : goal.first_repeated-at-requires
first_repeated-at-requires c =
    let within = inside c.args.sheet.now.rows.words.now c.args.sheet.now.text.now c.args.sheet.now.rows.form c.requires.0 c.args.o c.requires.1 c.row-kind.result c.row-kind.ensures in
    let object = kind_read c.args.sheet.now.rows.words.now c.args.sheet.now.text.now c.args.sheet.now.rows.form c.requires.0 c.args.o c.requires.1 c.row-kind.result c.row-kind.ensures (sym (c.is_object.ensures ∙ ap is_object_kind c.of.ensures) ∙ c.if-not-is_object.false) in
    let base = at_base c.args.sheet.now.rows.words.now c.args.sheet.now.text.now c.args.sheet.now.rows.form c.requires.0 c.args.o c.requires.1 c.row-kind.result c.row-kind.ensures c.labels-labels.result c.labels-labels.ensures in
    let by = by_words c.args.sheet.now.rows.words.now c.args.sheet.now.text.now c.args.sheet.now.rows.form c.requires.0 c.args.o c.requires.1 c.row-kind.result c.row-kind.ensures c.labels-labels.result c.labels-labels.ensures in
    let count = all c.args.sheet.now.rows.words.now c.args.sheet.now.text.now c.args.sheet.now.rows.form c.requires.0 c.args.o c.requires.1 c.row-kind.result c.row-kind.ensures c.labels-labels.result c.labels-labels.ensures in
    names_lie c.args.sheet.now.rows.words.now c.args.sheet.now.text.now c.args.sheet.now.rows.form c.requires.0 c.args.o within object c.labels-labels.result base by count (c.args.sheet.now.whole ∙ c.args.sheet.now.rows.sized)

pub returns-then-labels-at : goal.returns-then-labels-at
returns-then-labels-at c =
    let within = inside c.args.sheet.now.rows.words.now c.args.sheet.now.text.now c.args.sheet.now.rows.form c.requires.0 c.args.o c.requires.1 c.row-kind.result c.row-kind.ensures in
    let object = kind_read c.args.sheet.now.rows.words.now c.args.sheet.now.text.now c.args.sheet.now.rows.form c.requires.0 c.args.o c.requires.1 c.row-kind.result c.row-kind.ensures (sym (c.is_object.ensures ∙ ap is_object_kind c.of.ensures) ∙ c.if-not-is_object.false) in
    let base = at_base c.args.sheet.now.rows.words.now c.args.sheet.now.text.now c.args.sheet.now.rows.form c.requires.0 c.args.o c.requires.1 c.row-kind.result c.row-kind.ensures c.labels-labels.result c.labels-labels.ensures in
    let by = by_words c.args.sheet.now.rows.words.now c.args.sheet.now.text.now c.args.sheet.now.rows.form c.requires.0 c.args.o c.requires.1 c.row-kind.result c.row-kind.ensures c.labels-labels.result c.labels-labels.ensures in
    let count = all c.args.sheet.now.rows.words.now c.args.sheet.now.text.now c.args.sheet.now.rows.form c.requires.0 c.args.o c.requires.1 c.row-kind.result c.row-kind.ensures c.labels-labels.result c.labels-labels.ensures in
    lowered_past c.args.sheet.now.rows.words.now c.args.sheet.now.text.now c.args.sheet.now.rows.form c.requires.0 c.args.o within object c.labels-labels.result base by count c.first_repeated-at.result c.first_repeated-at.ensures c.args.least c.if-labels-at.true

pub overflow_add-first : goal.overflow_add-first
overflow_add-first c = omega (arith, ap (λ (n : Names). n.count) c.labels-labels.ensures, form_few c.args.sheet.now.rows.words.now c.args.sheet.now.rows.form c.requires.0.formed, children_within c.args.sheet.now.rows.words.now c.args.sheet.now.text.now c.args.sheet.now.rows.form c.requires.0 c.args.o c.requires.1 c.row-kind.result c.row-kind.ensures (sym (c.is_object.ensures ∙ ap is_object_kind c.of.ensures) ∙ c.if-not-is_object.false))

pub returns : goal.returns
returns c =
    let within = inside c.args.sheet.now.rows.words.now c.args.sheet.now.text.now c.args.sheet.now.rows.form c.requires.0 c.args.o c.requires.1 c.row-kind.result c.row-kind.ensures in
    let object = kind_read c.args.sheet.now.rows.words.now c.args.sheet.now.text.now c.args.sheet.now.rows.form c.requires.0 c.args.o c.requires.1 c.row-kind.result c.row-kind.ensures (sym (c.is_object.ensures ∙ ap is_object_kind c.of.ensures) ∙ c.if-not-is_object.false) in
    let base = at_base c.args.sheet.now.rows.words.now c.args.sheet.now.text.now c.args.sheet.now.rows.form c.requires.0 c.args.o c.requires.1 c.row-kind.result c.row-kind.ensures c.labels-labels.result c.labels-labels.ensures in
    let by = by_words c.args.sheet.now.rows.words.now c.args.sheet.now.text.now c.args.sheet.now.rows.form c.requires.0 c.args.o c.requires.1 c.row-kind.result c.row-kind.ensures c.labels-labels.result c.labels-labels.ensures in
    let count = all c.args.sheet.now.rows.words.now c.args.sheet.now.text.now c.args.sheet.now.rows.form c.requires.0 c.args.o c.requires.1 c.row-kind.result c.row-kind.ensures c.labels-labels.result c.labels-labels.ensures in
    lowered_at c.args.sheet.now.rows.words.now c.args.sheet.now.text.now c.args.sheet.now.rows.form c.requires.0 c.args.o within object c.labels-labels.result base by count c.first_repeated-at.result c.first_repeated-at.ensures c.args.least c.min.result c.if-labels-at.false (c.min.ensures ∙ ap (λ (r : Row). min (r.first + c.first_repeated-at.result) c.args.least) c.row-kind.ensures)
