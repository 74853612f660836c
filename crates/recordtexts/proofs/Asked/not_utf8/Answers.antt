-- `not_utf8` meets its contract: by the name and, of a string, by its bytes. Assumes nothing.
use mathlib.Core.Path.{◌≡◌, refl, sym, ap, ◌∙◌}
use mathlib.Core.Bool.{true, false, not}
use native.Mathlib.Omega.{arith}
use denote.Enum.Bare.{sameb}
use Rattle.sheet.specs.contracts.kind.RowKind.{the_type}
use Rattle.sheet.specs.declared.kind.RowKind.{RowKind}
use Rattle.sheet.specs.declared.kind.RowKind.TheVariants.{Null, False, True, Number, String, Array, Object}
use Rattle.sheet.specs.Kinds.{kind_number}
use Rattle.sheet.proofs.Readable.{label_within, bad_name, fine, string_within, by_string}
use Rattle.recordtexts.proofs.Asked.not_utf8.Goals as goal

-- a kind that equals no string's has another number
other_kind : (k : RowKind) → not (sameb the_type k String) ≡ true → kind_number k ≡ kind_number String → ⊥
other_kind Null t e = omega arith
other_kind False t e = omega arith
other_kind True t e = omega arith
other_kind Number t e = omega arith
other_kind String t e = cc
other_kind Array t e = omega arith
other_kind Object t e = omega arith

string_number : (k : RowKind) → not (sameb the_type k String) ≡ false → kind_number k ≡ kind_number String
string_number Null f = cc
string_number False f = cc
string_number True f = cc
string_number Number f = cc
string_number String f = refl
string_number Array f = cc
string_number Object f = cc

pub settles-requires : goal.settles-requires
settles-requires c = (c.args.self.now.known, label_within c.args.self.now.sheet.rows.words.now c.args.self.now.sheet.text.now c.args.self.now.sheet.rows.form c.args.self.now.laid (c.args.self.now.sheet.whole ∙ c.args.self.now.sheet.rows.sized) c.args.j c.requires c.row-kind.result c.row-kind.ensures)

pub returns-then-not-settles : goal.returns-then-not-settles
returns-then-not-settles c = sym (bad_name c.args.self.now.sheet.rows.words.now c.args.self.now.sheet.text.now c.args.self.now.sheet.rows.form c.args.self.now.laid (c.args.self.now.sheet.whole ∙ c.args.self.now.sheet.rows.sized) c.args.j c.requires c.row-kind.result c.row-kind.ensures (sym c.settles.ensures ∙ c.if-not-settles.true))

pub returns-then-ne : goal.returns-then-ne
returns-then-ne c = sym (fine c.args.self.now.sheet.rows.words.now c.args.self.now.sheet.text.now c.args.self.now.sheet.rows.form c.args.self.now.laid (c.args.self.now.sheet.whole ∙ c.args.self.now.sheet.rows.sized) c.args.j c.requires c.row-kind.result c.row-kind.ensures (sym c.settles.ensures ∙ c.if-not-settles.false) (λ e. other_kind c.of.result (sym c.ne.ensures ∙ c.if-ne.true) (ap kind_number c.of.ensures ∙ e)))

pub settles-requires-2 : goal.settles-requires-2
settles-requires-2 c = (c.args.self.now.known, string_within c.args.self.now.sheet.rows.words.now c.args.self.now.sheet.text.now c.args.self.now.sheet.rows.form c.args.self.now.laid (c.args.self.now.sheet.whole ∙ c.args.self.now.sheet.rows.sized) c.args.j c.requires c.row-kind.result c.row-kind.ensures (sym (ap kind_number c.of.ensures) ∙ string_number c.of.result (sym c.ne.ensures ∙ c.if-ne.false)))

pub returns : goal.returns
returns c = ap not c.settles-2.ensures ∙ sym (by_string c.args.self.now.sheet.rows.words.now c.args.self.now.sheet.text.now c.args.self.now.sheet.rows.form c.args.self.now.laid (c.args.self.now.sheet.whole ∙ c.args.self.now.sheet.rows.sized) c.args.j c.requires c.row-kind.result c.row-kind.ensures (sym (ap kind_number c.of.ensures) ∙ string_number c.of.result (sym c.ne.ensures ∙ c.if-ne.false)) (sym c.settles.ensures ∙ c.if-not-settles.false))
