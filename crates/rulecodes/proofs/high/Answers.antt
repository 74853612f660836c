-- `high` meets its contract. Assumes nothing.
use mathlib.Core.Logic.{⊎_elim}
use mathlib.Core.Path.{◌≡◌, sym, ap, ◌∙◌}
use Prim.Native.Nat.{◌≤◌, ◌<◌}
use native.Mathlib.Omega.{arith}
use lib.Dec.{eqb}
use borrow.Author.Tests.{eqb-true, eqb-false}
use Rattle.laws.proofs.Tests.{le_or_lt, either}
use Rattle.rulesheet.specs.declared.code.Fields.TheVariants.{Schema}
use Rattle.rulesheet.specs.Codes.{CodeLine, line_in, shape_of, guarded_shape}
use Rattle.laws.proofs.Tests.{neither}
use Rattle.rulesheet.proofs.Lines.{past_thirty_four, past_sixty_one}
use Rattle.rulecodes.proofs.high.Goals as goal

pub returns-then-code : goal.returns-then-code
unfolding line_in
returns-then-code c =
    let code = c.args.code in
    let is : shape_of code ≡ guarded_shape Schema 0 =
    ⊎_elim (λ t. rw (eqb-true code 42 t)) (λ t. rw (eqb-true code 44 t)) (either (eqb code 42) (eqb code 44) c.if-code.true) in
    c.guarded.ensures ∙ sym is

pub returns-then-code-2 : goal.returns-then-code-2
unfolding line_in
returns-then-code-2 c =
    let code = c.args.code in
    let is : shape_of code ≡ guarded_shape Schema 0 =
    ⊎_elim (λ t. rw (eqb-true code 60 t)) (λ t. rw (eqb-true code 61 t)) (either (eqb code 60) (eqb code 61) c.if-code-2.true) in
    c.guarded-then-code-2.ensures ∙ sym is

pub returns-then-code-eq-PREFIX_ITEMS : goal.returns-then-code-eq-PREFIX_ITEMS
unfolding line_in
returns-then-code-eq-PREFIX_ITEMS c = rw c.if-code-eq-PREFIX_ITEMS.true c.guarded-then-code-eq-PREFIX_ITEMS.ensures

pub seldom-requires : goal.seldom-requires
seldom-requires c =
    λ f36 f37 f45.
    let code = c.args.code in
    let h = c.requires in
    let a = neither (eqb code 42) (eqb code 44) c.if-code.false in
    let b = neither (eqb code 60) (eqb code 61) c.if-code-2.false in
    ap (λ (l : CodeLine). l.shape)
    (⊎_elim
    (λ (l : 60 ≤ code). past_sixty_one code (omega (arith, eqb-false code 60 b.0, eqb-false code 61 b.1)) c.ranges.code.fits)
    (λ (l : code < 60). past_thirty_four code (omega arith) l f36 f37 (λ (e : code ≡ 40). omega arith) (eqb-false code 42 a.0) c.if-code-eq-PREFIX_ITEMS.false (eqb-false code 44 a.1) f45)
    (le_or_lt 60 code))
