-- `gathering::units::low_ahead` meets its contract. Assumes nothing.
use mathlib.Core.Bool.{Bool, true, false}
use mathlib.Core.Path.{◌≡◌, sym, ap, ◌∙◌}
use borrow.Author.Tests.{eq-eqb, ne_eqb, eqb-true}
use Rattle.jsontext.specs.Value.{is_low}
use Rattle.gathering.proofs.Ahead.{no_slash, no_u, escape_here}
use Rattle.gathering.proofs.units.low_ahead.Goals as goal
use Rattle.gathering.proofs.units.low_ahead.Goals.{then-byte_at-eq92, else-byte_at-eq92}

apart : {b : Bool} → b ≡ true → b ≡ false → ⊥
apart p q = cc

pub returns-then-byte_at-eq117 : goal.returns-then-byte_at-eq117
returns-then-byte_at-eq117 c =
    let a = c.args in
    elim c.if-byte_at-eq92.branch [
      | then-byte_at-eq92 w ↦
          c.low.ensures ∙ ap is_low c.unit_from.ensures
          ∙ escape_here a.json.now a.i
          (sym c.byte_at.ensures ∙ w.if-byte_at-eq92.true)
          (sym w.byte_at-then-byte_at-eq92.ensures ∙ eqb-true w.byte_at-then-byte_at-eq92.result 117 (sym w.value-is ∙ c.if-byte_at-eq117.true))
      | else-byte_at-eq92 w ↦ absurd (apart c.if-byte_at-eq117.true (w.value-is ∙ ne_eqb c.byte_at.result 92 w.if-byte_at-eq92.false))
    ]

pub returns-else-byte_at-eq117 : goal.returns-else-byte_at-eq117
returns-else-byte_at-eq117 c =
    let a = c.args in
    elim c.if-byte_at-eq92.branch [
      | then-byte_at-eq92 w ↦
          c.if-byte_at-eq117.false
          ∙ no_u a.json.now a.i
          (sym c.byte_at.ensures ∙ w.if-byte_at-eq92.true)
          (λ e. apart (eq-eqb w.byte_at-then-byte_at-eq92.result 117 (w.byte_at-then-byte_at-eq92.ensures ∙ e)) (sym w.value-is ∙ c.if-byte_at-eq117.false))
      | else-byte_at-eq92 w ↦ c.if-byte_at-eq117.false ∙ no_slash a.json.now a.i (λ e. w.if-byte_at-eq92.false (c.byte_at.ensures ∙ e))
    ]
