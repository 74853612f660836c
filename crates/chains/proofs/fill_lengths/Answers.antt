use native.Mathlib.Omega.{arith}
use mathlib.Core.Path.{◌≡◌, refl, ◌∙◌, subst}
use Prim.Native.Nat.{ℕ}
use borrow.Author.Tests.{not-true}
use Rattle.rulesheet.specs.Sheet.{schemas_word, next_of}
use Rattle.unguarded.specs.Graph.{chain_steps}
use Rattle.unguarded.proofs.Lengths.{Deep, deep_none, deep_more, deep_all, right}
use Rattle.chains.proofs.fill_lengths.Goals as goal

pub loop-k-init : goal.loop-k-init
loop-k-init c =
    (c.requires.told, deep_none (schemas_word c.args.words.now) (next_of c.args.words.now) _, refl, refl)

pub pass-requires : goal.pass-requires
pass-requires c =
    record { laid = c.requires.laid; quiet = c.requires.quiet; told = c.loop-k.invariant.0; room = omega (arith, c.requires.room, c.loop-k.invariant.3) }

pub shape_of-table-then-not-pass : goal.shape_of-table-then-not-pass
shape_of-table-then-not-pass c =
    c.table-1.given ∙ c.loop-k.invariant.2

pub shape_of-late-then-not-pass : goal.shape_of-late-then-not-pass
shape_of-late-then-not-pass c =
    c.late-1.given ∙ c.loop-k.invariant.3

pub returns-then-not-pass : goal.returns-then-not-pass
returns-then-not-pass c =
    right (schemas_word c.args.words.now) (next_of c.args.words.now) c.pass.ensures.told (deep_all (schemas_word c.args.words.now) (next_of c.args.words.now) (c.pass.ensures.all (not-true _ c.if-not-pass.true-raw)) chain_steps (omega arith))

pub loop-k-preserved : goal.loop-k-preserved
loop-k-preserved c =
    (c.pass.ensures.told, deep_more (schemas_word c.args.words.now) (next_of c.args.words.now) (omega arith) c.pass.ensures.each c.loop-k.invariant.1, c.table-1.given ∙ c.loop-k.invariant.2, c.late-1.given ∙ c.loop-k.invariant.3)

pub shape_of-table : goal.shape_of-table
shape_of-table c =
    c.loop-k.invariant.2

pub shape_of-late : goal.shape_of-late
shape_of-late c =
    c.loop-k.invariant.3

pub returns : goal.returns
returns c =
    let e : c.loop-k._k ≡ chain_steps = omega arith in right (schemas_word c.args.words.now) (next_of c.args.words.now) c.loop-k.invariant.0 (subst (λ (n : ℕ). Deep (schemas_word c.args.words.now) (next_of c.args.words.now) n c.loop-k.table) e c.loop-k.invariant.1)
