-- `long_within` meets its contract: tables of zeros tell nothing yet. Assumes nothing.
use Prim.Native.Nat.{ℕ, zero, suc, ◌≤◌}
use native.Mathlib.Omega.{arith}
use mathlib.Core.Path.{◌≡◌, refl}
use lib.ListN.{get_or, replicate, length-replicate}
use Rattle.rulesheet.specs.Sheet.{schemas_word, next_of}
use Rattle.unguarded.proofs.Steps.{schema_count}
use Rattle.unguarded.proofs.Lengths.{blank_told}
use Rattle.chains.proofs.long_within.Goals as goal

no_length : (n t : ℕ) → ◌≡◌ {A = ℕ} (get_or (replicate n 0) t 0) 0
no_length zero t = refl
no_length (suc n) zero = refl
no_length (suc n) (suc t) = no_length n t

pub whole_as_slice-fill_lengths : goal.whole_as_slice-fill_lengths
whole_as_slice-fill_lengths g c = omega (arith, c.requires.3)

pub whole_as_slice-fill_lengths-2 : goal.whole_as_slice-fill_lengths-2
whole_as_slice-fill_lengths-2 g c = omega (arith, c.requires.3)

pub fill_lengths-requires : goal.fill_lengths-requires
fill_lengths-requires g c =
    let n = g.row.N in
    let m : c.args.form.m ≤ n = c.requires.2 in
    record { laid = c.requires.0; quiet = c.requires.1; told = blank_told (schemas_word c.args.words.now) (next_of c.args.words.now) _ (simp length-replicate (omega (arith, schema_count c.args.words.now c.args.form c.requires.0))) (no_length n); room = simp length-replicate (omega (arith, schema_count c.args.words.now c.args.form c.requires.0)) }

pub shared_whole_as_slice-first_long : goal.shared_whole_as_slice-first_long
shared_whole_as_slice-first_long g c = omega (arith, c.requires.3)
