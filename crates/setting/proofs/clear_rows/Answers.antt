-- `clear_rows` meets its contract. Assumes nothing.
use mathlib.Core.List.{List, ◌++◌}
use mathlib.Core.Path.{◌≡◌, ap, ◌∙◌}
use Prim.Native.Nat.{ℕ, ◌*◌}
use native.Mathlib.Omega.{arith}
use lib.ListN.{length, take, drop, replicate}
use Rattle.std.proofs.lemmas.List.{length-take-le}
use Rattle.placing.specs.Desk.{cleared}
use Rattle.setting.proofs.clear_rows.Goals as goal

pub returns : goal.returns
unfolding cleared
returns c =
    let end = 6 * c.args.n in
    let whole : length (take end c.args.words.now) ≡ end = length-take-le end c.args.words.now (omega arith) in
    ap (λ (x : List ℕ). x ++ drop end c.args.words.now) (c.fill.ensures.after (λ y e. e) ∙ ap (λ (k : ℕ). replicate k 0) whole)
