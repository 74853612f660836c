-- `gathering::escape_whole` meets its contract. Assumes nothing.
use mathlib.Core.Path.{◌≡◌, sym, ap, ◌∙◌}
use Prim.Native.Nat.{suc}
use native.Mathlib.Numerals.{add-one}
use mathlib.Core.Bool.{true, false, ◌&&◌}
use lib.ListN.{drop}
use Rattle.jsontext.specs.Value.{is_high, joined}
use Rattle.naming.specs.Gathering.{low_ahead, escaped}
use Rattle.gathering.specs.declared.Gathered.{Gathered}
use Rattle.gathering.proofs.Acts.{waits_does}
use Rattle.gathering.proofs.escape_whole.Goals as goal

pub returns-then-high-low_ahead : goal.returns-then-high-low_ahead
unfolding escaped
returns-then-high-low_ahead c =
    let a = c.args in
    let e : (is_high a.code && low_ahead (drop (suc a.at) a.json.now)) ≡ true = rw (c.high.ensures, c.low_ahead.ensures, add-one) at c.if-high-low_ahead.true in
    λ words objects t w g h. rw e (waits_does a.text.now words objects a.n a.code t w g h)

pub returns : goal.returns
unfolding escaped
returns c =
    let a = c.args in
    let e : (is_high a.code && low_ahead (drop (suc a.at) a.json.now)) ≡ false = rw (c.high.ensures, c.low_ahead.ensures, add-one) at c.if-high-low_ahead.false in
    λ words objects t w g h.
    let same : joined g.waits a.code ≡ c.character.result = sym (c.character.ensures.0 ∙ ap (λ (m : Gathered). joined m.waits a.code) h.numbers_are) in
    rw (e, same) (c.say_code.ensures words objects t w g h)
