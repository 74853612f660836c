-- `refusing::last_watch` meets its contract. Assumes nothing.
use mathlib.Core.Path.{◌≡◌}
use native.Mathlib.Omega.{arith}
use borrow.Author.Tests.{ne_eqb}
use Rattle.refusing.proofs.Halting.{last_number, last_other}
use Rattle.refusing.proofs.last_watch.Goals as goal

pub returns-then-watch-ne0 : goal.returns-then-watch-ne0
returns-then-watch-ne0 c = λ h. rw (ne_eqb c.args.watch.fault 0 c.if-watch-ne0.true)

pub returns-in_default : goal.returns-in_default
returns-in_default c =
    let a = c.args in
    let calm : a.watch.fault ≡ 0 = omega (arith, c.if-watch-ne0.false) in
    last_other a.place a.depth a.watch c.requires.known (λ e. omega arith) (λ e. omega arith) (λ e. omega arith) (λ e. omega arith) calm

pub returns-in_default-2 : goal.returns-in_default-2
returns-in_default-2 c =
    let a = c.args in
    let calm : a.watch.fault ≡ 0 = omega (arith, c.if-watch-ne0.false) in
    last_other a.place a.depth a.watch c.requires.known (λ e. omega arith) (λ e. omega arith) (λ e. omega arith) (λ e. omega arith) calm

pub number_ends-requires : goal.number_ends-requires
number_ends-requires c =
    let a = c.args in
    let calm : a.watch.fault ≡ 0 = omega (arith, c.if-watch-ne0.false) in
    (c.requires.low calm, c.requires.sound.fair)

pub returns-in-16-to-23 : goal.returns-in-16-to-23
returns-in-16-to-23 c =
    let a = c.args in
    let calm : a.watch.fault ≡ 0 = omega (arith, c.if-watch-ne0.false) in
    last_number a.place a.depth a.watch (omega arith) (omega arith) calm c.number_ends.result c.number_ends.ensures
