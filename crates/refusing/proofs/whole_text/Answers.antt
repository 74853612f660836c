-- `refusing::whole_text` meets its contract. Assumes nothing.
use Rattle.jsontext.specs.Automaton.{at, start}
use Rattle.grammar.specs.Codes.{place_at}
use Rattle.brackets.specs.Brackets.{brackets}
use Rattle.follow.proofs.Going.{then}
use Rattle.refusing.proofs.Halting.{died, lives}
use Rattle.refusing.proofs.whole_text.Goals as goal

pub returns-then-place-eq63 : goal.returns-then-place-eq63
returns-then-place-eq63 c = died c.requires.1 c.if-place-eq63.true

pub follow-requires : goal.follow-requires
follow-requires c =
    let l = lives c.requires.1 c.if-place-eq63.false in
    (l.going.inside, c.requires.0, l.known, l.fits)

pub returns : goal.returns
returns c =
    let a = c.args in
    let l = lives c.requires.1 c.if-place-eq63.false in
    then a.json.now 0 start a.at (at (place_at a.place) (brackets a.opened)) l.going c.follow.result c.follow.ensures
