-- `scan::next` meets its contract. Assumes nothing.
use mathlib.Core.List.{List}
use mathlib.Core.Option.{some}
use mathlib.Core.Path.{refl, sym, ap, ◌∙◌}
use lib.ListN.{get_or}
use Rattle.jsontext.specs.Automaton.{Bracket, Place, at}
use Rattle.grammar.specs.Codes.{place_at}
use Rattle.brackets.specs.Brackets.{brackets}
use Rattle.brackets.proofs.Bits.{stepped_none, stepped_some}
use Rattle.scan.specs.Scanning.{areas, tally_in, dies, goes}
use Rattle.brackets.proofs.Moving.{code_place}
use Rattle.scan.proofs.Carrying.{how_many, watches, counts}
use Rattle.scan.proofs.next.Goals as goal

pub returns-in_default : goal.returns-in_default
returns-in_default c =
    let a = c.args in
    let b = get_or a.json.now a.at 0 in
    dies refl (stepped_none a.p.place b c.around.result (brackets a.p.opened) c.around.ensures (sym c.step.ensures ∙ c.in_default.is))

pub count-requires : goal.count-requires
count-requires c =
    let q = c.requires.ready in (q.known, q.values_low, q.texts_low)

pub gather_byte-requires : goal.gather_byte-requires
gather_byte-requires c =
    let q = c.requires.ready in (q.known, c.requires.at_in_bounds.1, c.requires.at_in_bounds.0, q.names_low)

pub returns : goal.returns
returns c =
    let a = c.args in
    let json = a.json.now in
    let b = get_or json a.at 0 in
    let P : Place = place_at a.p.place in
    let ks : List Bracket = brackets a.p.opened in
    let r = c.around.result in
    let m = c.in-Some.m in
    let leads = sym c.step.ensures ∙ c.in-Some.is in
    let turned = c.changed_by.ensures in
    let more = c.requires.at_in_bounds.0 in
    goes refl
    (record {
      known = code_place m a.p.place b r leads;
      fits = turned.fits;
      steps = stepped_some a.p.place b r ks c.around.ensures m leads ∙ ap (λ (x : List Bracket). some (at (place_at m.place) x)) (sym turned.brackets_are);
      watched = c.watch_on.ensures ∙ sym (watches json a.at more P a.p.opened a.p.watch);
      tallied = c.count.ensures ∙ sym (counts json a.at more P a.p.opened (tally_in a.p (areas a.values.now a.texts.now a.names.now a.words.now a.objects.now)));
      gathered = c.gather_byte.ensures ks (how_many a.p.opened.bits a.p.opened.depth);
    })
