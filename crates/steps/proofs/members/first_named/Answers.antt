use mathlib.Core.Path.{◌≡◌, refl, sym, ◌∙◌}
use native.Mathlib.Omega.{arith}
use Prim.Native.Nat.{◌<◌}
use Rattle.text.specs.Part.{part}
use Rattle.sheet.specs.Record.{doc_of}
use Rattle.rulesheet.specs.declared.code.Fields.TheVariants.{Members}
use Rattle.rulesheet.specs.Clauses.{members_in}
use Rattle.clause.proofs.Listing.{list_few}
use Rattle.plan.specs.Plan.{member_count, own}
use Rattle.std.proofs.lemmas.Option.{none-some}
use Rattle.steps.proofs.Aiming.{members_object, named_place}
use Rattle.steps.proofs.Turns.{named_none, named_pair}
use Rattle.steps.proofs.members.first_named.Goals as goal

pub members_in-members-requires : goal.members_in-members-requires
members_in-members-requires c = (c.requires.record_read.0.laid, c.requires.record_read.1)

pub returns-then-members-eq0 : goal.returns-then-members-eq0
returns-then-members-eq0 c =
    λ p same. record {
      found = λ e. absurd (none-some _ e);
      past = λ e.
          let none : member_count (own (doc_of c.args.«record».now c.args.text.now) p) ≡ 0 = rw same (sym (c.members_in-members.ensures c.args.text.now) ∙ c.if-members-eq0.true) in
          record { none = λ k a b. omega arith };
    }

pub loop-at-init : goal.loop-at-init
loop-at-init c = λ p same. record { none = λ k a b. absurd (omega arith) }

pub entry_name-name-requires : goal.entry_name-name-requires
entry_name-name-requires c = (c.requires.rules_read.0.laid.clauses_laid.schemas_laid.formed, c.requires.rules_read.1.within, omega arith)

pub child_named-n-requires : goal.child_named-n-requires
child_named-n-requires c =
    let some : 0 < member_count ((doc_of c.args.«record».now c.args.text.now).value c.args.row.0) = omega (arith, c.members_in-members.ensures c.args.text.now, c.if-members-eq0.false) in record {
      object_read = (c.requires.record_read.0, c.requires.record_read.1, members_object ((doc_of c.args.«record».now c.args.text.now).value c.args.row.0) some);
      name_fits = rw c.requires.rules_read.0.text_length (c.entry_name-name.ensures.name_fits Members refl c.requires.rules_read.1.listed);
    }

pub returns-then-n-members : goal.returns-then-n-members
returns-then-n-members c =
    let D = doc_of c.args.«record».now c.args.text.now in
    let us = c.args.rule_text.now in
    let some : 0 < member_count (D.value c.args.row.0) = omega (arith, c.members_in-members.ensures c.args.text.now, c.if-members-eq0.false) in
    λ p same.
    named_pair D p (members_in c.args.rules.now us c.args.list) (record {
      ahead = c.loop-at.auto.at;
      within = c.loop-at-test.true;
      small = omega (arith, list_few c.requires.rules_read.0 c.requires.rules_read.1, c.loop-at-test.true);
      member = rw same (rw (← c.members_in-members.ensures c.args.text.now) c.if-n-members.true);
      place_is = named_place D p (rw same some) {n = c.child_named-n.result} {name = part us c.entry_name-name.result} (rw same c.child_named-n.ensures) (c.entry_name-name.ensures.member_is us);
      before = c.loop-at.invariant p same;
    })

pub loop-at-preserved : goal.loop-at-preserved
loop-at-preserved c =
    let D = doc_of c.args.«record».now c.args.text.now in
    let us = c.args.rule_text.now in
    let some : 0 < member_count (D.value c.args.row.0) = omega (arith, c.members_in-members.ensures c.args.text.now, c.if-members-eq0.false) in
    λ p same.
    named_none D p (members_in c.args.rules.now us c.args.list) (c.loop-at.invariant p same)
    (named_place D p (rw same some) {n = c.child_named-n.result} {name = part us c.entry_name-name.result} (rw same c.child_named-n.ensures) (c.entry_name-name.ensures.member_is us))
    (rw same (rw (← c.members_in-members.ensures c.args.text.now) (omega (arith, c.if-n-members.false))))

pub returns : goal.returns
returns c =
    λ p same. record {
      found = λ e. absurd (none-some _ e);
      past = λ e. record { none = λ k a b. (c.loop-at.invariant p same).none k a (omega (arith, c.loop-at-test.false)) };
    }
