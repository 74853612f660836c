-- `line_in` meets its contract, keyword by keyword. Assumes nothing.
use native.Mathlib.Omega.{arith}
use mathlib.Core.Path.{refl}
use Rattle.sheet.specs.Record.{doc_of}
use Rattle.areas.specs.Cells.{pair_is}
use Rattle.told.proofs.Earlier.{started_as}
use Rattle.line.proofs.Lines.{rest_lined, all_lined, none_named, lined_as}
use Rattle.line.proofs.line_in.Goals as goal

pub returns-then-from-i : goal.returns-then-from-i
returns-then-from-i c =
    let is = c.in-AdditionalProperties.is in
    let line = c.children_line-then-from-i.ensures.children_line in
    let r = c.children_line-then-from-i.result in record {
      by_index = λ ts rs us form asked read.
          let told = started_as rs us _ c.args.clause _ is read.means asked.started in
          lined_as r.first r.count r.rule.0 rs us c.args.clause _ is (all_lined (doc_of c.args.«record».now ts) (pair_is c.args.p) _ _ 0 c.members_in-many.result r line.count_is (λ h. line.first_is h ts) line.rule_is (none_named _ asked told (omega (arith, c.if-from-i.true))) refl (c.members_in-many.ensures ts));
      count_bound = c.children_line-then-from-i.ensures.count_bound;
    }

pub returns-in-Items : goal.returns-in-Items
returns-in-Items c =
    let is = c.in-Items.is in
    let line = c.children_line.ensures.children_line in
    let r = c.children_line.result in record {
      by_index = λ ts rs us form asked read.
          let told = started_as rs us _ c.args.clause _ is read.means asked.started in
          lined_as r.first r.count r.rule.0 rs us c.args.clause _ is (rest_lined (doc_of c.args.«record».now ts) (pair_is c.args.p) _ _ c.args.from c.elements_in-many.result r line.count_is (λ h. line.first_is h ts) line.rule_is told (c.elements_in-many.ensures ts));
      count_bound = c.children_line.ensures.count_bound;
    }
