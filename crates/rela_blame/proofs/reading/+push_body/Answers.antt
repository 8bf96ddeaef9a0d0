use Rattle.std.proofs.Common.{List, [], length, map, subst, sym, ap, ◌∙◌}
use Rattle.std.specs.Prelude.{OnOk}
use Rattle.rela_spec.specs.declared.tree.SpecExpr.{SpecExpr}
use Rattle.rela_blame.specs.Alternatives.{Leads, in_turn, leads_of}
use Rattle.rela_blame.specs.Tables.{AreRead, named_by, values_of}
use Rattle.rela_blame.specs.Units.{unit_offsets}
use Rattle.rela_blame.specs.declared.leads.Lead.{Lead}
use Rattle.rela_blame.proofs.Readings.{leads_else, leads_reference, leads_then, leads_unit, reading_done, reading_more, then_on_ok}
use Rattle.rela_blame.proofs.reading.+push_body.Goals as goal

pub push_body-returns-in-Unit : goal.push_body-returns-in-Unit
push_body-returns-in-Unit t c =
    let table = c.args.table.now in
    let units = unit_offsets c.args.units.now.tokens.now in
    subst (λ (f : Leads). OnOk c.push_unit.result (AreRead table f c.args.leads.now.items c.push_unit.new.leads.items (unit_offsets c.push_unit.new.units.tokens.now)))
    (sym (ap (λ (b : SpecExpr). leads_of (named_by table) b units) c.in-Unit.is ∙ leads_unit (named_by table) c.in-Unit.zone c.in-Unit.modifier units))
    (c.push_unit.ensures table)

pub push_body-returns-in-Reference : goal.push_body-returns-in-Reference
push_body-returns-in-Reference t c =
    let table = c.args.table.now in
    let units = unit_offsets c.args.units.now.tokens.now in
    subst (λ (f : Leads). OnOk c.push_named.result (AreRead table f c.args.leads.now.items c.push_named.new.leads.items units))
    (sym (ap (λ (b : SpecExpr). leads_of (named_by table) b units) c.in-Reference.is ∙ leads_reference (named_by table) c.in-Reference.name c.in-Reference.at units))
    (c.push_named.ensures units)

pub push_body-returns-in_ok-push_parts-in-Then : goal.push_body-returns-in_ok-push_parts-in-Then
push_body-returns-in_ok-push_parts-in-Then t c =
    let table = c.args.table.now in
    let units = unit_offsets c.args.units.now.tokens.now in
    let left = unit_offsets c.push_parts.new.units.tokens.now in
    let parts = in_turn (map (leads_of (named_by table)) c.as_slice.result.now) units in
    subst (λ (f : Leads). OnOk c.push_first.result (AreRead table f c.args.leads.now.items c.push_first.new.leads.items left))
    (sym (ap (λ (b : SpecExpr). leads_of (named_by table) b units) c.in-Then.is ∙ leads_then (named_by table) c.in-Then.parts units))
    (then_on_ok table c.args.leads.now.items c.push_first.result c.as_slice-in-Then.result.now c.push_first.new.leads.items (in_turn (map (leads_of (named_by table)) c.in-Then.parts) units) left
    (subst (λ (ps : List SpecExpr). AreRead table (in_turn (map (leads_of (named_by table)) ps) units) (let none : List Lead = [] in none) c.as_slice-in-Then.result.now left) c.as_slice.ensures
    (subst (λ (ls : List Lead). AreRead table parts (let none : List Lead = [] in none) ls left) (sym c.as_slice-in-Then.ensures.value)
    (subst (λ (ls : List Lead). AreRead table parts ls c.push_parts.new.leads.items left) c.new-whole.ensures.items c.in_ok-push_parts-in-Then.ensures)))
    (λ below. c.push_first.ensures.value (values_of table.list.items) (length table.list.items) below)
    (λ below old. c.push_first.ensures.below (values_of table.list.items) (length table.list.items) below old))

pub push_body-returns-in-Else : goal.push_body-returns-in-Else
push_body-returns-in-Else t c =
    let table = c.args.table.now in
    let units = unit_offsets c.args.units.now.tokens.now in
    subst (λ (f : Leads). OnOk c.push_parts-in-Else.result (AreRead table f c.args.leads.now.items c.push_parts-in-Else.new.leads.items (unit_offsets c.push_parts-in-Else.new.units.tokens.now)))
    (ap (λ (ps : List SpecExpr). in_turn (map (leads_of (named_by table)) ps) units) c.as_slice-in-Else.ensures
    ∙ sym (ap (λ (b : SpecExpr). leads_of (named_by table) b units) c.in-Else.is ∙ leads_else (named_by table) c.in-Else.parts units))
    c.push_parts-in-Else.ensures

pub push_parts-loop-part-preserved : goal.push_parts-loop-part-preserved
push_parts-loop-part-preserved t c =
    let table = c.args.table.now in
    reading_more table (leads_of (named_by table)) c.args.parts.now (unit_offsets c.args.units.now.tokens.now) c.args.leads.now.items c.loop-part.part-index (unit_offsets c.loop-part.units.tokens.now)
    (unit_offsets c.push_body.new.units.tokens.now) c.loop-part.leads.items c.push_body.new.leads.items c.part-item.result c.loop-part-test.true c.part-item.is c.loop-part.invariant
    c.in_ok-push_body.ensures

pub push_parts-returns : goal.push_parts-returns
push_parts-returns t c =
    let table = c.args.table.now in
    reading_done table (leads_of (named_by table)) c.args.parts.now (unit_offsets c.args.units.now.tokens.now) c.args.leads.now.items c.loop-part.part-index (unit_offsets c.loop-part.units.tokens.now)
    c.loop-part.leads.items c.loop-part-test.false c.loop-part.invariant
