use Rattle.std.proofs.Common.{◌≡◌, ◌∙◌, ◌<◌, ℕ, Option, Some, List, length, get_or, sym, ap, subst, arith}
use Rattle.std.specs.Prelude.{IfSome}
use Rattle.std.specs.List.{slice_get}
use Rattle.std.proofs.lemmas.Option.{slice_get-get_or}
use Rattle.rela_certfile.specs.Layout.{Layout, shape_at}
use Rattle.rela_certfile.specs.Listed.{IsListedAs}
use Rattle.rela_certfile.specs.declared.rows.ListedRow.{ListedRow}
use Rattle.rela_flows.specs.declared.planning.PlannedRow.{PlannedRow}
use Rattle.rela_flows.specs.declared.planning.PlannedRow.TheVariants.{Selected, Unselected}
use Rattle.rela_cert.specs.Inputs.{subject_of}
use Rattle.rela_cert.specs.Sharing.{HoldsOf, IsFoundFor}
use Rattle.rela_cert.proofs.Listings.{read_at, within_there}
use Rattle.rela_cert.proofs.MadeRows.{no_check}
use Rattle.rela_cert.proofs.Options.{on_ok}
use Rattle.rela_cert.proofs.SharedRows.{found_here, found_listed, found_more, holds_placed, listed_below, other_below}
use Rattle.rela_cert.proofs.certifying.write_row.Goals as goal

-- what is read at the place, as it is matched
row_there : (planned : List PlannedRow) (place : ℕ) (read row : PlannedRow) → place < length planned → read ≡ get_or planned place read → read ≡ row
    → slice_get planned place ≡ Some row
row_there planned place read row below is same = read_at planned place read below is ∙ ap (λ (r : PlannedRow). Some r) same

pub index-other-requires : goal.index-other-requires
index-other-requires c =
    let s = subject_of c.args.inputs.now in
    let rows = c.args.planning.now.rows.items in
    let planned = row_there rows c.args.place c.index.result.now (Selected c.in-Selected.flow c.in-Selected.check) c.requires.place c.index.ensures c.in-Selected.is in
    let within = within_there s rows c.requires.planned.within c.args.place c.in-Selected.flow c.in-Selected.check planned in
    let below = listed_below s c.args.planning.now.alike.items c.requires.planned.alike c.in-Selected.flow c.in-Selected.check within.0 within.1 in
    omega (arith, below)

pub take_or_find-requires-clause-flow : goal.take_or_find-requires-clause-flow
take_or_find-requires-clause-flow c =
    let s = subject_of c.args.inputs.now in
    let rows = c.args.planning.now.rows.items in
    let planned = row_there rows c.args.place c.index.result.now (Selected c.in-Selected.flow c.in-Selected.check) c.requires.place c.index.ensures c.in-Selected.is in
    let within = within_there s rows c.requires.planned.within c.args.place c.in-Selected.flow c.in-Selected.check planned in
    other_below s c.args.planning.now.alike.items c.requires.planned.alike c.in-Selected.flow c.in-Selected.check c.index-other.result.now within.0 within.1 c.index-other.ensures

pub offset_bounds-inputs-other : goal.offset_bounds-inputs-other
offset_bounds-inputs-other c =
    let s = subject_of c.args.inputs.now in
    let rows = c.args.planning.now.rows.items in
    let planned = row_there rows c.args.place c.index.result.now (Selected c.in-Selected.flow c.in-Selected.check) c.requires.place c.index.ensures c.in-Selected.is in
    let within = within_there s rows c.requires.planned.within c.args.place c.in-Selected.flow c.in-Selected.check planned in
    let below = other_below s c.args.planning.now.alike.items c.requires.planned.alike c.in-Selected.flow c.in-Selected.check c.index-other.result.now within.0 within.1 c.index-other.ensures in
    omega (arith, below)

pub bounds-inputs-other : goal.bounds-inputs-other
bounds-inputs-other c =
    let s = subject_of c.args.inputs.now in
    let rows = c.args.planning.now.rows.items in
    let planned = row_there rows c.args.place c.index.result.now (Selected c.in-Selected.flow c.in-Selected.check) c.requires.place c.index.ensures c.in-Selected.is in
    let within = within_there s rows c.requires.planned.within c.args.place c.in-Selected.flow c.in-Selected.check planned in
    other_below s c.args.planning.now.alike.items c.requires.planned.alike c.in-Selected.flow c.in-Selected.check c.index-other.result.now within.0 within.1 c.index-other.ensures

pub write_found-requires : goal.write_found-requires
write_found-requires c =
    let s = subject_of c.args.inputs.now in
    let rows = c.args.planning.now.rows.items in
    let planned = row_there rows c.args.place c.index.result.now (Selected c.in-Selected.flow c.in-Selected.check) c.requires.place c.index.ensures c.in-Selected.is in
    let within = within_there s rows c.requires.planned.within c.args.place c.in-Selected.flow c.in-Selected.check planned in
    let below = other_below s c.args.planning.now.alike.items c.requires.planned.alike c.in-Selected.flow c.in-Selected.check c.index-other.result.now within.0 within.1 c.index-other.ensures in
    subst (λ (l : Layout). IfSome c.found_at-found.result (λ row. IsListedAs (shape_at l row.place) row)) (sym c.requires.layout)
    (found_listed s rows c.args.states c.args.place c.found_at-found.result
    (found_here s rows c.args.planning.now.alike.items c.requires.planned.alike c.args.states c.args.place c.in-Selected.flow c.in-Selected.check c.index-other.result.now
    (get_or s.pairs c.in-Selected.flow c.index-inputs-flow.result) (get_or s.pairs c.index-other.result.now c.index-inputs-other.result)
    (get_or s.checks c.in-Selected.check c.index-inputs-check.result) planned
    (slice_get-get_or s.pairs c.in-Selected.flow c.index-inputs-flow.result within.0)
    (slice_get-get_or s.pairs c.index-other.result.now c.index-inputs-other.result below)
    (slice_get-get_or s.checks c.in-Selected.check c.index-inputs-check.result within.1) c.index-other.ensures
    c.rows_carry_over.ensures.met c.rows_carry_over.ensures.made c.rows_carry_over.ensures.excused
    c.in_ok-found-in-Selected.found c.found_at-found.result c.found_at-found.ensures c.in_ok-found-in-Selected.ensures.found))

pub returns-in_ok-insert-in-Selected-clause-kept : goal.returns-in_ok-insert-in-Selected-clause-kept
returns-in_ok-insert-in-Selected-clause-kept c =
    let s = subject_of c.args.inputs.now in
    found_more s c.args.states c.take_or_find.new.kept c.insert.new.self c.index-other.result.now c.in-Selected.check c.found_at-found.result c.in_ok-insert-in-Selected.ensures.updates.0
    c.take_or_find.ensures.kept
    (subst (λ (found : Option ListedRow). HoldsOf s c.index-other.result.now c.in-Selected.check (IsFoundFor (length s.names) c.args.states found)) (sym c.found_at-found.ensures)
    (holds_placed s c.args.states c.args.place c.index-other.result.now c.in-Selected.check c.in_ok-found-in-Selected.found c.in_ok-found-in-Selected.ensures.found))

pub returns-in_ok-insert-in-Selected-clause-written : goal.returns-in_ok-insert-in-Selected-clause-written
returns-in_ok-insert-in-Selected-clause-written c begun =
    let s = subject_of c.args.inputs.now in
    let rows = c.args.planning.now.rows.items in
    let planned = row_there rows c.args.place c.index.result.now (Selected c.in-Selected.flow c.in-Selected.check) c.requires.place c.index.ensures c.in-Selected.is in
    let within = within_there s rows c.requires.planned.within c.args.place c.in-Selected.flow c.in-Selected.check planned in
    let below = other_below s c.args.planning.now.alike.items c.requires.planned.alike c.in-Selected.flow c.in-Selected.check c.index-other.result.now within.0 within.1 c.index-other.ensures in
    c.in_ok-write_found-in-Selected.ensures s rows c.args.states c.args.place c.requires.layout
    (found_here s rows c.args.planning.now.alike.items c.requires.planned.alike c.args.states c.args.place c.in-Selected.flow c.in-Selected.check c.index-other.result.now
    (get_or s.pairs c.in-Selected.flow c.index-inputs-flow.result) (get_or s.pairs c.index-other.result.now c.index-inputs-other.result)
    (get_or s.checks c.in-Selected.check c.index-inputs-check.result) planned
    (slice_get-get_or s.pairs c.in-Selected.flow c.index-inputs-flow.result within.0)
    (slice_get-get_or s.pairs c.index-other.result.now c.index-inputs-other.result below)
    (slice_get-get_or s.checks c.in-Selected.check c.index-inputs-check.result within.1) c.index-other.ensures
    c.rows_carry_over.ensures.met c.rows_carry_over.ensures.made c.rows_carry_over.ensures.excused
    c.in_ok-found-in-Selected.found c.found_at-found.result c.found_at-found.ensures c.in_ok-found-in-Selected.ensures.found)
    begun

pub returns-in-Unselected-clause-written : goal.returns-in-Unselected-clause-written
returns-in-Unselected-clause-written c =
    let s = subject_of c.args.inputs.now in
    let rows = c.args.planning.now.rows.items in
    on_ok c.write_found-in-Unselected.result
    (λ told begun. told s rows c.args.states c.args.place c.requires.layout
    (no_check s rows c.args.place c.in-Unselected.flow c.args.states
    (row_there rows c.args.place c.index.result.now (Unselected c.in-Unselected.flow) c.requires.place c.index.ensures c.in-Unselected.is)) begun)
    c.write_found-in-Unselected.ensures
