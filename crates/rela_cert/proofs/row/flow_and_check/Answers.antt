use Rattle.std.proofs.Common.{◌≡◌, ◌<◌, ℕ, Some, List, length, sym, subst}
use Rattle.std.specs.List.{slice_get}
use Rattle.rela_flows.specs.declared.planning.PlannedRow.{PlannedRow}
use Rattle.rela_flows.specs.declared.planning.PlannedRow.TheVariants.{Selected}
use Rattle.rela_cert.specs.Inputs.{subject_of}
use Rattle.rela_cert.specs.Subject.{layout_of}
use Rattle.rela_cert.proofs.Listings.{place_is, planned_there, row_there, within_there}
use Rattle.rela_cert.proofs.row.flow_and_check.Goals as goal
use Rattle.rela_cert.proofs.row.flow_and_check.Goals.{After-planned_at}

pub planned_at-requires : goal.planned_at-requires
planned_at-requires c =
    let found = row_there c.args.certificate.now c.args.number c.requires.number in
    let s = subject_of c.args.inputs.now in
    let planned = c.args.planning.now.rows.items in
    let there = planned_there s planned found.0 (c.listed_as.ensures (layout_of s planned) c.args.certificate.now c.args.number found.0 c.requires.listed found.1) in (
      there.0,
      there.1,
      subst (λ (rows : List PlannedRow). slice_get rows c.place.result ≡ Some (Selected there.0 there.1)) (sym c.as_slice.ensures.value)
          (subst (λ (k : ℕ). slice_get c.args.planning.now.rows.items k ≡ Some (Selected there.0 there.1)) (sym (place_is c.args.certificate.now c.args.number found.0 c.place.result found.1 c.place.ensures)) there.2),
    )

planned_as : (c : After-planned_at) → slice_get c.args.planning.now.rows.items c.place.result ≡ Some (Selected c.planned_at.result.0 c.planned_at.result.1)
planned_as c = subst (λ (rows : List PlannedRow). slice_get rows c.place.result ≡ Some (Selected c.planned_at.result.0 c.planned_at.result.1)) c.as_slice.ensures.value c.planned_at.ensures

within : (c : After-planned_at) → (c.planned_at.result.0 < length c.args.inputs.now.pairs.now) × (c.planned_at.result.1 < length c.args.inputs.now.checks.now)
within c =
    within_there (subject_of c.args.inputs.now) c.args.planning.now.rows.items c.requires.planned.within c.place.result c.planned_at.result.0 c.planned_at.result.1 (planned_as c)

pub returns : goal.returns
returns c =
    let here = (goal.at.returns c).After-planned_at in
    record {
      planned = λ listed at.
          subst (λ (k : ℕ). slice_get c.args.planning.now.rows.items k ≡ Some (Selected c.planned_at.result.0 c.planned_at.result.1))
          (place_is c.args.certificate.now c.args.number listed c.place.result at c.place.ensures) (planned_as here);
      flow = (within here).0;
      check = (within here).1;
    }
