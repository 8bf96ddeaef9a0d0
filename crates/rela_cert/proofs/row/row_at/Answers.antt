use Rattle.std.proofs.Common.{◌≡◌, Some, get_or, refl}
use Rattle.std.specs.List.{slice_get}
use Rattle.std.proofs.lemmas.Option.{slice_get-get_or}
use Rattle.rela_flows.specs.declared.planning.PlannedRow.TheVariants.{Selected}
use Rattle.rela_cert.specs.Inputs.{subject_of}
use Rattle.rela_cert.specs.Subject.{layout_of}
use Rattle.rela_cert.proofs.Listings.{has_shape}
use Rattle.rela_cert.proofs.row.row_at.Goals as goal

pub returns : goal.returns
returns c listed at =
    let s = subject_of c.args.inputs.now in
    let planned = c.args.planning.now.rows.items in
    let flow = c.flow_and_check-flow.result.0 in
    let number = c.flow_and_check-flow.result.1 in
    let checks = c.args.inputs.now.checks.now in
    let check = get_or checks number c.index-inputs-check.result in
    let is : slice_get planned listed.place ≡ Some (Selected flow number) = c.flow_and_check-flow.ensures.planned listed at in
    let of_check = slice_get-get_or checks number c.index-inputs-check.result c.flow_and_check-flow.ensures.check in
    let shape = has_shape s planned listed (c.listed_as.ensures (layout_of s planned) c.args.certificate.now c.args.number listed c.requires.listed at) flow number is check of_check in
    record {
      of = record {
        flow = flow;
        number = number;
        planned_as = is;
        of_flow = slice_get-get_or c.args.inputs.now.pairs.now flow c.index-inputs-flow.result c.flow_and_check-flow.ensures.flow;
        of_check = of_check;
      };
      names = refl;
      shape = shape;
    }
