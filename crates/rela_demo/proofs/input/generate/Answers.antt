use Rattle.std.proofs.Common.{◌∙◌, ◌≤◌, length, subst, sym, ℕ, List}
use Rattle.rela_demo.specs.Layers.{cut, layered, lost}
use Rattle.rela_demo.specs.Specification.{IsTextOf, specification}
use Rattle.rela_demo.proofs.LocationTexts.{locations_load, locations_short}
use Rattle.rela_demo.proofs.Parsing.{is_specification, specification_short}
use Rattle.rela_demo.proofs.Snapshots.{IsWritten, cut_known, layered_known, lost_known, snapshot_loads, snapshot_short}
use Rattle.rela_demo.proofs.input.generate.Goals as goal

pub returns-clause-locations : goal.returns-clause-locations
returns-clause-locations c = locations_load c.args.n c.in_ok-locations.locations.items c.requires.at_most c.in_ok-locations.ensures

pub returns-clause-before : goal.returns-clause-before
returns-clause-before c =
    let n : ℕ = c.args.n in
    let first : IsWritten n (layered n) c.in_ok-layered.layered = record { known = layered_known n c.requires.at_most; writes = c.in_ok-layered.ensures } in
    snapshot_loads n c.as_slice.result.now c.in_ok-before.before.items c.in_ok-layered.layered c.in_ok-layered.layered c.in_ok-layered.layered (layered n) (layered n) c.requires.from_one c.requires.at_most
    (c.as_slice.ensures.value ∙ c.in_ok-nodes.ensures) first first first c.in_ok-before.ensures

pub returns-clause-after : goal.returns-clause-after
returns-clause-after c =
    let n : ℕ = c.args.n in
    let first : IsWritten n (layered n) c.in_ok-layered.layered = record { known = layered_known n c.requires.at_most; writes = c.in_ok-layered.ensures } in
    let seventh : IsWritten n (cut n) c.in_ok-cut.cut = record { known = cut_known n c.requires.at_most; writes = c.in_ok-cut.ensures } in
    let eighth : IsWritten n (lost n) c.in_ok-lost.lost = record { known = lost_known n c.requires.at_most; writes = c.in_ok-lost.ensures } in
    snapshot_loads n c.as_slice-2.result.now c.in_ok-after.after.items c.in_ok-layered.layered c.in_ok-cut.cut c.in_ok-lost.lost (cut n) (lost n) c.requires.from_one c.requires.at_most
    (c.as_slice-2.ensures.value ∙ c.in_ok-nodes.ensures) first seventh eighth c.in_ok-after.ensures

pub returns-clause-spec : goal.returns-clause-spec
returns-clause-spec c = subst (IsTextOf (specification c.args.n)) (sym c.in_ok-spec.ensures) (is_specification c.args.n)

pub returns-clause-short : goal.returns-clause-short
returns-clause-short c =
    let n : ℕ = c.args.n in
    let first : IsWritten n (layered n) c.in_ok-layered.layered = record { known = layered_known n c.requires.at_most; writes = c.in_ok-layered.ensures } in
    let seventh : IsWritten n (cut n) c.in_ok-cut.cut = record { known = cut_known n c.requires.at_most; writes = c.in_ok-cut.ensures } in
    let eighth : IsWritten n (lost n) c.in_ok-lost.lost = record { known = lost_known n c.requires.at_most; writes = c.in_ok-lost.ensures } in
    record {
      before =
          snapshot_short n c.as_slice.result.now c.in_ok-before.before.items c.in_ok-layered.layered c.in_ok-layered.layered c.in_ok-layered.layered (layered n) (layered n) c.requires.from_one c.requires.at_most
          (c.as_slice.ensures.value ∙ c.in_ok-nodes.ensures) first first first c.in_ok-before.ensures;
      after =
          snapshot_short n c.as_slice-2.result.now c.in_ok-after.after.items c.in_ok-layered.layered c.in_ok-cut.cut c.in_ok-lost.lost (cut n) (lost n) c.requires.from_one c.requires.at_most
          (c.as_slice-2.ensures.value ∙ c.in_ok-nodes.ensures) first seventh eighth c.in_ok-after.ensures;
      locations = locations_short n c.in_ok-locations.locations.items c.requires.at_most c.in_ok-locations.ensures;
      spec = subst (λ (s : List ℕ). length s ≤ 33554432) (sym c.in_ok-spec.ensures) (specification_short n);
    }
