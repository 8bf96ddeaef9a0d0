use Rattle.std.proofs.Common.{◌∙◌, ap}
use Rattle.rela_locations.specs.Load as locations
use Rattle.rela_locations.specs.Network.{alphabet_of}
use Rattle.rela_inputs.specs.Loaded.{loaded_by}
use Rattle.rela_demonstrate.proofs.LayerLaws.{LoadsTheSame, are_checks, network_is, network_memory, layered_read, layered_passed}
use Rattle.rela_demonstrate.proofs.demonstrating.load_texts.Goals as goal

pub returns-in_err-locations-clause-layered : goal.returns-in_err-locations-clause-layered
returns-in_err-locations-clause-layered c = λ n is.
    layered_passed n loaded_by c.from_residual.result c.in_err-locations.field-0.0 c.from_residual.ensures.1
    (network_memory n _ c.in_err-locations.field-0.0 c.in_err-locations.ensures (ap locations.Load c.locations.ensures ∙ is.locations))

pub returns-in_err-change-clause-layered : goal.returns-in_err-change-clause-layered
returns-in_err-change-clause-layered c = λ n is.
    let network = network_is n _ _ c.in_ok-locations.ensures (ap locations.Load c.locations.ensures ∙ is.locations) in
    layered_passed n loaded_by c.from_residual-in_err-change.result c.in_err-change.field-0.0 c.from_residual-in_err-change.ensures.1
    (c.in_err-change.ensures.layered n network is)

pub returns-clause-layered : goal.returns-clause-layered
returns-clause-layered c = λ n is.
    let network = network_is n _ _ c.in_ok-locations.ensures (ap locations.Load c.locations.ensures ∙ is.locations) in
    let change = c.in_ok-change.ensures.layered n network is in
    let same : LoadsTheSame = record {
      flows = c.loads_are_the_same.ensures.flows;
      pairs = c.loads_are_the_same.ensures.pairs;
      specified = c.loads_are_the_same.ensures.specified;
    } in
    layered_read n same _ (record { network = network; pairs = change.0; specified = change.1 })

pub returns-clause-checks : goal.returns-clause-checks
returns-clause-checks c =
    let asked = c.in_ok-change.change.1 in
    let names = alphabet_of asked.level c.in_ok-locations.locations in
    are_checks names _ asked.level asked.checks.items (c.in_ok-change.ensures.located asked.level) c.in_ok-change.ensures.levels
    c.in_ok-change.ensures.listed
