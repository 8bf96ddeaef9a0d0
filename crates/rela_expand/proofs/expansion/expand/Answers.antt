use Rattle.std.proofs.Common.{◌≡◌, ◌≢◌, map, Ok, Err}
use Rattle.std.specs.List.{All, AllZip}
use Rattle.rela_json.specs.Results.{try_fold}
use Rattle.rela_lex.specs.declared.error.SpecError.TheVariants.{Memory}
use Rattle.rela_locations.specs.Network.{alphabet_of}
use Rattle.rela_expand.specs.Expand.{expanded, outcome_of}
use Rattle.rela_expand.specs.Listed.{ListsPathSymbols}
use Rattle.rela_expand.specs.Faithful.{IsFaithful}
use Rattle.rela_expand.specs.Places.{Place}
use Rattle.rela_expand.specs.Walk.{Seen, at_start, with_shaped}
use Rattle.rela_expand.specs.ZonesW.{bodies_of}
use Rattle.rela_expand.proofs.BodyGathering.{if_err}
use Rattle.rela_expand.proofs.ExpandedFile.{expanded_to, if_ok, not_expanded}
use Rattle.rela_expand.proofs.Faithfulness.{checks_are_faithful}
use Rattle.rela_expand.proofs.ListedChecks.{checks_listed}
use Rattle.rela_expand.proofs.expansion.expand.Goals as goal

pub returns-clause-checks : goal.returns-clause-checks
returns-clause-checks c =
    let network = c.args.locations.now in
    let file = c.args.file.now in
    let place : Place = record { network = network; level = file.level } in
    let items = c.as_slice.result.now in
    if_ok c.walk_items.result
    (λ checks. (seen : Seen) × (try_fold (with_shaped place) at_start items ≡ Ok seen) × (seen.checks ≡ map outcome_of checks.items))
    (λ checks. expanded network file ≡ Ok (map outcome_of checks.items))
    (λ checks made. expanded_to network file items c.as_slice.ensures made.0 (map outcome_of checks.items) made.1 made.2)
    c.walk_items.ensures.checks

pub returns-clause-faithful : goal.returns-clause-faithful
returns-clause-faithful c =
    let network = c.args.locations.now in
    let file = c.args.file.now in
    let place : Place = record { network = network; level = file.level } in
    let items = c.as_slice.result.now in
    if_ok c.walk_items.result
    (λ checks. (seen : Seen) × (try_fold (with_shaped place) at_start items ≡ Ok seen) × (seen.checks ≡ map outcome_of checks.items))
    (λ checks. AllZip (IsFaithful place file.items) (bodies_of file.items) checks.items)
    (λ checks made.
    checks_are_faithful network file checks.items c.requires.full (expanded_to network file items c.as_slice.ensures made.0 (map outcome_of checks.items) made.1 made.2))
    c.walk_items.ensures.checks

pub returns-clause-listed : goal.returns-clause-listed
returns-clause-listed c =
    let network = c.args.locations.now in
    let file = c.args.file.now in
    let place : Place = record { network = network; level = file.level } in
    let items = c.as_slice.result.now in
    if_ok c.walk_items.result
    (λ checks. (seen : Seen) × (try_fold (with_shaped place) at_start items ≡ Ok seen) × (seen.checks ≡ map outcome_of checks.items))
    (λ checks. All (ListsPathSymbols (alphabet_of file.level network)) checks.items)
    (λ checks made. checks_listed network file checks.items (expanded_to network file items c.as_slice.ensures made.0 (map outcome_of checks.items) made.1 made.2))
    c.walk_items.ensures.checks

pub returns-clause-refused : goal.returns-clause-refused
returns-clause-refused c =
    let network = c.args.locations.now in
    let file = c.args.file.now in
    let place : Place = record { network = network; level = file.level } in
    let items = c.as_slice.result.now in
    if_err c.walk_items.result
    (λ e. e ≢ Memory → try_fold (with_shaped place) at_start items ≡ Err e)
    (λ e. e ≢ Memory → expanded network file ≡ Err e)
    (λ e refused apart. not_expanded network file items c.as_slice.ensures e (refused apart))
    c.walk_items.ensures.refused
