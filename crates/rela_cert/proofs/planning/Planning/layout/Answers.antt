use Rattle.std.proofs.Common.{◌≡◌, ◌≢◌, ◌∙◌, List, ℕ, length, map, sym, ap, subst}
use Rattle.std.specs.List.{AllPairs}
use Rattle.rela_certfile.specs.Layout.{check_names}
use Rattle.rela_flows.specs.declared.planning.PlannedRow.{PlannedRow}
use Rattle.rela_translate.specs.Checked.{Checked}
use Rattle.rela_cert.proofs.Listings.{names_of_shapes}
use Rattle.rela_cert.proofs.planning.Planning.layout.Goals as goal

pub new-requires-clause-rows_differ : goal.new-requires-clause-rows_differ
new-requires-clause-rows_differ c =
    subst (λ (rows : List PlannedRow). AllPairs (λ a b. a ≢ b) rows) (sym c.as_slice.ensures.value) (c.planned_rows.ensures.differ _ _ _ c.requires.planned.plan)

pub new-requires-clause-checks_differ : goal.new-requires-clause-checks_differ
new-requires-clause-checks_differ c =
    let n = length c.args.inputs.now.alphabet.now in
    let checks = c.args.inputs.now.checks.now in
    let same : map (λ (check : Checked). check.name) checks ≡ check_names c.as_slice-3.result.now =
    sym (ap check_names (c.as_slice-3.ensures.value ∙ c.requires.planned.shapes) ∙ names_of_shapes n checks) in
    subst (λ (names : List (List ℕ)). AllPairs (λ a b. a ≢ b) names) same c.requires.subject.checks_differ
