use Rattle.std.proofs.Common.{◌≡◌, ◌∙◌, ℕ, List, length, map, refl, ap, sym, subst}
use Rattle.std.specs.Prelude.{count_by}
use Rattle.std.specs.List.{All}
use Rattle.rela_blame.specs.Alternatives.{check_leads}
use Rattle.rela_blame.specs.Zones.{HasClaim}
use Rattle.rela_branches.specs.Alternatives.{alternatives_of}
use Rattle.rela_lex.specs.declared.token.Token.{Token}
use Rattle.rela_expand.specs.Expand.{outcome_of}
use Rattle.rela_engine.specs.RowOf.{relation_of}
use Rattle.rela_report.specs.Status.{is_violated}
use Rattle.rela_report.specs.declared.rows.ReportRow.{ReportRow}
use Rattle.rela_report.specs.declared.rows.Side.{Side}
use Rattle.rela_translate.specs.Checked.{Checked as Check}
use Rattle.rela_translate.specs.Zones as translate
use Rattle.rela_locations.specs.Network.{alphabet_of}
use Rattle.rela_inputs.specs.Specified.{specified_by}
use Rattle.rela_check.specs.Blames.{change_of}
use Rattle.rela_rows.specs.Rows.{AreChecksAt}
use Rattle.rela_inputs.specs.Specifications.{written_by}
use Rattle.rela_check.proofs.BlameLaws.{as_many, in_zone, placed_checks, rows_blamed, rows_claimed}
use Rattle.rela_check.proofs.blaming.blame.Goals as goal

pub rows_of-requires-clause-checks : goal.rows_of-requires-clause-checks
rows_of-requires-clause-checks c =
    subst (λ (ns : List (List ℕ)). AreChecksAt ns c.args.pairs.now c.as_slice-checks.result.now) (sym c.alphabet-names.ensures)
    (subst (λ (cs : List Check). AreChecksAt (alphabet_of c.args.asked.now.level c.args.locations.now) c.args.pairs.now cs) (sym c.as_slice-checks.ensures.value) c.requires.checks)

pub zones-requires-clause-claimed : goal.zones-requires-clause-claimed
zones-requires-clause-claimed c =
    let inside : (of : Side) (check : Check) (locations : ℕ) (u v : List ℕ) → relation_of of check locations u v → translate.Zone check.classes locations check.body u =
    in_zone c.changed_paths_are_in_the_zone.ensures.before c.changed_paths_are_in_the_zone.ensures.after in
    subst (λ (rows : List ReportRow). All (HasClaim (length c.alphabet-names.result.now) c.as_slice-checks.result.now) rows) (sym c.deref.ensures.value)
    (rows_claimed inside c.alphabet-names.result.now c.args.states c.as_slice-checks.result.now c.args.pairs.now c.in_ok-rows.rows.items c.in_ok-rows.ensures.rows)

pub zones-requires-clause-placed : goal.zones-requires-clause-placed
zones-requires-clause-placed c =
    let placed = placed_checks c.args.written.now.file c.args.written.now.tokens.items c.args.asked.now.checks.items
    (c.alternatives_stay_as_many.ensures c.args.locations.now c.args.written.now.file c.args.written.now.tokens.items (map outcome_of c.args.asked.now.checks.items)
    c.requires.spells c.requires.full c.requires.asked.outcomes) in
    subst (λ (ts : List Token). All (λ (check : Check). length (check_leads c.args.written.now.file ts check.name) ≡ length (alternatives_of check.body)) c.as_slice-checks.result.now)
    (sym c.as_slice.ensures.value)
    (subst (λ (cs : List Check). All (λ (check : Check). length (check_leads c.args.written.now.file c.args.written.now.tokens.items check.name) ≡ length (alternatives_of check.body)) cs)
    (sym c.as_slice-checks.ensures.value) placed)

pub text_blamed-requires-clause-one_each : goal.text_blamed-requires-clause-one_each
text_blamed-requires-clause-one_each c =
    ap length c.deref-3.ensures.value
    ∙ (as_many _ c.deref.result.now c.in_ok-zones.zones.items c.in_ok-zones.ensures
    ∙ ap (λ (rows : List ReportRow). count_by is_violated rows) (c.deref.ensures.value ∙ sym c.deref-2.ensures.value))

pub returns-clause-reports : goal.returns-clause-reports
returns-clause-reports c =
    rows_blamed _ (written_by c.args.written.now) (change_of c.args.locations.now c.args.pairs.now (specified_by c.args.asked.now)) c.alphabet-names.result.now c.args.pairs.now c.as_slice-checks.result.now c.in_ok-rows.rows.items
    c.in_ok-zones.zones.items c.in_ok-text.text.items c.status-status.result c.alphabet-names.ensures refl c.as_slice-checks.ensures.value c.in_ok-rows.ensures.rows
    (rw (c.as_slice.ensures.value, c.deref.ensures.value) at c.in_ok-zones.ensures)
    (rw (c.deref-2.ensures.value, c.deref-3.ensures.value) at c.in_ok-text.ensures)
    (rw c.deref-4.ensures.value at c.status-status.ensures)
