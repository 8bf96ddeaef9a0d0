use Rattle.std.proofs.Common.{◌≡◌, ℕ, List, refl, sym, subst}
use Rattle.rela_assertions.specs.Text.{assertions_text, status_of}
use Rattle.rela_assertions.specs.declared.row.AssertionRow.{AssertionRow}
use Rattle.rela_snapshot.specs.PairsLocated.{ArePairsLocated}
use Rattle.rela_assert.specs.Asserted.{asserted_by}
use Rattle.rela_assert.proofs.ClaimLaws.{claims_reported}
use Rattle.rela_assert.proofs.asserting.report_claims.Goals as goal

pub returns-clause-reports : goal.returns-clause-reports
returns-clause-reports c =
    claims_reported _ _ _ _ (asserted_by c.args.asserted.now) c.alphabet-names.result.now _ c.in_ok-rows.rows.items c.in_ok-text.text.items c.status-status.result
    c.alphabet-names.ensures refl c.deref.ensures.value c.in_ok-rows.ensures.rows
    (subst (λ (rows : List AssertionRow). c.in_ok-text.text.items ≡ assertions_text c.alphabet-names.result.now rows) c.deref-2.ensures.value c.in_ok-text.ensures)
    (subst (λ (rows : List AssertionRow). c.status-status.result ≡ status_of rows) c.deref-3.ensures.value c.status-status.ensures)

pub rows_of-requires-clause-located : goal.rows_of-requires-clause-located
rows_of-requires-clause-located c =
    subst (λ (names : List (List ℕ)). ArePairsLocated names c.args.asserted.now.level c.args.pairs.now) (sym c.alphabet-names.ensures) c.requires.located
