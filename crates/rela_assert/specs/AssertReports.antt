-- What the four inputs of `rir` give: the rows of the assertions, or the first refusal in the order in which they are
-- read.
use Rattle.std.specs.Prelude.{◌≡◌, ℕ, List, Option, Result, Ok}
use Rattle.rela_assertions.specs.Agreement.{AgreeInRows}
use Rattle.rela_assertions.specs.Rows.{AreRowsOf}
use Rattle.rela_assertions.specs.Text.{assertions_text, status_of}
use Rattle.rela_assertions.specs.declared.row.AssertionRow.{AssertionRow}
use Rattle.rela_io.specs.Held.{FilesByName}
use Rattle.rela_locations.specs.Network.{Network, alphabet_of}
use Rattle.rela_snapshot.specs.Steps.{◌>>=◌}
use Rattle.rela_snapshot.specs.declared.pairing.FlowPair.{FlowPair}
use Rattle.rela_inputs.specs.Answer.{Answer}
use Rattle.rela_assert.specs.Asserted.{Asserted, ReadsClaims}
use Rattle.rela_inputs.specs.Inputs.{BytesOf, Gives, ReadsNetwork}
use Rattle.rela_inputs.specs.Paired.{GivesPairs}
use Rattle.rela_inputs.specs.declared.refusal.Input.TheVariants.{After, Assertions, Before, Locations}
use Rattle.rela_inputs.specs.declared.refusal.Refusal.{Refusal}

abbrev pub assertions_report : List (List ℕ) → List AssertionRow → Answer
assertions_report names rows = record {
  text = assertions_text names rows;
  status = status_of rows;
}

-- the report of the rows of the flows under the claims, under this state limit
unfoldable pub ReportsClaims : ℕ → Network → List FlowPair → Asserted → Result Answer Refusal → Type 0
ReportsClaims states network pairs asserted r =
    (rows : List AssertionRow)
    × AreRowsOf (alphabet_of asserted.level network) asserted.level states pairs asserted.claims rows
    × (r ≡ Ok (assertions_report (alphabet_of asserted.level network) rows))

-- what the other inputs give over the network
unfoldable pub ReportsOver : Option FilesByName → (before after assertions : List ℕ) → ℕ →
    Network → Result Answer Refusal → Type 0
ReportsOver holds before after assertions states network = do
  pairs ← GivesPairs network (BytesOf holds before Before) (BytesOf holds after After)
  asserted ← Gives (BytesOf holds assertions Assertions) (ReadsClaims network)
  ReportsClaims states network pairs asserted

unfoldable pub ReportsAssertions : Option FilesByName →
    (before after locations assertions : List ℕ) → ℕ → Result Answer Refusal → Type 0
ReportsAssertions holds before after locations assertions states = do
  network ← Gives (BytesOf holds locations Locations) ReadsNetwork
  ReportsOver holds before after assertions states network

-- two reports whose rows differ at most where one of them leaves something undecided
pub record SameAssertReports (x y : Answer) : Type 0 where
  pub names : List (List ℕ)
  pub rows : List AssertionRow
  pub others : List AssertionRow
  pub is_first : x ≡ assertions_report names rows
  pub is_second : y ≡ assertions_report names others
  pub agree : AgreeInRows rows others
