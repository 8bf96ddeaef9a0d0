-- What is known of the check and the flow of a listed row.
use Rattle.std.specs.Prelude.{◌≡◌, List, length}
use Rattle.rela_certfile.specs.Listed.{HasShape}
use Rattle.rela_certfile.specs.declared.rows.ListedRow.{ListedRow}
use Rattle.rela_flows.specs.declared.planning.PlannedRow.{PlannedRow}
use Rattle.rela_cert.specs.Subject.{IsRowOf, Subject, shape_of}
use Rattle.rela_cert.specs.declared.row.Row.{Row}

-- they are those that are planned at its place, and it has the blocks that the check asks
pub record IsRowAt (s : Subject) (planned : List PlannedRow) (listed : ListedRow)
    (row : Row) : Type 0 where
  pub of : IsRowOf s planned listed.place row.pair.now row.check.now
  pub names : row.alphabet.now ≡ s.names
  pub shape : HasShape (shape_of (length s.names) row.check.now) listed
