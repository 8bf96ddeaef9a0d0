-- The text of a report that tells of each violated row which alternative of its check claimed the
-- source.
use Rattle.std.specs.Prelude.{ℕ, List, [], ◌∷◌, ◌++◌, codes, if◌then◌else◌}
use Rattle.rela_report.specs.declared.rows.ReportRow.{ReportRow}
use Rattle.rela_report.specs.declared.zones.Zone.{Zone}
use Rattle.rela_report.specs.Status.{is_violated}
use Rattle.rela_report.specs.Text.{count_text, line, row_lines, total_line}

-- the number of an alternative, and where it stands
abbrev pub zone_line : Zone → List ℕ
zone_line zone = count_text (codes "  zone: ") zone.number
    ++ line (count_text (codes " at ") zone.at)

-- the lines of each row, and below a violated one the line of its zone; the zones stand in the
-- order of the violated rows
abbrev pub blamed_lines : List (List ℕ) → List ReportRow → List Zone → List ℕ
blamed_lines names [] zones = []
blamed_lines names (row ∷ rows) [] = row_lines names row ++ blamed_lines names rows []
blamed_lines names (row ∷ rows) (zone ∷ zones) = row_lines names row
    ++ (if is_violated row then zone_line zone ++ blamed_lines names rows zones
    else blamed_lines names rows (zone ∷ zones))

-- each row with the line of its zone, and then the total line
abbrev pub blamed_text : List (List ℕ) → List ReportRow → List Zone → List ℕ
blamed_text names rows zones = blamed_lines names rows zones ++ total_line rows
