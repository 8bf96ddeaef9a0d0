use Rattle.std.proofs.Common.{◌≡◌, ◌++◌, drop}
use Rattle.rela_report.specs.Blamed.{blamed_lines}
use Rattle.rela_report.proofs.texts.blamed_texts.Given as goal

-- what is written, and then the lines of the rows that are left with the zones that are left
abbrev pub invariant-loop-row : goal.invariant-loop-row
invariant-loop-row l =
    l.text.items ++ blamed_lines l.alphabet (drop l.row-index l.rows) l.left
    ≡ blamed_lines l.alphabet l.rows l.zones
