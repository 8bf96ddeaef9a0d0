-- The text of a report. `names` are the location names of the alphabet.
use Rattle.std.specs.Prelude.{ℕ, ◌+◌, ◌<◌, List, [], ◌∷◌, ◌++◌, length, codes, count_by, All, ⊤}
use Rattle.std.specs.Fmt.{decimal}
use Rattle.std.specs.List.{flat_map}
use Rattle.rela_names.specs.Alphabet.{path_symbols}
use Rattle.rela_names.specs.Symbol.{word_text}
use Rattle.rela_report.specs.declared.rows.Side.{Side}
use Rattle.rela_report.specs.declared.rows.Side.TheVariants.{Before, After}
use Rattle.rela_report.specs.declared.rows.Row.{Row}
use Rattle.rela_report.specs.declared.rows.Row.TheVariants.{Compliant, Violated, Undecided}
use Rattle.rela_report.specs.declared.rows.ReportRow.{ReportRow}
use Rattle.rela_report.specs.declared.rows.ReportRow.TheVariants.{Unselected, Selected}
use Rattle.rela_report.specs.Status.{is_compliant, is_violated, is_undecided, is_unselected}

-- a line, with its line feed
abbrev pub line : List ℕ → List ℕ
line text = text ++ 10 ∷ []

abbrev pub word_label : Side → List ℕ
word_label Before = codes "  missing: "
word_label After = codes "  extra: "

abbrev pub source_label : Side → List ℕ
source_label Before = codes "  before: "
source_label After = codes "  after: "

-- the verdict, which ends the row's first line, and the lines below it
abbrev pub verdict_lines : List (List ℕ) → Row → List ℕ
verdict_lines names Compliant = line (codes " compliant")
verdict_lines names Undecided = line (codes " undecided")
verdict_lines names (Violated word side source) =
    line (codes " violated")
    ++ line (word_label side ++ word_text names word)
    ++ line (source_label side ++ word_text names source)

abbrev pub row_lines : List (List ℕ) → ReportRow → List ℕ
row_lines names (Unselected flow) = codes "flow " ++ (flow ++ line (codes " unselected"))
row_lines names (Selected flow check row) =
    codes "flow " ++ (flow ++ (codes " check " ++ (check ++ verdict_lines names row)))

-- a label and a count
unfoldable pub count_text : List ℕ → ℕ → List ℕ
count_text label n = label ++ decimal n

-- how many rows there are, and how many of each kind
abbrev pub total_text : ℕ → ℕ → ℕ → ℕ → ℕ → List ℕ
total_text rows compliant violated undecided unselected =
    count_text (codes "total ") rows ++ (count_text (codes " compliant ") compliant
    ++ (count_text (codes " violated ") violated
    ++ (count_text (codes " undecided ") undecided
    ++ line (count_text (codes " unselected ") unselected))))

abbrev pub total_line : List ReportRow → List ℕ
total_line rows =
    total_text (length rows) (count_by is_compliant rows) (count_by is_violated rows)
    (count_by is_undecided rows) (count_by is_unselected rows)

-- each row, and then the total line
abbrev pub report_text : List (List ℕ) → List ReportRow → List ℕ
report_text names rows = flat_map (row_lines names) rows ++ total_line rows

-- each symbol of the word has a text: there are at most 20,000 markers
abbrev pub HasTexts : List (List ℕ) → List ℕ → Type 0
HasTexts names word = All (λ s. s < path_symbols names + 20000) word

-- each word that the verdict prints has a text
abbrev pub VerdictHasTexts : List (List ℕ) → Row → Type 0
VerdictHasTexts names Compliant = ⊤
VerdictHasTexts names Undecided = ⊤
VerdictHasTexts names (Violated word side source) = HasTexts names word × HasTexts names source

abbrev pub RowHasTexts : List (List ℕ) → ReportRow → Type 0
RowHasTexts names (Unselected flow) = ⊤
RowHasTexts names (Selected flow check row) = VerdictHasTexts names row
