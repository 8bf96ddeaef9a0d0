-- The text of a run over assertions, and its exit status. `names` are the location names of the alphabet.
use Rattle.std.specs.Prelude.{ℕ, ◌+◌, ◌<◌, Bool, true, false, List, [], ◌∷◌, ◌++◌, length, codes, count_by, All, ⊤, if◌then◌else◌}
use Rattle.std.specs.List.{flat_map, list_any}
use Rattle.rela_compare.specs.declared.verdict.Which.{Which}
use Rattle.rela_compare.specs.declared.verdict.Which.TheVariants.{First, Second}
use Rattle.rela_engine.specs.declared.leaf.Leaf.{Leaf}
use Rattle.rela_engine.specs.declared.leaf.Leaf.TheVariants as leaf
use Rattle.rela_names.specs.Alphabet.{path_symbols}
use Rattle.rela_names.specs.Symbol.{word_text}
use Rattle.rela_report.specs.Text.{count_text, line}
use Rattle.rela_rir.specs.declared.value.Value.{Value}
use Rattle.rela_rir.specs.declared.value.Value.TheVariants.{Holds, Fails, Undecided}
use Rattle.rela_assertions.specs.declared.row.AssertionRow.{AssertionRow}

abbrev pub value_text : Value → List ℕ
value_text Holds = codes "holds"
value_text Fails = codes "fails"
value_text Undecided = codes "undecided"

-- the term that has the word
abbrev pub side_label : Which → List ℕ
side_label First = codes ": first: "
side_label Second = codes ": second: "

-- the line of the leaf of this number, where it doesn't hold
abbrev pub leaf_line : List (List ℕ) → ℕ → Leaf → List ℕ
leaf_line names k leaf.Holds = []
leaf_line names k (leaf.Fails word side) =
    count_text (codes "  leaf ") k ++ line (side_label side ++ word_text names word)
leaf_line names k leaf.Undecided = count_text (codes "  leaf ") k ++ line (codes ": undecided")

-- the lines of leaves that are numbered from k on
abbrev pub leaf_lines : List (List ℕ) → ℕ → List Leaf → List ℕ
leaf_lines names k [] = []
leaf_lines names k (leaf ∷ leaves) = leaf_line names k leaf ++ leaf_lines names (k + 1) leaves

-- the names of the flow and the assertion, and what is known of it
abbrev pub head_line : AssertionRow → List ℕ
head_line row = codes "flow " ++ (row.flow ++ (codes " assert " ++ (row.assertion
    ++ (codes " " ++ line (value_text row.value)))))

-- and below that its leaves
abbrev pub row_lines : List (List ℕ) → AssertionRow → List ℕ
row_lines names row = head_line row ++ leaf_lines names 1 row.leaves.items

abbrev pub is_held : Value → Bool
is_held Holds = true
is_held _ = false

abbrev pub is_failed : Value → Bool
is_failed Fails = true
is_failed _ = false

abbrev pub is_left_open : Value → Bool
is_left_open Undecided = true
is_left_open _ = false

abbrev pub is_holding : AssertionRow → Bool
is_holding row = is_held row.value

abbrev pub is_failing : AssertionRow → Bool
is_failing row = is_failed row.value

abbrev pub is_open : AssertionRow → Bool
is_open row = is_left_open row.value

-- how many rows there are, and how many of each value
abbrev pub total_text : ℕ → ℕ → ℕ → ℕ → List ℕ
total_text rows holding failing undecided =
    count_text (codes "total ") rows ++ (count_text (codes " holds ") holding
    ++ (count_text (codes " fails ") failing
    ++ line (count_text (codes " undecided ") undecided)))

abbrev pub total_line : List AssertionRow → List ℕ
total_line rows =
    total_text (length rows) (count_by is_holding rows) (count_by is_failing rows)
    (count_by is_open rows)

-- each row, and then the total line
abbrev pub assertions_text : List (List ℕ) → List AssertionRow → List ℕ
assertions_text names rows = flat_map (row_lines names) rows ++ total_line rows

-- 1 where a row fails, else 3 where one is left open, else 0
abbrev pub status_of : List AssertionRow → ℕ
status_of rows = if list_any is_failing rows then 1 else if list_any is_open rows then 3 else 0

-- each symbol of the word that a leaf shows has a text
abbrev pub LeafHasText : List (List ℕ) → Leaf → Type 0
LeafHasText names leaf.Holds = ⊤
LeafHasText names (leaf.Fails word side) = All (λ s. s < path_symbols names) word
LeafHasText names leaf.Undecided = ⊤

abbrev pub RowHasTexts : List (List ℕ) → AssertionRow → Type 0
RowHasTexts names row = All (LeafHasText names) row.leaves.items
