-- The text of an automaton over symbols. `names` are the location names of the alphabet.
use Rattle.std.specs.Prelude.{ℕ, ◌+◌, ◌==◌, ◌&&◌, not, Bool, false, if◌then◌else◌, List, [], ◌++◌, codes, length, filter, slice_index, slice_index_or}
use Rattle.std.specs.Fmt.{decimal}
use Rattle.std.specs.List.{flat_map, list_any, range_with_len}
use Rattle.rela_names.specs.Symbol.{word_text}
use Rattle.rela_report.specs.Text.{line}
use Rattle.rela_engine.specs.SymbolAutomata.{SymbolAutomaton, row_of, size}

-- a line of a label and a number
abbrev pub number_line : List ℕ → ℕ → List ℕ
number_line label n = label ++ line (decimal n)

-- of the first n symbols of a row those that lead to the state, in order
abbrev pub symbols_below : List ℕ → ℕ → ℕ → List ℕ
symbols_below row n to = filter (λ s. slice_index row s == to) (range_with_len 0 n)

-- the symbols that lead to the state, in order
abbrev pub symbols_to : List ℕ → ℕ → List ℕ
symbols_to row to = symbols_below row (length row) to

-- some symbol leads to the state, which is not the other one
abbrev pub is_besides : List ℕ → ℕ → ℕ → Bool
is_besides row other to = not (to == other) && list_any (λ t. t == to) row

-- the states, below a number, to which symbols lead, without the other one
abbrev pub targets_besides : ℕ → List ℕ → ℕ → List ℕ
targets_besides states row other = filter (is_besides row other) (range_with_len 0 states)

-- the line of the symbols that lead to the state
abbrev pub to_line : List (List ℕ) → List ℕ → ℕ → List ℕ
to_line names row to =
    codes "  to " ++ (decimal to ++ (codes " : " ++ line (word_text names (symbols_to row to))))

-- the first line of a state
abbrev pub state_line : ℕ → Bool → List ℕ
state_line q accepts =
    codes "state " ++ (decimal q ++ line (if accepts then codes " accept" else []))

-- the state to which `loop` leads
abbrev pub else_of : List (List ℕ) → List ℕ → ℕ
else_of names row = slice_index row (length names + 1)

-- the lines of a state of so many: for each state to which symbols lead, but the one to which `loop` does, the
-- symbols that lead to it; then that one
abbrev pub state_lines : List (List ℕ) → ℕ → ℕ → Bool → List ℕ → List ℕ
state_lines names states q accepts row =
    state_line q accepts
    ++ (flat_map (to_line names row) (targets_besides states row (else_of names row))
    ++ number_line (codes "  else to ") (else_of names row))

-- the lines of state q of the automaton
abbrev pub lines_of : List (List ℕ) → SymbolAutomaton → ℕ → List ℕ
lines_of names a q = state_lines names (size a) q (slice_index_or a.accepts q false) (row_of a q)

-- how many states there are, and then the lines of each
abbrev pub automaton_text : List (List ℕ) → SymbolAutomaton → List ℕ
automaton_text names a =
    number_line (codes "states ") (size a)
    ++ flat_map (lines_of names a) (range_with_len 0 (size a))
