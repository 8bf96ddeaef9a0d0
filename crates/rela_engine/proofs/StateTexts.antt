-- The text of a state, line by line.
use Rattle.std.proofs.Common.{◌≡◌, ◌∙◌, ℕ, ◌+◌, ◌<◌, ◌++◌, Bool, List, [], ◌∷◌, length, get_or, map, take, sym, ap, subst, append_assoc, arith}
use Rattle.std.specs.List.{All, flat_map}
use Rattle.std.specs.Fmt.{decimal}
use Rattle.std.specs.Prelude.{codes}
use Rattle.std.proofs.lemmas.List.{flat_map_more, get_or-map, take_more}
use Rattle.rela_names.specs.Alphabet.{path_symbols}
use Rattle.rela_names.specs.Symbol.{word_text}
use Rattle.rela_report.specs.Text.{line}
use Rattle.rela_engine.specs.AutomatonText.{else_of, number_line, state_line, state_lines, symbols_to, targets_besides, to_line}
use Rattle.rela_engine.proofs.SymbolLists.{as_many, symbols_in}

module _ (names : List (List ℕ)) (row : List ℕ) where
  -- the line of one more target
  pub line_more : (targets : List ℕ) (i to : ℕ) (start old new piece : List ℕ) → i < length targets → to ≡ get_or targets i 0 → new ≡ old ++ piece
      → piece ≡ to_line names row to → old ≡ start ++ flat_map (to_line names row) (take i targets)
      → new ≡ start ++ flat_map (to_line names row) (take (i + 1) targets)
  line_more targets i to start old new piece inside to_is new_is piece_is old_is =
      new_is
      ∙ ap (λ (l : List ℕ). old ++ l) piece_is
      ∙ ap (λ (l : List ℕ). l ++ to_line names row to) old_is
      ∙ flat_map_more (to_line names row) start (take i targets) to
      ∙ ap (λ (t : ℕ). start ++ flat_map (to_line names row) (take i targets ++ t ∷ [])) to_is
      ∙ ap (λ (ts : List ℕ). start ++ flat_map (to_line names row) ts) (sym (take_more targets i 0 inside))

  -- the symbols that lead to a target
  pub symbols_of : (targets : List ℕ) (lists : List (List ℕ)) (i to : ℕ) → lists ≡ map (symbols_to row) targets → i < length targets → to ≡ get_or targets i 0
      → get_or lists i [] ≡ symbols_to row to
  symbols_of targets lists i to lists_are inside to_is =
      ap (λ (ls : List (List ℕ)). get_or ls i []) lists_are
      ∙ get_or-map (symbols_to row) targets i 0 [] inside
      ∙ ap (symbols_to row) (sym to_is)

  -- the list at a place is that of the target there
  pub read_list : {V : Type 0} (items : V → List ℕ) (targets : List ℕ) (lists : List V) (i : ℕ) (v : V) → map items lists ≡ map (symbols_to row) targets
      → i < length targets → v ≡ get_or lists i v → (to : ℕ) → to ≡ get_or targets i 0 → items v ≡ symbols_to row to
  read_list items targets lists i v lists_are inside v_is to to_is =
      let within : i < length lists = omega (arith, inside, as_many items lists (symbols_to row) targets lists_are) in
      ap items v_is ∙ sym (get_or-map items lists i v [] within) ∙ symbols_of targets (map items lists) i to lists_are inside to_is

  pub piece_is : (to : ℕ) (symbols : List ℕ) → symbols ≡ symbols_to row to
      → codes "  to " ++ (decimal to ++ (codes " : " ++ line (word_text names symbols))) ≡ to_line names row to
  piece_is to symbols are = ap (λ (s : List ℕ). codes "  to " ++ (decimal to ++ (codes " : " ++ line (word_text names s)))) are

  pub symbols_have_texts : (symbols : List ℕ) (to : ℕ) → length row ≡ path_symbols names → symbols ≡ symbols_to row to → All (λ s. s < path_symbols names) symbols
  symbols_have_texts symbols to long are =
      subst (λ (n : ℕ). All (λ s. s < n) symbols) long (subst (All (λ s. s < length row)) (sym are) (symbols_in row to))

  -- all lines of a state
  pub state_written : (q : ℕ) (accepts : Bool) (other : ℕ) (targets old first lines new : List ℕ) → other ≡ else_of names row
      → first ≡ old ++ state_line q accepts → lines ≡ first ++ flat_map (to_line names row) targets → new ≡ lines ++ number_line (codes "  else to ") other
      → (states : ℕ) → targets ≡ targets_besides states row other → new ≡ old ++ state_lines names states q accepts row
  state_written q accepts other targets old first lines new other_is first_is lines_are new_is states targets_are =
      let head = state_line q accepts in
      let middle = flat_map (to_line names row) targets in
      let last = number_line (codes "  else to ") other in
      new_is
      ∙ ap (λ (l : List ℕ). l ++ last) (lines_are ∙ ap (λ (l : List ℕ). l ++ middle) first_is)
      ∙ append_assoc (old ++ head) middle last
      ∙ append_assoc old head (middle ++ last)
      ∙ ap (λ (ts : List ℕ). old ++ (head ++ (flat_map (to_line names row) ts ++ last))) targets_are
      ∙ ap (λ (o : ℕ). old ++ (head ++ (flat_map (to_line names row) (targets_besides states row o) ++ number_line (codes "  else to ") o))) other_is
