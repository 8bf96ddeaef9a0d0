use Rattle.std.proofs.Common.{◌≡◌, ◌++◌}
use Rattle.std.specs.List.{flat_map, range_with_len}
use Rattle.std.specs.Prelude.{codes}
use Rattle.rela_names.specs.Alphabet.{path_symbols}
use Rattle.rela_subset.specs.Deterministic.{states}
use Rattle.rela_engine.specs.AutomatonText.{lines_of, number_line}
use Rattle.rela_engine.specs.Spelled.{spelled}
use Rattle.rela_engine.proofs.automaton_lines.automaton_text.Given as goal

abbrev pub invariant-loop-q : goal.invariant-loop-q
invariant-loop-q l =
    l.text.items ≡ number_line (codes "states ") (states l.dfa)
    ++ flat_map (lines_of l.alphabet (spelled l.blocks (path_symbols l.alphabet) l.dfa)) (range_with_len 0 l.q)
