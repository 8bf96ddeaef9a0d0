use Rattle.std.proofs.Common.{length}
use Rattle.rela_graph.specs.Paths.{Paths}
use Rattle.rela_names.specs.Alphabet.{path_symbols}
use Rattle.rela_blocks.specs.Scenes.{arrivals_of}
use Rattle.rela_engine.proofs.LeastWords.{paths_least}
use Rattle.rela_engine.proofs.PathLetters.{recognises, path_states, arrival_symbols, end_symbols}
use Rattle.rela_engine.proofs.seen.plain_paths.Goals as goal

pub returns-clause-paths : goal.returns-clause-paths
returns-clause-paths g c =
    recognises c.args.blocks.now (path_symbols c.args.alphabet.now) (Paths c.args.graph.now c.args.level c.args.alphabet.now) c.in_ok-nfa.nfa c.start.ensures.automaton
    c.in_ok-nfa.ensures.letters c.requires.symbols c.in_ok-nfa.ensures.language c.in_ok-nfa.ensures.of_path_symbols

pub returns-clause-least : goal.returns-clause-least
returns-clause-least g c =
    paths_least c.args.blocks.now c.args.graph.now c.args.level c.args.alphabet.now c.nodes.ensures.topology c.requires.symbols
    c.requires.placed c.requires.alone c.requires.drops c.requires.loops

pub returns-clause-places : goal.returns-clause-places
returns-clause-places g c =
    path_states c.args.blocks.now (length c.args.graph.now.nodes) (arrivals_of c.args.level c.args.alphabet.now c.args.graph.now) c.in_ok-nfa.nfa
    c.start.ensures.automaton c.in_ok-nfa.ensures.letters c.in_ok-nfa.ensures.states
    (arrival_symbols c.args.blocks.now c.args.graph.now c.nodes.ensures.topology c.args.level c.args.alphabet.now c.requires.symbols c.requires.placed)
    (end_symbols c.args.blocks.now c.args.graph.now c.nodes.ensures.topology c.args.level c.args.alphabet.now c.requires.symbols c.requires.placed)
    c.in_ok-nfa.ensures.begin c.in_ok-nfa.ensures.nodes c.in_ok-nfa.ensures.end
