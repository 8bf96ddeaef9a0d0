use Rattle.rela_blocks.proofs.BuiltPaths.{built}
use Rattle.rela_blocks.proofs.flow_paths.paths_of_graph.Goals as goal

pub returns : goal.returns
returns c =
    built c.path_states_are_placed.ensures c.args.blocks.now c.args.graph.now c.nodes.ensures.topology c.args.level c.args.alphabet.now c.in_ok-nfa.nfa c.requires c.start.ensures.automaton
    c.in_ok-nfa.ensures.letters c.in_ok-nfa.ensures.states c.in_ok-nfa.ensures.begin c.in_ok-nfa.ensures.nodes c.in_ok-nfa.ensures.end
    c.in_ok-nfa.ensures.language c.in_ok-nfa.ensures.of_path_symbols
