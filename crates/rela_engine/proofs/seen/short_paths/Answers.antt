use Rattle.rela_graph.specs.Paths.{Paths}
use Rattle.rela_engine.proofs.PathLetters.{recognises_alike}
use Rattle.rela_engine.proofs.seen.short_paths.Goals as goal

pub returns-clause-paths : goal.returns-clause-paths
returns-clause-paths g c =
    recognises_alike c.args.blocks.now (Paths c.args.graph.now c.args.level c.args.alphabet.now) c.in_ok-whole.whole c.in_ok-nfa.nfa
    c.in_ok-nfa.ensures.letters c.in_ok-nfa.ensures.language c.in_ok-whole.ensures.paths
