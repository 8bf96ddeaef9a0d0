use Rattle.std.proofs.Common.{length, refl}
use Rattle.rela_engine.proofs.BlockPaths.{accepts_paths}
use Rattle.rela_engine.proofs.Placed.{placed}
use Rattle.rela_engine.proofs.flow_letters.paths_of_graph.Goals as goal

pub paths-requires-clause-placed : goal.paths-requires-clause-placed
paths-requires-clause-placed c =
    placed c.args.alphabet.now c.args.level c.args.level (length c.args.alphabet.now) c.args.graph.now refl refl c.requires.located

pub returns : goal.returns
returns c = accepts_paths c.args.alphabet.now c.args.graph.now c.args.level c.paths.result c.paths.ensures.language c.paths.ensures.letters
