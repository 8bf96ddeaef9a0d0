use Rattle.rela_graph.proofs.Outlines.{same_paths}
use Rattle.rela_graph.proofs.graph.Graph.same_outline_same_paths.Goals as goal

pub returns : goal.returns
returns c same names w = same_paths c.args.level c.args.self.now c.args.other.now same names w
