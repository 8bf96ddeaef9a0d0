use Rattle.rela_same_flows.proofs.PathLaws.{arrives, graph_flipped, paths, undelivered}
use Rattle.rela_same_flows.proofs.laws.same_graphs_same_paths.Goals as goal

pub returns : goal.returns
returns c = record {
  paths = λ g h same level names w. (paths g h same level names w, paths h g (graph_flipped g h same) level names w);
  undelivered = λ g h same level names w. (undelivered g h same level names w, undelivered h g (graph_flipped g h same) level names w);
  arrivals = λ g h same level n w. (arrives g h same level n w, arrives h g (graph_flipped g h same) level n w);
}
