use Rattle.rela_graph.proofs.Outlines.{same_arrivals, same_undelivered}
use Rattle.rela_graph.proofs.graph.Graph.same_outline_same_arrivals.Goals as goal

pub returns-clause-arrives : goal.returns-clause-arrives
returns-clause-arrives c same n w = same_arrivals c.args.level c.args.self.now c.args.other.now same n w

pub returns-clause-undelivered : goal.returns-clause-undelivered
returns-clause-undelivered c same names w = same_undelivered c.args.level c.args.self.now c.args.other.now same names w
