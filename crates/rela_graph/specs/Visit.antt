-- The steps of a search by depth.
use Rattle.std.specs.Prelude.{ℕ, ◌+◌, ◌-◌, ◌*◌, List, length}
use Rattle.rela_graph.specs.NodeSet.{Members}
use Rattle.rela_graph.specs.Topology.{Topology}
use Rattle.rela_graph.specs.declared.leaving.Visit.{Visit}
use Rattle.rela_graph.specs.declared.leaving.Visit.TheVariants.{Enter, Leave}

-- the node that the step is about
abbrev pub node_of : Visit → ℕ
node_of (Enter n) = n
node_of (Leave n) = n

-- a bound on the steps that are left: what is to be done, and for each node that was not entered one
-- step for each edge and one to leave it, with one to spare
abbrev pub work_left : Topology → Members → List Visit → ℕ
work_left g entered visits = (entered.count - length entered.nodes) * (length g.edges
    + 2) + length visits
