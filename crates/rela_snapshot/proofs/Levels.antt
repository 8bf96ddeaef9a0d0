-- Nodes that stand at locations of a network stand at locations of each level.
use Rattle.std.proofs.Common.{List}
use Rattle.rela_names.specs.declared.level.Level.{Level}
use Rattle.rela_names.specs.declared.level.Level.TheVariants.{Interface, Device, Group}
use Rattle.rela_locations.specs.Network.{Network, alphabet_of}
use Rattle.rela_graph.specs.declared.node.Node.{Node}
use Rattle.rela_snapshot.specs.Located.{StandsAt, AreLocated, StandsIn, AreLocatedIn}
use Rattle.rela_snapshot.specs.declared.snapshot.Flow.{Flow}

stands_at : (network : Network) (level : Level) (node : Node) → StandsIn network node → StandsAt (alphabet_of level network) level node
unfolding StandsAt
stands_at network Interface node stands = stands.interface
stands_at network Device node stands = stands.device
stands_at network Group node stands = stands.group

pub located_at : (network : Network) (flows : List Flow) (level : Level) → AreLocatedIn network flows → AreLocated (alphabet_of level network) level flows
located_at network flows level each = λ k flow within i node inside. stands_at network level _ (each k flow within i node inside)
