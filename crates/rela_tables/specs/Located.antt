-- Which tables speak of locations of a network.
use Rattle.std.specs.Prelude.{ℕ, ◌<◌, List, length, IfSome}
use Rattle.std.specs.List.{All}
use Rattle.rela_names.specs.declared.level.Level.TheVariants.{Interface, Device}
use Rattle.rela_locations.specs.Network.{Network, alphabet_of}
use Rattle.rela_tables.specs.Forwarding.{Forwarding}
use Rattle.rela_tables.specs.declared.route.Route.{Route}
use Rattle.rela_tables.specs.declared.table.Table.{Table}

abbrev pub AreInterfaces : Network → List ℕ → Type 0
AreInterfaces network symbols = All (λ symbol. symbol
    < length (alphabet_of Interface network)) symbols

abbrev pub IsRouteIn : Network → Route → Type 0
IsRouteIn network route = IfSome route.hops (AreInterfaces network)

pub record IsTableIn (network : Network) (table : Table) : Type 0 where
  pub device : table.device < length (alphabet_of Device network)
  pub routes : All (IsRouteIn network) table.routes

-- each interface and each device is one of the network
pub record IsForwardingIn (network : Network) (f : Forwarding) : Type 0 where
  pub starts : AreInterfaces network f.starts
  pub tables : All (IsTableIn network) f.tables
