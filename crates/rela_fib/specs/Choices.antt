-- What the devices choose for the addresses of a class.
use Rattle.std.specs.Prelude.{ℕ, Option}
use Rattle.rela_flows.specs.declared.prefix.Ipv4Prefix.{Ipv4Prefix}
use Rattle.rela_prefixes.specs.Holding.{Holds}
use Rattle.rela_tables.specs.Chosen.{Chosen}
use Rattle.rela_tables.specs.Forwarding.{Forwarding}
use Rattle.rela_tables.specs.declared.route.Route.{Route}

-- each device chooses the same for all addresses of the prefix
abbrev pub IsUniform : Forwarding → Ipv4Prefix → Type 0
IsUniform f c = (a b device : ℕ) (choice : Option Route) → Holds c a → Holds c b →
    Chosen f device a choice → Chosen f device b choice
