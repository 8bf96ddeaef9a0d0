-- The nodes of tables that speak of a network's interfaces are such interfaces.
use Rattle.std.proofs.Common.{ℕ, ◌<◌, List, [], ◌∷◌, length, get_or, Option, Some, None}
use Rattle.std.specs.Prelude.{IfSome, unwrap_or}
use Rattle.std.specs.List.{All, flat_map}
use Rattle.std.proofs.lemmas.List.Elements.{All-nil, All-append, All-head, All-tail, All-contains, Contains-get_or}
use Rattle.rela_locations.specs.Network.{Network}
use Rattle.rela_tables.specs.Forwarding.{Forwarding}
use Rattle.rela_tables.specs.Located.{AreInterfaces, IsForwardingIn, IsRouteIn, IsTableIn}
use Rattle.rela_tables.specs.declared.table.Table.{Table}
use Rattle.rela_names.specs.declared.level.Level.TheVariants.{Interface}
use Rattle.rela_locations.specs.Network.{alphabet_of}
use Rattle.rela_fib.specs.Graph.{AreNodes, hops_in, hops_of, interfaces_of}

abbrev IsInterface : Network → ℕ → Type 0
IsInterface network s = s < length (alphabet_of Interface network)

all_flat : {A B : Type 0} (P : A → Type 0) (Q : B → Type 0) (f : A → List B) → ((x : A) → P x → All Q (f x)) → (xs : List A) → All P xs → All Q (flat_map f xs)
all_flat P Q f each [] h = All-nil Q
all_flat P Q f each (x ∷ xs) h = All-append Q (f x) (flat_map f xs) (each x (All-head P x xs h)) (all_flat P Q f each xs (All-tail P x xs h))

hops_located : (network : Network) (hops : Option (List ℕ)) → IfSome hops (AreInterfaces network) → AreInterfaces network (unwrap_or hops [])
hops_located network None h = All-nil (IsInterface network)
hops_located network (Some hops) h = h

table_located : (network : Network) (table : Table) → IsTableIn network table → AreInterfaces network (hops_in table)
table_located network table is = all_flat (IsRouteIn network) (IsInterface network) hops_of (λ route h. hops_located network route.hops h) table.routes is.routes

pub nodes_located : (network : Network) (f : Forwarding) (nodes : List ℕ) → IsForwardingIn network f → AreNodes f nodes → AreInterfaces network nodes
nodes_located network f nodes is are = λ k d lt.
    All-contains (IsInterface network) (interfaces_of f) (get_or nodes k d)
    (All-append (IsInterface network) f.starts (flat_map hops_in f.tables) is.starts (all_flat (IsTableIn network) (IsInterface network) hops_in (table_located network) f.tables is.tables))
    ((are.each (get_or nodes k d)).0 (Contains-get_or nodes k d lt))
