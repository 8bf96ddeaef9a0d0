-- The routes of a table, or the first fault among them.
use Rattle.std.specs.Prelude.{◌≡◌, ℕ, ◌+◌, List, [], ◌∷◌, ◌++◌, Result, Ok, Err}
use Rattle.serde_json.specs.Data.{Data}
use Rattle.rela_json.specs.declared.error.LoadError.{LoadError}
use Rattle.rela_json.specs.declared.error.LoadError.TheVariants.{BadPrefix}
use Rattle.rela_flows.specs.Notation.{IsTextOf}
use Rattle.rela_flows.specs.declared.prefix.Ipv4Prefix.{Ipv4Prefix}
use Rattle.rela_flows.specs.declared.prefix.Prefix.TheVariants.{V4}
use Rattle.rela_locations.specs.Network.{Network}
use Rattle.rela_snapshot.specs.Steps.{Is, ◌>>=◌}
use Rattle.rela_tables.specs.Distinct.{keys_of}
use Rattle.rela_tables.specs.RouteParts.{prefix_text_of, route_of}
use Rattle.rela_tables.specs.declared.route.Route.{Route}

-- the IPv4 prefix that a text writes, or the refusal where it writes none
unfoldable pub IsPrefix : ℕ → List ℕ → Result Ipv4Prefix LoadError → Type 0
IsPrefix row text (Ok p) = IsTextOf text (V4 p)
IsPrefix row text (Err e) = (e ≡ BadPrefix row) × ((p : Ipv4Prefix) → ¬ IsTextOf text (V4 p))

-- the prefix of a route
unfoldable pub IsPrefixOf : ℕ → Data → Result Ipv4Prefix LoadError → Type 0
IsPrefixOf row d = do
  text ← Is (prefix_text_of row d)
  IsPrefix row text

-- the route after those of the table with these prefixes
unfoldable pub IsRoute : Network → List (ℕ × ℕ) → ℕ → Data → Result Route LoadError → Type 0
IsRoute network earlier row d = do
  prefix ← IsPrefixOf row d
  Is (route_of network earlier row prefix d)

-- the earlier routes of the table, and then those of these entries
unfoldable pub AreRoutes : Network → ℕ → List Route → List Data →
    Result (List Route) LoadError → Type 0
AreRoutes network row earlier [] = Is (Ok earlier)
AreRoutes network row earlier (d ∷ ds) = do
  route ← IsRoute network (keys_of earlier) row d
  AreRoutes network (row + 1) (earlier ++ route ∷ []) ds
