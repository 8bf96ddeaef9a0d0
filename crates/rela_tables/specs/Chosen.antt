-- The route that a device uses for an address: the one whose prefix holds the address and is the longest such.
use Rattle.std.specs.Prelude.{ℕ, ◌≤◌, List, Option, Some, None}
use Rattle.std.specs.List.{All, Contains}
use Rattle.rela_prefixes.specs.Holding.{Holds}
use Rattle.rela_tables.specs.Forwarding.{Forwarding, routes_of}
use Rattle.rela_tables.specs.declared.route.Route.{Route}

-- the route is one of these, its prefix holds the address, and no longer one does
pub record IsChosen (routes : List Route) (a : ℕ) (route : Route) : Type 0 where
  pub listed : Contains routes route
  pub holds : Holds route.prefix a
  pub longest : All (λ other. Holds other.prefix a → other.prefix.length
      ≤ route.prefix.length) routes

-- the route that is chosen among these, or none where no prefix holds the address
unfoldable pub ChosenOf : List Route → ℕ → Option Route → Type 0
ChosenOf routes a None = All (λ route. ¬ Holds route.prefix a) routes
ChosenOf routes a (Some route) = IsChosen routes a route

-- the route that a device chooses for an address
abbrev pub Chosen : Forwarding → ℕ → ℕ → Option Route → Type 0
Chosen f device a = ChosenOf (routes_of f device) a
