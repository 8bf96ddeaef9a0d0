-- All addresses of a class choose alike.
use Rattle.std.proofs.Common.{◌≡◌, ◌∙◌, ap, ℕ, ◌*◌, ◌^◌, ◌<◌, ◌≤◌, Bool, true, false, cond, List, [], ◌∷◌, ◌++◌, length, Option, Some, None, arith}
use Rattle.std.specs.Prelude.{find, ◌==◌}
use Rattle.std.specs.Option.{option_map_or}
use Rattle.std.specs.List.{All}
use Rattle.std.proofs.lemmas.List.{length-append, length-map}
use Rattle.std.proofs.lemmas.List.Elements.{All-nil, All-cons, All-head, All-tail, All-contains, All-weaker}
use Rattle.rela_flows.specs.declared.prefix.Ipv4Prefix.{Ipv4Prefix}
use Rattle.rela_prefixes.specs.Holding.{Holds, HoldsAllOrNone}
use Rattle.rela_tables.specs.Chosen.{ChosenOf}
use Rattle.rela_tables.specs.Distinct.{AreTables, IsTable}
use Rattle.rela_tables.specs.Forwarding.{Forwarding, routes_of}
use Rattle.rela_tables.specs.declared.route.Route.{Route}
use Rattle.rela_tables.specs.declared.table.Table.{Table}
use Rattle.rela_fib.specs.Choices.{IsUniform}
use Rattle.rela_fib.specs.Prefixes.{prefixes_in, prefixes_in_both, prefixes_of}

-- ---- how many prefixes there are

pub prefix_count : (tables : List Table) → All IsTable tables → length (prefixes_in tables) ≤ 10000 * length tables
prefix_count [] each = omega arith
prefix_count (t ∷ ts) each =
    let own : IsTable t = All-head IsTable t ts each in
    omega (arith, length-append (prefixes_of t.routes) (prefixes_in ts), length-map t.routes (λ (r : Route). r.prefix), own.few, prefix_count ts (All-tail IsTable t ts each))

-- ---- what holds of all prefixes holds of those of a device's routes

front_all : {X : Type 0} (P : X → Type 0) (xs ys : List X) → All P (xs ++ ys) → All P xs
front_all P [] ys each = All-nil P
front_all P (x ∷ xs) ys each = All-cons P x xs (All-head P x (xs ++ ys) each) (front_all P xs ys (All-tail P x (xs ++ ys) each))

back_all : {X : Type 0} (P : X → Type 0) (xs ys : List X) → All P (xs ++ ys) → All P ys
back_all P [] ys each = each
back_all P (x ∷ xs) ys each = back_all P xs ys (All-tail P x (xs ++ ys) each)

of_routes : (P : Ipv4Prefix → Type 0) (routes : List Route) → All P (prefixes_of routes) → All (λ r. P r.prefix) routes
of_routes P [] each = All-nil (λ (r : Route). P r.prefix)
of_routes P (r ∷ rs) each = All-cons (λ (r : Route). P r.prefix) r rs (All-head P r.prefix (prefixes_of rs) each) (of_routes P rs (All-tail P r.prefix (prefixes_of rs) each))

abbrev found_routes : Option Table → List Route
found_routes o = option_map_or (λ table. table.routes) o []

of_found : (P : Ipv4Prefix → Type 0) (device : ℕ) (tables : List Table) → All P (prefixes_in tables) → All (λ r. P r.prefix) (found_routes (find (λ table. device == table.device) tables))
of_found P device [] each = All-nil (λ (r : Route). P r.prefix)
of_found P device (t ∷ ts) each = by (device == t.device) (of_routes P t.routes (front_all P (prefixes_of t.routes) (prefixes_in ts) each)) (of_found P device ts (back_all P (prefixes_of t.routes) (prefixes_in ts) each))
  where
    by : (b : Bool) → All (λ r. P r.prefix) t.routes → All (λ r. P r.prefix) (found_routes (find (λ table. device == table.device) ts))
        → All (λ r. P r.prefix) (found_routes (cond b (Some t) (find (λ table. device == table.device) ts)))
    by true own others = own
    by false own others = others

-- ---- routes whose prefixes hold all addresses of a class or none

chosen_same : (routes : List Route) (c : Ipv4Prefix) (a b : ℕ) (choice : Option Route) → All (λ r. HoldsAllOrNone r.prefix c) routes → Holds c a → Holds c b → ChosenOf routes a choice → ChosenOf routes b choice
unfolding ChosenOf
chosen_same routes c a b None whole in_a in_b h = λ k d lt holds. h k d lt (whole k d lt b a in_b in_a holds)
chosen_same routes c a b (Some route) whole in_a in_b h = record {
  listed = h.listed;
  holds = All-contains (λ (r : Route). HoldsAllOrNone r.prefix c) routes route whole h.listed a b in_a in_b h.holds;
  longest = λ k d lt holds. h.longest k d lt (whole k d lt b a in_b in_a holds);
}

uniform_by : (f : Forwarding) (c : Ipv4Prefix) → All (λ p. HoldsAllOrNone p c) (prefixes_in f.tables) → IsUniform f c
uniform_by f c whole a b device choice in_a in_b h = chosen_same (routes_of f device) c a b choice (of_found (λ p. HoldsAllOrNone p c) device f.tables whole) in_a in_b h

abbrev AllWhole : Forwarding → Forwarding → Ipv4Prefix → Type 0
AllWhole f other c = All (λ p. HoldsAllOrNone p c) (prefixes_in_both f other)

pub uniform_first : (f other : Forwarding) (classes : List Ipv4Prefix) → All (AllWhole f other) classes → All (IsUniform f) classes
uniform_first f other classes whole = All-weaker (AllWhole f other) (IsUniform f) (λ c each. uniform_by f c (front_all (λ p. HoldsAllOrNone p c) (prefixes_in f.tables) (prefixes_in other.tables) each)) classes whole

pub uniform_second : (f other : Forwarding) (classes : List Ipv4Prefix) → All (AllWhole f other) classes → All (IsUniform other) classes
uniform_second f other classes whole = All-weaker (AllWhole f other) (IsUniform other) (λ c each. uniform_by other c (back_all (λ p. HoldsAllOrNone p c) (prefixes_in f.tables) (prefixes_in other.tables) each)) classes whole

-- ---- the prefixes of two files

pub gathered : (f other : Forwarding) (start one two given : List Ipv4Prefix) (ts us : List Table) → start ≡ [] → one ≡ start ++ prefixes_in ts → two ≡ one ++ prefixes_in us → given ≡ two → ts ≡ f.tables → us ≡ other.tables → given ≡ prefixes_in_both f other
gathered f other start one two given ts us none first second is of_f of_other =
    is ∙ second ∙ ap (λ (ps : List Ipv4Prefix). ps ++ prefixes_in us) (first ∙ ap (λ (ps : List Ipv4Prefix). ps ++ prefixes_in ts) none)
    ∙ ap (λ (xs : List Table). prefixes_in xs ++ prefixes_in us) of_f ∙ ap (λ (xs : List Table). prefixes_in f.tables ++ prefixes_in xs) of_other

pub gathered_count : (f other : Forwarding) (given : List Ipv4Prefix) → given ≡ prefixes_in_both f other → AreTables f.tables → AreTables other.tables → length given < 2 ^ 32
gathered_count f other given is one two =
    omega (arith, ap length is, length-append (prefixes_in f.tables) (prefixes_in other.tables), prefix_count f.tables one.each, prefix_count other.tables two.each, one.few, two.few)
