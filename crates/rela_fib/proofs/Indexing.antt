-- The devices and the prefixes of the tables, by the places of the tables.
use Rattle.std.proofs.Common.{◌≡◌, ◌∙◌, refl, sym, ap, subst, ℕ, zero, suc, ◌+◌, ◌<◌, ◌≤◌, Bool, true, false, not, cond, ltb, List, [], ◌∷◌, ◌++◌, length, get_or, take, drop, Option, Some, None, arith}
use Rattle.std.specs.Prelude.{find, ◌==◌, nat_eq, slice_get, position, option_map}
use Rattle.std.specs.Option.{option_map_or}
use Rattle.std.specs.List.{All, AllByRecursion, IsDistinct, list_any, position_or_len}
use Rattle.std.proofs.lemmas.Bool.{eq-eqb, eqb-true, ltb-true, ltb-false, false_from_ne_true}
use Rattle.std.proofs.lemmas.List.{length-map, map-append, drop_more, take_more, take-append-drop}
use Rattle.std.proofs.lemmas.List.Folds.{find_at}
use Rattle.std.proofs.lemmas.Option.{slice_get-map, slice_get_within, slice_get_past, slice_get_read, get_or_from_slice_get, same_Some}
use Rattle.std.proofs.lemmas.List.Elements.{All-nil, All-cons, All-head, All-tail}
use Rattle.rela_flows.specs.declared.prefix.Ipv4Prefix.{Ipv4Prefix}
use Rattle.rela_prefixes.specs.Holding.{Holds}
use Rattle.rela_prefixes.specs.Longest.{Longest, LongestWanted}
use Rattle.rela_tables.specs.Chosen.{ChosenOf}
use Rattle.rela_tables.specs.Distinct.{devices_of}
use Rattle.rela_tables.specs.Forwarding.{Forwarding, routes_of}
use Rattle.rela_tables.specs.declared.route.Route.{Route}
use Rattle.rela_tables.specs.declared.table.Table.{Table}
use Rattle.rela_fib.specs.Prefixes.{prefixes_of}

-- ---- from the longest prefix to the route

some_route : (routes : List Route) (k : ℕ) (p : Ipv4Prefix) → slice_get (prefixes_of routes) k ≡ Some p → (r : Route) × (slice_get routes k ≡ Some r) × (r.prefix ≡ p)
some_route [] k p e = absurd (cc)
some_route (r ∷ rs) zero p e = (r, refl, cc)
some_route (r ∷ rs) (suc k) p e = some_route rs k p e

of_prefixes : (P : Ipv4Prefix → Type 0) (routes : List Route) → All P (prefixes_of routes) → All (λ r. P r.prefix) routes
of_prefixes P [] each = All-nil (λ (r : Route). P r.prefix)
of_prefixes P (r ∷ rs) each = All-cons (λ (r : Route). P r.prefix) r rs (All-head P r.prefix (prefixes_of rs) each) (of_prefixes P rs (All-tail P r.prefix (prefixes_of rs) each))

pub none_chosen : (routes : List Route) (a : ℕ) (r : Option ℕ) → r ≡ None → Longest (prefixes_of routes) a r → ChosenOf routes a None
unfolding LongestWanted ChosenOf
none_chosen routes a r is h = let none : LongestWanted (λ p. Holds p a) (prefixes_of routes) None = subst (LongestWanted (λ p. Holds p a) (prefixes_of routes)) is h in of_prefixes (λ p. ¬ Holds p a) routes none

pub one_chosen : (routes : List Route) (a k : ℕ) (r : Option ℕ) (route : Route) → r ≡ Some k → slice_get routes k ≡ Some route → Longest (prefixes_of routes) a r → ChosenOf routes a (Some route)
unfolding LongestWanted ChosenOf
one_chosen routes a k r route is at h =
    let found : LongestWanted (λ p. Holds p a) (prefixes_of routes) (Some k) = subst (LongestWanted (λ p. Holds p a) (prefixes_of routes)) is h in
    let has : slice_get (prefixes_of routes) k ≡ Some route.prefix = slice_get-map (λ (r : Route). r.prefix) routes k ∙ ap (option_map (λ (r : Route). r.prefix)) at in
    let same : found.prefix ≡ route.prefix = same_Some found.prefix route.prefix (sym found.at ∙ has) in
    record {
      listed = (k, slice_get_within routes k route at, get_or_from_slice_get routes k route route at);
      holds = subst (λ p. Holds p a) same found.wanted;
      longest = subst (λ (p : Ipv4Prefix). All (λ (r : Route). Holds r.prefix a → r.prefix.length ≤ p.length) routes) same (of_prefixes (λ other. Holds other a → other.length ≤ found.prefix.length) routes found.longest);
    }

-- ---- from the place of a device to its routes

abbrev found_routes : Option Table → List Route
found_routes o = option_map_or (λ table. table.routes) o []

same_place : (tables : List Table) (device : ℕ) → position_or_len (nat_eq device) (devices_of tables) ≡ position_or_len (λ (t : Table). device == t.device) tables
same_place [] device = refl
same_place (t ∷ ts) device = ap (λ n. cond (not (device == t.device)) (1 + n) 0) (same_place ts device)

table_at : (tables : List Table) (device : ℕ) → find (λ (t : Table). device == t.device) tables ≡ slice_get tables (position_or_len (nat_eq device) (devices_of tables))
table_at tables device = find_at (λ (t : Table). device == t.device) tables ∙ ap (slice_get tables) (sym (same_place tables device))

place_by : (n len place : ℕ) (b : Bool) → cond b (Some n) None ≡ Some place → n ≡ place
place_by n len place true e = cc
place_by n len place false e = absurd (cc)

past_by : (n len : ℕ) (b : Bool) → ltb n len ≡ b → ◌≡◌ {A = Option ℕ} (cond b (Some n) None) None → len ≤ n
past_by n len true t e = absurd (cc)
past_by n len false t e = ltb-false n len t

pub routes_nowhere : (f : Forwarding) (device : ℕ) (o : Option ℕ) → o ≡ position (nat_eq device) (devices_of f.tables) → o ≡ None → routes_of f device ≡ []
routes_nowhere f device o is none =
    let n : ℕ = position_or_len (nat_eq device) (devices_of f.tables) in
    let past : length (devices_of f.tables) ≤ n = past_by n (length (devices_of f.tables)) (ltb n (length (devices_of f.tables))) refl (sym is ∙ none) in
    ap found_routes (table_at f.tables device ∙ slice_get_past f.tables n (omega (arith, past, length-map f.tables (λ (t : Table). t.device))))

pub routes_at : (f : Forwarding) (device place : ℕ) (table : Table) (o : Option ℕ) → o ≡ position (nat_eq device) (devices_of f.tables) → o ≡ Some place → slice_get f.tables place ≡ Some table → routes_of f device ≡ table.routes
routes_at f device place table o is some at =
    let n : ℕ = position_or_len (nat_eq device) (devices_of f.tables) in
    let here : n ≡ place = place_by n (length (devices_of f.tables)) place (ltb n (length (devices_of f.tables))) (sym is ∙ some) in
    ap found_routes (table_at f.tables device ∙ ap (slice_get f.tables) here ∙ at)

-- ---- a new device

distinct_apart : (xs ys : List ℕ) (x : ℕ) → IsDistinct nat_eq (xs ++ x ∷ ys) → list_any (nat_eq x) xs ≡ false
unfolding IsDistinct
distinct_apart [] ys x h = refl
distinct_apart (z ∷ xs) ys x h =
    let other : nat_eq x z ≡ false = false_from_ne_true _ (λ same. let apart : nat_eq z x ≡ false = middle xs h.0 in let is : nat_eq z x ≡ true = eq-eqb z x (sym (eqb-true x z same)) in absurd (cc)) in
    rw (other, distinct_apart xs ys x h.1) refl
  where
    middle : (us : List ℕ) → AllByRecursion (λ y. nat_eq z y ≡ false) (us ++ x ∷ ys) → nat_eq z x ≡ false
    middle [] each = each.0
    middle (u ∷ us) each = middle us each.1

pub new_device : (tables : List Table) (i : ℕ) (t : Table) → IsDistinct nat_eq (devices_of tables) → i < length tables → t ≡ get_or tables i t → list_any (nat_eq t.device) (devices_of (take i tables)) ≡ false
new_device tables i t distinct lt is =
    let rest : drop i tables ≡ t ∷ drop (i + 1) tables = drop_more tables i t lt ∙ ap (λ (x : Table). x ∷ drop (i + 1) tables) (sym is) in
    let whole : take i tables ++ t ∷ drop (i + 1) tables ≡ tables = ap (λ (xs : List Table). take i tables ++ xs) (sym rest) ∙ take-append-drop i tables in
    let parts : devices_of (take i tables) ++ t.device ∷ devices_of (drop (i + 1) tables) ≡ devices_of tables =
    sym (map-append (λ (t : Table). t.device) (take i tables) (t ∷ drop (i + 1) tables)) ∙ ap devices_of whole in
    distinct_apart (devices_of (take i tables)) (devices_of (drop (i + 1) tables)) t.device (subst (IsDistinct nat_eq) (sym parts) distinct)

within_by : (n len place : ℕ) (b : Bool) → ltb n len ≡ b → cond b (Some n) None ≡ Some place → place < len
within_by n len place true t e = let same : n ≡ place = cc in omega (arith, same, ltb-true n len t)
within_by n len place false t e = absurd (cc)

place_below : (keys : List ℕ) (device place : ℕ) (o : Option ℕ) → o ≡ position (nat_eq device) keys → o ≡ Some place → place < length keys
place_below keys device place o is some =
    let n : ℕ = position_or_len (nat_eq device) keys in within_by n (length keys) place (ltb n (length keys)) refl (sym is ∙ some)

-- ---- the routes of a device

pub routes_some : (f : Forwarding) (device place : ℕ) (keys : List ℕ) (tables : List Table) (o : Option ℕ) (table : Table) (routes : List Route) → keys ≡ devices_of f.tables → o ≡ position (nat_eq device) keys → o ≡ Some place
    → tables ≡ f.tables → table ≡ get_or tables place table → routes ≡ table.routes → routes ≡ routes_of f device
routes_some f device place keys tables o table routes known is some same read routes_are =
    let below : place < length f.tables = omega (arith, place_below keys device place o is some, ap length known, length-map f.tables (λ (t : Table). t.device)) in
    let at : slice_get f.tables place ≡ Some table = slice_get_read f.tables (length f.tables) place table refl below (subst (λ (ts : List Table). table ≡ get_or ts place table) same read) in
    routes_are ∙ sym (routes_at f device place table o (is ∙ ap (position (nat_eq device)) known) some at)

pub routes_none : (f : Forwarding) (device : ℕ) (keys : List ℕ) (o : Option ℕ) → keys ≡ devices_of f.tables → o ≡ position (nat_eq device) keys → o ≡ None → routes_of f device ≡ []
routes_none f device keys o known is none = routes_nowhere f device o (is ∙ ap (position (nat_eq device)) known) none

pub device_pushed : (tables : List Table) (i : ℕ) (t : Table) (keys keys' : List ℕ) → IsDistinct nat_eq (devices_of tables) → i < length tables → t ≡ get_or tables i t → keys ≡ devices_of (take i tables)
    → keys' ≡ cond (list_any (nat_eq t.device) keys) keys (keys ++ t.device ∷ []) → keys' ≡ devices_of (take (i + 1) tables)
device_pushed tables i t keys keys' distinct lt is known pushed =
    let new : list_any (nat_eq t.device) keys ≡ false = ap (list_any (nat_eq t.device)) known ∙ new_device tables i t distinct lt is in
    let more : take (i + 1) tables ≡ take i tables ++ t ∷ [] = take_more tables i t lt ∙ ap (λ (x : Table). take i tables ++ x ∷ []) (sym is) in
    pushed ∙ ap (λ b. cond b keys (keys ++ t.device ∷ [])) new ∙ ap (λ (ks : List ℕ). ks ++ t.device ∷ []) known
    ∙ sym (map-append (λ (t : Table). t.device) (take i tables) (t ∷ [])) ∙ ap devices_of (sym more)
