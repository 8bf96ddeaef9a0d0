-- What routes, tables and a file answer, from what their parts answer.
use Rattle.std.proofs.Common.{◌≡◌, ◌≢◌, ℕ, ◌+◌, true, false, List, [], ◌∷◌, ◌++◌, Option, Some, None, Result, Ok, Err, refl, sym, ap, subst}
use Rattle.std.specs.List.{list_any}
use Rattle.serde_json.specs.Data.{Data}
use Rattle.rela_json.specs.declared.error.LoadError.{LoadError}
use Rattle.rela_json.specs.declared.error.LoadError.TheVariants.{NotJson, Memory, RepeatedEntry}
use Rattle.rela_json.specs.declared.error.ReadJsonError.{ReadJsonError}
use Rattle.rela_json.specs.declared.error.ReadJsonError.TheVariants as read
use Rattle.rela_json.specs.LoadErrors.{load_error}
use Rattle.rela_json.specs.Reading.{reading}
use Rattle.rela_json.specs.Results.{ok_or}
use Rattle.rela_flows.specs.declared.prefix.Ipv4Prefix.{Ipv4Prefix}
use Rattle.rela_locations.specs.Network.{Network}
use Rattle.rela_snapshot.specs.Steps.{IsAnswer}
use Rattle.rela_tables.proofs.StepLaws.{is_answer, then_next, then_refused, value_next, value_refused}
use Rattle.rela_tables.specs.declared.route.Route.{Route}
use Rattle.rela_tables.specs.declared.table.Table.{Table}
use Rattle.rela_tables.specs.Distinct.{devices_of, is_same_key, key_of, keys_of}
use Rattle.rela_tables.specs.Forwarding.{Forwarding, route_count}
use Rattle.rela_tables.specs.Load.{AreTablesAfter, IsForwarding, IsTableAfter, LoadTables}
use Rattle.rela_tables.specs.TableParts.{contents_of, head_of}
use Rattle.rela_tables.specs.RouteParts.{hops_of, prefix_text_of, route_of}
use Rattle.rela_tables.specs.Routes.{AreRoutes, IsPrefix, IsPrefixOf, IsRoute}

-- ---- a route

pub prefix_refused : (row : ℕ) (d : Data) (e : LoadError) → prefix_text_of row d ≡ Err e → IsAnswer (IsPrefixOf row d) (Err e)
unfolding IsPrefixOf
prefix_refused row d e is = value_refused _ _ e is

pub prefix_read : (row : ℕ) (d : Data) (text : List ℕ) (r : Result Ipv4Prefix LoadError) → prefix_text_of row d ≡ Ok text → IsAnswer (IsPrefix row text) r → IsAnswer (IsPrefixOf row d) r
unfolding IsPrefixOf
prefix_read row d text r is next = value_next _ _ text r is next

pub route_refused : (network : Network) (earlier : List (ℕ × ℕ)) (row : ℕ) (d : Data) (e : LoadError) → IsAnswer (IsPrefixOf row d) (Err e) → IsAnswer (IsRoute network earlier row d) (Err e)
unfolding IsRoute
route_refused network earlier row d e is = then_refused _ _ e is

pub route_read : (network : Network) (earlier : List (ℕ × ℕ)) (row : ℕ) (d : Data) (prefix : Ipv4Prefix) (r : Result Route LoadError) → IsAnswer (IsPrefixOf row d) (Ok prefix) → route_of network earlier row prefix d ≡ r → IsAnswer (IsRoute network earlier row d) r
unfolding IsRoute
route_read network earlier row d prefix r is next = then_next _ _ prefix r is (is_answer _ r next)

pub route_repeats : (network : Network) (earlier : List (ℕ × ℕ)) (row : ℕ) (prefix : Ipv4Prefix) (d : Data) → list_any (is_same_key (key_of prefix)) earlier ≡ true → route_of network earlier row prefix d ≡ Err (RepeatedEntry row)
unfolding route_of
route_repeats network earlier row prefix d again = rw again refl

pub route_no_hops : (network : Network) (earlier : List (ℕ × ℕ)) (row : ℕ) (prefix : Ipv4Prefix) (d : Data) (e : LoadError) → list_any (is_same_key (key_of prefix)) earlier ≡ false → hops_of network row d ≡ Err e → route_of network earlier row prefix d ≡ Err e
unfolding route_of
route_no_hops network earlier row prefix d e new is = rw new (rw is refl)

pub route_whole : (network : Network) (earlier : List (ℕ × ℕ)) (row : ℕ) (prefix : Ipv4Prefix) (d : Data) (hops : Option (List ℕ)) → list_any (is_same_key (key_of prefix)) earlier ≡ false → hops_of network row d ≡ Ok hops
    → route_of network earlier row prefix d ≡ Ok (record { prefix = prefix; hops = hops })
unfolding route_of
route_whole network earlier row prefix d hops new is = rw new (rw is refl)

-- ---- the routes of a table

routes_end : (network : Network) (row : ℕ) (earlier : List Route) → IsAnswer (AreRoutes network row earlier []) (Ok earlier)
unfolding AreRoutes
routes_end network row earlier = is_answer _ (Ok earlier) refl

routes_refused : (network : Network) (row : ℕ) (earlier : List Route) (d : Data) (ds : List Data) (e : LoadError) → IsAnswer (IsRoute network (keys_of earlier) row d) (Err e) → IsAnswer (AreRoutes network row earlier (d ∷ ds)) (Err e)
unfolding AreRoutes
routes_refused network row earlier d ds e is = then_refused _ _ e is

routes_next : (network : Network) (row : ℕ) (earlier : List Route) (d : Data) (ds : List Data) (route : Route) (r : Result (List Route) LoadError) → IsAnswer (IsRoute network (keys_of earlier) row d) (Ok route) → IsAnswer (AreRoutes network (row + 1) (earlier ++ route ∷ []) ds) r → IsAnswer (AreRoutes network row earlier (d ∷ ds)) r
unfolding AreRoutes
routes_next network row earlier d ds route r is next = then_next _ _ route r is next

-- what is left to read of the routes decides what all of them answer
pub record AreReadSo (network : Network) (first row : ℕ) (ds left : List Data) (routes : List Route) : Type 0 where
  pub decides : (r : Result (List Route) LoadError) → IsAnswer (AreRoutes network row routes left) r → IsAnswer (AreRoutes network first [] ds) r

pub none_read : (network : Network) (first : ℕ) (ds left : List Data) (routes : List Route) → left ≡ ds → routes ≡ [] → AreReadSo network first first ds left routes
none_read network first ds left routes all none = record { decides = λ r h. subst (λ rs. IsAnswer (AreRoutes network first rs ds) r) none (subst (λ l. IsAnswer (AreRoutes network first routes l) r) all h) }

pub route_ends : (network : Network) (first row : ℕ) (ds left more : List Data) (d : Data) (routes : List Route) (keys : List (ℕ × ℕ)) (e : LoadError) → left ≡ d ∷ more → keys ≡ keys_of routes → IsAnswer (IsRoute network keys row d) (Err e) → AreReadSo network first row ds left routes → IsAnswer (AreRoutes network first [] ds) (Err e)
route_ends network first row ds left more d routes keys e next known is so =
    so.decides (Err e) (subst (λ l. IsAnswer (AreRoutes network row routes l) (Err e)) (sym next) (routes_refused network row routes d more e (subst (λ k. IsAnswer (IsRoute network k row d) (Err e)) known is)))

pub route_goes_on : (network : Network) (first row : ℕ) (ds left more : List Data) (d : Data) (routes routes' : List Route) (keys : List (ℕ × ℕ)) (route : Route) → left ≡ d ∷ more → keys ≡ keys_of routes → routes' ≡ routes ++ route ∷ [] → IsAnswer (IsRoute network keys row d) (Ok route)
    → AreReadSo network first row ds left routes → AreReadSo network first (row + 1) ds more routes'
route_goes_on network first row ds left more d routes routes' keys route next known pushed is so = record {
  decides = λ r h. so.decides r (subst (λ l. IsAnswer (AreRoutes network row routes l) r) (sym next)
      (routes_next network row routes d more route r (subst (λ k. IsAnswer (IsRoute network k row d) (Ok route)) known is) (subst (λ rs. IsAnswer (AreRoutes network (row + 1) rs more) r) pushed h)));
}

pub all_routes : (network : Network) (first row : ℕ) (ds left : List Data) (routes : List Route) → left ≡ [] → AreReadSo network first row ds left routes → IsAnswer (AreRoutes network first [] ds) (Ok routes)
all_routes network first row ds left routes none so = so.decides (Ok routes) (subst (λ l. IsAnswer (AreRoutes network row routes l) (Ok routes)) (sym none) (routes_end network row routes))

-- ---- a table

pub table_no_head : (network : Network) (earlier : List ℕ) (count : ℕ) (d : Data) (e : LoadError) → head_of network earlier d ≡ Err e → IsAnswer (IsTableAfter network earlier count d) (Err e)
unfolding IsTableAfter
table_no_head network earlier count d e is = value_refused _ _ e is

pub table_no_routes : (network : Network) (earlier : List ℕ) (count device : ℕ) (d : Data) (ds : List Data) (e : LoadError) → head_of network earlier d ≡ Ok (device, ds) → IsAnswer (AreRoutes network count [] ds) (Err e) → IsAnswer (IsTableAfter network earlier count d) (Err e)
unfolding IsTableAfter
table_no_routes network earlier count device d ds e is routes = value_next _ _ (device, ds) (Err e) is (then_refused _ _ e routes)

pub table_whole : (network : Network) (earlier : List ℕ) (count device : ℕ) (d : Data) (ds : List Data) (routes : List Route) → head_of network earlier d ≡ Ok (device, ds) → IsAnswer (AreRoutes network count [] ds) (Ok routes) → IsAnswer (IsTableAfter network earlier count d) (Ok (record { device = device; routes = routes }))
unfolding IsTableAfter
table_whole network earlier count device d ds routes is are = value_next _ _ (device, ds) _ is (then_next _ _ routes _ are (is_answer _ _ refl))

-- ---- the tables

tables_end : (network : Network) (earlier : List Table) → IsAnswer (AreTablesAfter network earlier []) (Ok earlier)
unfolding AreTablesAfter
tables_end network earlier = is_answer _ (Ok earlier) refl

tables_refused : (network : Network) (earlier : List Table) (d : Data) (ds : List Data) (e : LoadError) → IsAnswer (IsTableAfter network (devices_of earlier) (route_count earlier) d) (Err e) → IsAnswer (AreTablesAfter network earlier (d ∷ ds)) (Err e)
unfolding AreTablesAfter
tables_refused network earlier d ds e is = then_refused _ _ e is

tables_next : (network : Network) (earlier : List Table) (d : Data) (ds : List Data) (table : Table) (r : Result (List Table) LoadError) → IsAnswer (IsTableAfter network (devices_of earlier) (route_count earlier) d) (Ok table) → IsAnswer (AreTablesAfter network (earlier ++ table ∷ []) ds) r → IsAnswer (AreTablesAfter network earlier (d ∷ ds)) r
unfolding AreTablesAfter
tables_next network earlier d ds table r is next = then_next _ _ table r is next

pub record AreTablesSo (network : Network) (ds left : List Data) (tables : List Table) : Type 0 where
  pub decides : (r : Result (List Table) LoadError) → IsAnswer (AreTablesAfter network tables left) r → IsAnswer (AreTablesAfter network [] ds) r

pub no_tables_yet : (network : Network) (ds left : List Data) (tables : List Table) → left ≡ ds → tables ≡ [] → AreTablesSo network ds left tables
no_tables_yet network ds left tables all none = record { decides = λ r h. subst (λ ts. IsAnswer (AreTablesAfter network ts ds) r) none (subst (λ l. IsAnswer (AreTablesAfter network tables l) r) all h) }

pub table_ends : (network : Network) (ds left more : List Data) (d : Data) (tables : List Table) (devices : List ℕ) (count : ℕ) (e : LoadError) → left ≡ d ∷ more → devices ≡ devices_of tables → count ≡ route_count tables → IsAnswer (IsTableAfter network devices count d) (Err e)
    → AreTablesSo network ds left tables → IsAnswer (AreTablesAfter network [] ds) (Err e)
table_ends network ds left more d tables devices count e next known counted is so =
    so.decides (Err e) (subst (λ l. IsAnswer (AreTablesAfter network tables l) (Err e)) (sym next) (tables_refused network tables d more e (subst (λ k. IsAnswer (IsTableAfter network k (route_count tables) d) (Err e)) known (subst (λ n. IsAnswer (IsTableAfter network devices n d) (Err e)) counted is))))

pub table_goes_on : (network : Network) (ds left more : List Data) (d : Data) (tables tables' : List Table) (devices : List ℕ) (count : ℕ) (table : Table) → left ≡ d ∷ more → devices ≡ devices_of tables → count ≡ route_count tables → tables' ≡ tables ++ table ∷ [] → IsAnswer (IsTableAfter network devices count d) (Ok table)
    → AreTablesSo network ds left tables → AreTablesSo network ds more tables'
table_goes_on network ds left more d tables tables' devices count table next known counted pushed is so = record {
  decides = λ r h. so.decides r (subst (λ l. IsAnswer (AreTablesAfter network tables l) r) (sym next)
      (tables_next network tables d more table r (subst (λ k. IsAnswer (IsTableAfter network k (route_count tables) d) (Ok table)) known (subst (λ n. IsAnswer (IsTableAfter network devices n d) (Ok table)) counted is)) (subst (λ ts. IsAnswer (AreTablesAfter network ts more) r) pushed h)));
}

pub all_tables : (network : Network) (ds left : List Data) (tables : List Table) → left ≡ [] → AreTablesSo network ds left tables → IsAnswer (AreTablesAfter network [] ds) (Ok tables)
all_tables network ds left tables none so = so.decides (Ok tables) (subst (λ l. IsAnswer (AreTablesAfter network tables l) (Ok tables)) (sym none) (tables_end network tables))

-- ---- the file

pub no_contents : (network : Network) (d : Data) (e : LoadError) → contents_of network d ≡ Err e → IsAnswer (IsForwarding network d) (Err e)
unfolding IsForwarding
no_contents network d e is = value_refused _ _ e is

pub no_tables : (network : Network) (d : Data) (starts : List ℕ) (ds : List Data) (e : LoadError) → contents_of network d ≡ Ok (starts, ds) → IsAnswer (AreTablesAfter network [] ds) (Err e) → IsAnswer (IsForwarding network d) (Err e)
unfolding IsForwarding
no_tables network d starts ds e is tables = value_next _ _ (starts, ds) (Err e) is (then_refused _ _ e tables)

pub file_whole : (network : Network) (d : Data) (starts : List ℕ) (ds : List Data) (tables : List Table) → contents_of network d ≡ Ok (starts, ds) → IsAnswer (AreTablesAfter network [] ds) (Ok tables) → IsAnswer (IsForwarding network d) (Ok (record { starts = starts; tables = tables }))
unfolding IsForwarding
file_whole network d starts ds tables is are = value_next _ _ (starts, ds) _ is (then_next _ _ tables _ are (is_answer _ _ refl))

no_json : (network : Network) (bytes : List ℕ) → reading bytes ≡ None → IsAnswer (LoadTables network bytes) (Err NotJson)
unfolding LoadTables
no_json network bytes none = value_refused _ _ NotJson (ap (ok_or NotJson) none)

pub has_json : (network : Network) (bytes : List ℕ) (d : Data) (r : Result Forwarding LoadError) → reading bytes ≡ Some d → IsAnswer (IsForwarding network d) r → IsAnswer (LoadTables network bytes) r
unfolding LoadTables
has_json network bytes d r some next = value_next _ _ d r (ap (ok_or NotJson) some) next

pub json_fault : (network : Network) (bytes : List ℕ) (refused : ReadJsonError) (e : LoadError) → e ≡ load_error refused → (refused ≡ read.NotJson → reading bytes ≡ None) → e ≢ Memory → IsAnswer (LoadTables network bytes) (Err e)
json_fault network bytes read.NotJson e is none real = subst (λ (e : LoadError). IsAnswer (LoadTables network bytes) (Err e)) (sym is) (no_json network bytes (none refl))
json_fault network bytes read.Memory e is none real = absurd (real is)
