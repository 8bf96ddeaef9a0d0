-- One element more at the end of a list.
use Rattle.std.proofs.Common.{◌≡◌, ◌∙◌, sym, ap, subst, ℕ, ◌+◌, ◌*◌, ◌<◌, ◌≤◌, List, [], ◌∷◌, ◌++◌, length, arith}
use Rattle.std.specs.Prelude.{nat_eq}
use Rattle.std.specs.List.{All, IsDistinct}
use Rattle.std.proofs.lemmas.List.{length-append, length-map, map-append}
use Rattle.std.proofs.lemmas.List.Elements.{All-push}
use Rattle.std.proofs.lemmas.List.Sums.{sum_by-append}
use Rattle.rela_tables.specs.declared.route.Route.{Route}
use Rattle.rela_tables.specs.declared.table.Table.{Table}
use Rattle.rela_tables.specs.Distinct.{AreTables, IsTable, devices_of, key_of, keys_of}
use Rattle.rela_tables.specs.Forwarding.{route_count}

pub All-more : {X : Type 0} (P : X → Type 0) (xs ys : List X) (x : X) → ys ≡ xs ++ x ∷ [] → All P xs → P x → All P ys
All-more P xs ys x e each one = subst (All P) (sym e) (All-push P xs x each one)

pub keys_more : (routes routes' : List Route) (keys keys' : List (ℕ × ℕ)) (route : Route) → keys ≡ keys_of routes → keys' ≡ keys ++ key_of route.prefix ∷ [] → routes' ≡ routes ++ route ∷ [] → keys' ≡ keys_of routes'
keys_more routes routes' keys keys' route known more pushed =
    more ∙ ap (λ (ks : List (ℕ × ℕ)). ks ++ key_of route.prefix ∷ []) known ∙ sym (map-append (λ (r : Route). key_of r.prefix) routes (route ∷ [])) ∙ ap keys_of (sym pushed)

pub devices_more : (tables tables' : List Table) (devices devices' : List ℕ) (table : Table) → devices ≡ devices_of tables → devices' ≡ devices ++ table.device ∷ [] → tables' ≡ tables ++ table ∷ [] → devices' ≡ devices_of tables'
devices_more tables tables' devices devices' table known more pushed =
    more ∙ ap (λ (ds : List ℕ). ds ++ table.device ∷ []) known ∙ sym (map-append (λ (t : Table). t.device) tables (table ∷ [])) ∙ ap devices_of (sym pushed)

pub count_more : (tables tables' : List Table) (count len : ℕ) (table : Table) → count ≡ route_count tables → len ≡ length table.routes → tables' ≡ tables ++ table ∷ [] → count + len ≡ route_count tables'
count_more tables tables' count len table known is pushed =
    let more : route_count (tables ++ table ∷ []) ≡ route_count tables + route_count (table ∷ []) = sum_by-append (λ (t : Table). length t.routes) tables (table ∷ []) in
    omega (arith, known, is, more, ap route_count pushed)

pub as_many : (tables : List Table) (devices : List ℕ) → devices ≡ devices_of tables → length devices ≡ length tables
as_many tables devices known = ap length known ∙ length-map tables (λ (t : Table). t.device)

pub are_tables : (tables : List Table) (devices : List ℕ) → devices ≡ devices_of tables → IsDistinct nat_eq devices → length tables ≤ 100000 → All IsTable tables → AreTables tables
are_tables tables devices known unique few each = record { few = few; each = each; distinct = subst (IsDistinct nat_eq) known unique }

pub few_more : {X : Type 0} (xs ys : List X) (x : X) (n most : ℕ) → n ≡ length xs → n < most → ys ≡ xs ++ x ∷ [] → length ys ≤ most
few_more xs ys x n most as_long room pushed = omega (arith, as_long, room, ap length pushed, length-append xs (x ∷ []))

pub room_more : (devices devices' : List ℕ) (count len device : ℕ) (table : Table) → count ≤ 10000 * length devices → devices' ≡ devices ++ device ∷ [] → len ≡ length table.routes → IsTable table → count + len ≤ 10000 * length devices'
room_more devices devices' count len device table room more is own = omega (arith, room, is, own.few, ap length more, length-append devices (device ∷ []))
