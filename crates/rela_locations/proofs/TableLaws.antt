-- What the tables of a network say.
use Rattle.std.proofs.Common.{◌≡◌, ℕ, ◌+◌, ◌<◌, arith, Bool, List, [], length, get_or, map, option_map, slice_get, Some, Result, Ok, Err, IfOk, refl, ap, sym, ◌∙◌}
use Rattle.std.specs.List.{All, list_any, range_with_len}
use Rattle.std.proofs.lemmas.List.{length-map}
use Rattle.std.proofs.lemmas.List.FromFn.{length-range_with_len, get_or-map-range_with_len}
use Rattle.std.proofs.lemmas.Option.{slice_get-map, slice_get-get_or, slice_get_within, get_or_from_slice_get}
use Rattle.rela_names.specs.Name.{IsAscending}
use Rattle.rela_names.specs.declared.level.Level.{Level}
use Rattle.rela_names.specs.declared.level.Level.TheVariants as level
use Rattle.rela_locations.specs.declared.alphabets.Alphabets.{Alphabets}
use Rattle.rela_locations.specs.declared.containment.Containment.{Containment}
use Rattle.rela_locations.specs.Names.{has_name}
use Rattle.rela_locations.specs.Network.{Network, devices_in, names_at, alphabet_of, by_level, within, members_of}
use Rattle.rela_locations.specs.Tables.{index_of, AreKnown, AreAlphabets, IsNamedOnce, IsContainment, numbered_pairs, places_of, outer_of}
use Rattle.rela_locations.proofs.Indexes.{once_when_ascending, index_of_known}
use Rattle.rela_locations.proofs.Known.{device_names_by_group, interface_names_by_group}
use Rattle.rela_locations.proofs.Lookups.{pairs_are, parents_found, all_children_found, parent_known, parent_told}
use Rattle.rela_locations.proofs.NameSets.{has_name-ascending}
use Rattle.rela_locations.proofs.Parents.{Pair, ArePairs, numbered, parent_table}
use Rattle.rela_locations.proofs.PairLaws.{is_pair}
use Rattle.rela_locations.proofs.Relations.{name_of_device, name_of_group, interfaces_of_device, interfaces_of_group, devices_of_group, interface_device_pairs, interface_group_pairs, device_group_pairs, numbers_of_pairs}

-- an alphabet has all names of its level
pub known_names : (names alphabet : List (List ℕ)) (at : Level) (network : Network) → alphabet ≡ alphabet_of at network → names_at at network ≡ names → AreKnown alphabet names
known_names names alphabet at network is names_are n has =
    ap (λ ns. has_name ns n) is ∙ has_name-ascending (names_at at network) n ∙ ap (λ ns. has_name ns n) names_are ∙ has

pub interface_device_are_pairs : (network : Network) → IsNamedOnce network → IsAscending (alphabet_of level.Interface network) → IsAscending (alphabet_of level.Device network)
    → ArePairs (alphabet_of level.Interface network) (alphabet_of level.Device network) (interface_device_pairs network)
interface_device_are_pairs network once interfaces devices =
    pairs_are name_of_device interfaces_of_device (devices_in network) (alphabet_of level.Interface network) (alphabet_of level.Device network) (names_at level.Interface network) refl refl refl
    (once_when_ascending _ interfaces) (once_when_ascending _ devices) once.interfaces

pub interface_group_are_pairs : (network : Network) → IsNamedOnce network → IsAscending (alphabet_of level.Interface network) → IsAscending (alphabet_of level.Group network)
    → ArePairs (alphabet_of level.Interface network) (alphabet_of level.Group network) (interface_group_pairs network)
interface_group_are_pairs network once interfaces groups =
    pairs_are name_of_group interfaces_of_group network (alphabet_of level.Interface network) (alphabet_of level.Group network) (names_at level.Interface network)
    (sym (interface_names_by_group network)) refl refl (once_when_ascending _ interfaces) (once_when_ascending _ groups) once.interfaces

pub device_group_are_pairs : (network : Network) → IsNamedOnce network → IsAscending (alphabet_of level.Device network) → IsAscending (alphabet_of level.Group network)
    → ArePairs (alphabet_of level.Device network) (alphabet_of level.Group network) (device_group_pairs network)
device_group_are_pairs network once devices groups =
    pairs_are name_of_group devices_of_group network (alphabet_of level.Device network) (alphabet_of level.Group network) (names_at level.Device network)
    (sym (device_names_by_group network)) refl refl (once_when_ascending _ devices) (once_when_ascending _ groups) once.devices

-- what the tables of pairs say of two levels
module _ (child parent : Level) (network : Network) (pairs : List Pair) (are : ArePairs (alphabet_of child network) (alphabet_of parent network) pairs)
    (lies_by_pair : (inner outer : List ℕ) → has_name (names_at child (within (by_level parent) outer network)) inner ≡ list_any (is_pair inner outer) pairs) where
  abbrev cs : List (List ℕ)
  cs = alphabet_of child network

  abbrev ps : List (List ℕ)
  ps = alphabet_of parent network

  abbrev lies : List ℕ → List ℕ → Bool
  lies inner outer = has_name (names_at child (within (by_level parent) outer network)) inner

  pub contains_as_told : IsAscending cs → IsAscending ps → (containment : Containment) → containment.outer.items ≡ parent_table cs ps pairs
      → map (λ list. list.items) containment.inner.items ≡ map (places_of (parent_table cs ps pairs)) (range_with_len 0 (length ps))
      → IsContainment child parent network containment
  contains_as_told cs_ascend ps_ascend containment outer inner = record {
    inner_ascend = cs_ascend;
    outer_ascend = ps_ascend;
    outer = outer ∙ parents_found cs ps pairs are lies lies_by_pair (outer_of child parent network) (λ s. refl);
    inner = inner ∙ all_children_found cs ps pairs are lies lies_by_pair (λ name. members_of child (by_level parent) name network) (λ n. refl);
    known = λ s within. parent_known cs ps pairs are lies lies_by_pair s within;
    told = λ s d within below. parent_told cs ps pairs are lies lies_by_pair s d within below;
  }

-- two facts of what a call gives, as one
pub both_of_ok : {A E : Type 0} (r : Result A E) (P Q R : A → Type 0) → ((x : A) → P x → Q x → R x) → IfOk r P → IfOk r Q → IfOk r R
both_of_ok (Ok x) P Q R f p q = f x p q
both_of_ok (Err e) P Q R f p q = q

-- the numbers of pairs are in range
pub numbers_in_range : (children parents : List (List ℕ)) (pairs : List Pair) → ArePairs children parents pairs → All (λ pair. pair.0 < length children) (map (numbered children parents) pairs)
numbers_in_range children parents pairs are k d within =
    let inside : k < length pairs = rw length-map at within in
    let p : Pair = get_or pairs k ([], []) in
    let at : slice_get pairs k ≡ Some p = slice_get-get_or pairs k ([], []) inside in
    let numbers : get_or (map (numbered children parents) pairs) k d ≡ numbered children parents p =
    get_or_from_slice_get (map (numbered children parents) pairs) k (numbered children parents p) d (slice_get-map (numbered children parents) pairs k ∙ ap (option_map (numbered children parents)) at) in
    rw numbers (slice_get_within children (index_of children p.0) p.0 (index_of_known children p.0 (are.known_children p k at)))

-- the pairs that the code collects are the numbers of the pairs of names
pub interface_device_numbers : (network : Network) (alphabets : Alphabets) → AreAlphabets network alphabets
    → numbered_pairs alphabets.interfaces alphabets.devices name_of_device interfaces_of_device (devices_in network)
    ≡ map (numbered (alphabet_of level.Interface network) (alphabet_of level.Device network)) (interface_device_pairs network)
interface_device_numbers network alphabets are =
    rw (are.interfaces, are.devices) (sym (numbers_of_pairs (alphabet_of level.Interface network) (alphabet_of level.Device network) name_of_device interfaces_of_device (devices_in network)))

pub interface_group_numbers : (network : Network) (alphabets : Alphabets) → AreAlphabets network alphabets
    → numbered_pairs alphabets.interfaces alphabets.groups name_of_group interfaces_of_group network
    ≡ map (numbered (alphabet_of level.Interface network) (alphabet_of level.Group network)) (interface_group_pairs network)
interface_group_numbers network alphabets are =
    rw (are.interfaces, are.groups) (sym (numbers_of_pairs (alphabet_of level.Interface network) (alphabet_of level.Group network) name_of_group interfaces_of_group network))

pub device_group_numbers : (network : Network) (alphabets : Alphabets) → AreAlphabets network alphabets
    → numbered_pairs alphabets.devices alphabets.groups name_of_group devices_of_group network
    ≡ map (numbered (alphabet_of level.Device network) (alphabet_of level.Group network)) (device_group_pairs network)
device_group_numbers network alphabets are =
    rw (are.devices, are.groups) (sym (numbers_of_pairs (alphabet_of level.Device network) (alphabet_of level.Group network) name_of_group devices_of_group network))

-- a table of outer locations has one for each inner one
pub outer_within : (child parent : Level) (network : Network) (containment : Containment) (s : ℕ) → IsContainment child parent network containment
    → s < length (alphabet_of child network) → s < length containment.outer.items
outer_within child parent network containment s is within = rw (is.outer, length-map, length-range_with_len) within

pub outer_told : (child parent : Level) (network : Network) (containment : Containment) (s : ℕ) → IsContainment child parent network containment
    → s < length (alphabet_of child network) → (d : ℕ) → get_or containment.outer.items s d ≡ outer_of child parent network s
outer_told child parent network containment s is within d =
    let first : 0 + s ≡ s = omega arith in
    rw is.outer (get_or-map-range_with_len (outer_of child parent network) 0 (length (alphabet_of child network)) s s d within first)
