-- Lists of names in the order of their bytes.
use Rattle.std.proofs.Common.{zero, suc, ◌≡◌, ℕ, ◌+◌, ◌<◌, ◌≤◌, List, [], ◌∷◌, length, arith, refl, Bool, sym, ◌∙◌, true, false, if◌then◌else◌, Ok, Err, not}
use Rattle.std.specs.List.Sorted.{IsStrictlySortedBy}
use Rattle.std.proofs.lemmas.Map.Keys.{sorted_tail}
use Rattle.std.proofs.lemmas.Map.Views.{All-after_first}
use Rattle.std.specs.BTreeMap.{is_at}
use Rattle.std.specs.List.{list_any}
use Rattle.std.proofs.lemmas.Map.Text.{is_eq-slice_cmp}
use Rattle.std.proofs.lemmas.Map.Views.{All-insert_key}
use Rattle.rela_names.specs.Name.{bytes_cmp, IsAscending, IsLocationName}
use Rattle.rela_locations.specs.Names.{AreLocationNames, with_name, has_name, location_name, new_name}
use Rattle.rela_json.specs.declared.error.LoadError.TheVariants.{RepeatedEntry}

-- the keys of a set of names ascend
pub ascending_from_ordered : (names : List (List ℕ)) → IsStrictlySortedBy bytes_cmp names → IsAscending names
ascending_from_ordered [] sorted i j d below within = absurd (omega arith)
ascending_from_ordered (n ∷ names) sorted zero zero d below within = absurd (omega arith)
ascending_from_ordered (n ∷ names) sorted zero (suc j) d below within =
    All-after_first bytes_cmp n names sorted j d (omega arith)
ascending_from_ordered (n ∷ names) sorted (suc i) zero d below within = absurd (omega arith)
ascending_from_ordered (n ∷ names) sorted (suc i) (suc j) d below within =
    ascending_from_ordered names (sorted_tail bytes_cmp n names sorted) i j d (omega arith) (omega arith)

-- a set of names has a name where some key compares as equal
pub has_name-contains : (names : List (List ℕ)) (name : List ℕ) → list_any (is_at (bytes_cmp name)) names ≡ has_name names name
has_name-contains [] name = refl
has_name-contains (n ∷ names) name = rw (is_eq-slice_cmp name n, has_name-contains names name)

pub more_location_names : (names : List (List ℕ)) (name : List ℕ) → AreLocationNames names → IsLocationName name
    → length (with_name names name) ≤ 100000 → AreLocationNames (with_name names name)
more_location_names names name old new few = record {
  location_names = All-insert_key bytes_cmp name IsLocationName names old.location_names new;
  few = few;
}

-- one more at most
pub room_for_one : (added : Bool) (old new : ℕ) → old < 100000 → new ≡ old + (if added then 1 else 0) → new ≤ 100000
room_for_one true old new below is = omega arith
room_for_one false old new below is = omega arith

-- what comes of a location's name, by whether it is there
pub when_new : (names : List (List ℕ)) (row : ℕ) (bytes name : List ℕ) → location_name row bytes ≡ Ok name → list_any (is_at (bytes_cmp name)) names ≡ false
    → new_name names row bytes ≡ Ok name
when_new names row bytes name located absent =
    rw located (rw (sym (has_name-contains names name) ∙ absent) refl)

pub when_repeated : (names : List (List ℕ)) (row : ℕ) (bytes name : List ℕ) → location_name row bytes ≡ Ok name → list_any (is_at (bytes_cmp name)) names ≡ true
    → new_name names row bytes ≡ Err (RepeatedEntry row)
when_repeated names row bytes name located present =
    rw located (rw (sym (has_name-contains names name) ∙ present) refl)

pub absent_when_new : (is_new found : Bool) → is_new ≡ not found → is_new ≡ true → found ≡ false
absent_when_new is_new false is holds = refl
absent_when_new is_new true is holds = cc

pub present_when_old : (is_new found : Bool) → is_new ≡ not found → is_new ≡ false → found ≡ true
present_when_old is_new true is fails = refl
present_when_old is_new false is fails = cc
