-- What the look-ups of members tell.
use Rattle.std.proofs.Common.{◌≡◌, ℕ, ◌<◌, true, false, List, [], ◌∷◌, length, get_or, map, slice_get, Some, Result, IfOk, OnOk, IsErrOf, ◌↔◌, Vec, Global, refl, ap, sym, ◌∙◌}
use Rattle.std.specs.List.{All, list_any}
use Rattle.std.specs.List.Sorted.{IsStrictlySortedBy}
use Rattle.std.specs.Ordering.{nat_cmp}
use Rattle.std.specs.BTreeMap.{BTreeMap}
use Rattle.std.proofs.lemmas.List.{length-map}
use Rattle.std.proofs.lemmas.Option.{slice_get_within, slice_get-get_or, get_or_from_slice_get}
use Rattle.rela_names.specs.declared.level.Level.{Level}
use Rattle.rela_names.specs.declared.level.Level.TheVariants as level
use Rattle.rela_locations.specs.declared.members.By.TheVariants as by
use Rattle.rela_locations.specs.declared.members.MemberError.{MemberError}
use Rattle.rela_locations.specs.declared.members.MemberError.TheVariants.{Unknown}
use Rattle.rela_locations.specs.declared.containment.Containment.{Containment}
use Rattle.rela_locations.specs.Names.{has_name}
use Rattle.rela_locations.specs.Network.{Network, devices_in, names_at, alphabet_of, name_of, by_level, within, members_of}
use Rattle.rela_locations.specs.Tables.{index_of, IsOnce, IsContainment, AreTagged, device_names, has_number, devices_for}
use Rattle.rela_locations.proofs.Indexes.{index_of_known, once_when_ascending}
use Rattle.rela_locations.proofs.NameSets.{has_name-ascending}
use Rattle.rela_locations.proofs.NumberLists.{is_kept}
use Rattle.rela_locations.proofs.OwnNames.{own_members}
use Rattle.rela_locations.proofs.Places.{field_at}
use Rattle.rela_locations.proofs.TableLaws.{both_of_ok}
use Rattle.rela_locations.proofs.TagMembers.{tagged_devices_are, tagged_interfaces_are, number_below}

abbrev items_of : Vec ℕ Global → List ℕ
items_of list = list.items

-- there is a list for each outer location
pub inner_length : (child parent : Level) (network : Network) (containment : Containment) → IsContainment child parent network containment → length containment.inner.items ≡ length (alphabet_of parent network)
inner_length child parent network containment is =
    sym (length-map containment.inner.items items_of) ∙ ap length is.inner ∙ length-map (alphabet_of parent network) (λ name. members_of child (by_level parent) name network)

-- the list of a location has its members
list_of_members : (child parent : Level) (network : Network) (containment : Containment) (name : List ℕ) → IsContainment child parent network containment
    → has_name (alphabet_of parent network) name ≡ true
    → get_or (map items_of containment.inner.items) (index_of (alphabet_of parent network) name) [] ≡ members_of child (by_level parent) name network
list_of_members child parent network containment name is known =
    let ps : List (List ℕ) = alphabet_of parent network in
    let t : ℕ = index_of ps name in
    let t_at : slice_get ps t ≡ Some name = index_of_known ps name known in
    ap (λ (lists : List (List ℕ)). get_or lists t []) is.inner
    ∙ sym (field_at (λ n. members_of child (by_level parent) n network) ps t name (slice_get_within ps t name t_at) (sym (get_or_from_slice_get ps t name name t_at)))

pub members_inside : (child parent : Level) (network : Network) (containment : Containment) (alphabet : List (List ℕ)) (name : List ℕ) (r : Result (Vec ℕ Global) MemberError)
    → IsContainment child parent network containment → alphabet ≡ alphabet_of parent network
    → IfOk r (λ members. members.items ≡ get_or (map items_of containment.inner.items) (index_of alphabet name) []) → OnOk r (has_name alphabet name ≡ true)
    → IfOk r (λ members. members.items ≡ members_of child (by_level parent) name network)
members_inside child parent network containment alphabet name r is alphabet_is told known =
    both_of_ok r _ _ _
    (λ members list there.
    list ∙ ap (λ (names : List (List ℕ)). get_or (map items_of containment.inner.items) (index_of names name) []) alphabet_is
    ∙ list_of_members child parent network containment name is (sym (ap (λ names. has_name names name) alphabet_is) ∙ there))
    told known

pub members_itself : (at : Level) (network : Network) (alphabet : List (List ℕ)) (name : List ℕ) (r : Result (Vec ℕ Global) MemberError)
    → IsOnce (alphabet_of at network) → alphabet ≡ alphabet_of at network
    → IfOk r (λ members. members.items ≡ index_of alphabet name ∷ []) → OnOk r (has_name alphabet name ≡ true)
    → IfOk r (λ members. members.items ≡ members_of at (by_level at) name network)
members_itself at network alphabet name r once alphabet_is told known =
    both_of_ok r _ _ _
    (λ members list there.
    list ∙ ap (λ names. index_of names name ∷ []) alphabet_is
    ∙ sym (own_members at network name once (sym (ap (λ names. has_name names name) alphabet_is) ∙ there)))
    told known

pub name_known : (at : Level) (network : Network) (alphabet : List (List ℕ)) (name : List ℕ) → alphabet ≡ alphabet_of at network
    → has_name alphabet name ≡ has_name (names_at at network) name
name_known at network alphabet name alphabet_is = ap (λ names. has_name names name) alphabet_is ∙ has_name-ascending (names_at at network) name

pub unknown_told : (at : Level) (network : Network) (alphabet : List (List ℕ)) (name : List ℕ) (r : Result (Vec ℕ Global) MemberError) → alphabet ≡ alphabet_of at network
    → IsErrOf r Unknown ↔ (has_name alphabet name ≡ false) → IsErrOf r Unknown ↔ ((false ≡ false) × (has_name (names_at at network) name ≡ false))
unknown_told at network alphabet name r alphabet_is told =
    let same = name_known at network alphabet name alphabet_is in
    (λ e. (refl, sym same ∙ told.0 e), λ h. told.1 (same ∙ h.1))

module _ (network : Network) (tagged : BTreeMap (List ℕ) (Vec ℕ Global)) (are : AreTagged (alphabet_of level.Device network) (devices_in network) tagged) (tag : List ℕ) where
  pub numbers_in_range : (count : ℕ) → IsOnce (alphabet_of level.Device network) → count ≡ length (alphabet_of level.Device network) → All (λ device. device < count) (devices_for tagged tag)
  numbers_in_range count once count_is k d within =
      let at = slice_get-get_or (devices_for tagged tag) k d within in
      rw count_is (number_below network tag (devices_for tagged tag) once (are.with_tag tag) k (get_or (devices_for tagged tag) k d) at)

  pub devices_with_tag : (r : Result (Vec ℕ Global) MemberError) → IsOnce (alphabet_of level.Device network)
      → IfOk r (λ members. IsStrictlySortedBy nat_cmp members.items) → IfOk r (λ members. (n : ℕ) → has_number members.items n ≡ has_number (devices_for tagged tag) n)
      → IfOk r (λ members. members.items ≡ members_of level.Device by.Tag tag network)
  devices_with_tag r once rising told =
      both_of_ok r _ _ _
      (λ members rises has.
      is_kept (λ symbol. has_name (names_at level.Device (within by.Tag tag network)) (name_of level.Device network symbol)) (length (alphabet_of level.Device network)) members.items rises
      (λ n. has n ∙ are.with_tag tag n ∙ tagged_devices_are network tag n once))
      rising told

  pub interfaces_with_tag : (r : Result (Vec ℕ Global) MemberError) (containment : Containment) → IsContainment level.Interface level.Device network containment
      → IsOnce (device_names (devices_in network))
      → IfOk r (λ members. IsStrictlySortedBy nat_cmp members.items)
      → IfOk r (λ members. (n : ℕ) → has_number members.items n ≡ list_any (λ device. has_number (get_or (map items_of containment.inner.items) device []) n) (devices_for tagged tag))
      → IfOk r (λ members. members.items ≡ members_of level.Interface by.Tag tag network)
  interfaces_with_tag r containment is devices_once rising told =
      both_of_ok r _ _ _
      (λ members rises has.
      is_kept (λ symbol. has_name (names_at level.Interface (within by.Tag tag network)) (name_of level.Interface network symbol)) (length (alphabet_of level.Interface network)) members.items rises
      (λ n. has n ∙ tagged_interfaces_are network containment is devices_once tag (devices_for tagged tag) n (once_when_ascending (alphabet_of level.Device network) is.outer_ascend) (are.with_tag tag)))
      rising told
