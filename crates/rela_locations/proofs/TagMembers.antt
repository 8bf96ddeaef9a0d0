-- What lies in devices with a tag.
use Rattle.std.proofs.Common.{suc, ◌≡◌, ℕ, ◌<◌, ◌≤◌, Bool, true, false, cond, ◌&&◌, ◌||◌, ◌==◌, nat_lt, List, [], ◌∷◌, length, get_or, Some, slice_get, map, option_map, filter, refl, ap, sym, ◌∙◌, arith, inl, inr}
use Rattle.std.specs.List.{list_any, flat_map}
use Rattle.std.specs.Str.{bytes_eq}
use Rattle.std.proofs.lemmas.Bool.{eq-eqb, false_from_ne_true, cases_lt}
use Rattle.std.proofs.lemmas.List.Folds.{list_any-append}
use Rattle.std.proofs.lemmas.Option.{slice_get-map, slice_get_within, slice_get-get_or, get_or_from_slice_get}
use Rattle.rela_names.specs.declared.level.Level.TheVariants as level
use Rattle.rela_locations.specs.declared.members.By.TheVariants as by
use Rattle.rela_locations.specs.declared.containment.Containment.{Containment}
use Rattle.rela_locations.specs.Names.{has_name}
use Rattle.rela_locations.specs.Network.{Device, Network, devices_in, names_at, alphabet_of, name_of, within, members_of}
use Rattle.rela_locations.specs.Tables.{index_of, IsOnce, IsContainment, device_names, interface_names, has_number, is_tagged, outer_of}
use Rattle.rela_locations.proofs.Bools.{place_of_any, any_of_place, both_true, true_left, true_right, same_test, and_false}
use Rattle.rela_locations.proofs.Indexes.{index_of_known, index_of_place, known_at}
use Rattle.rela_locations.proofs.NameSets.{same_name, name_is_itself, has_name-ascending}
use Rattle.rela_locations.proofs.NumberLists.{has_number-kept}
use Rattle.rela_locations.proofs.Parents.{name_at, equal_numbers}
use Rattle.rela_locations.proofs.Places.{field_at}
use Rattle.rela_locations.proofs.Relations.{some_devices, name_of_device, interfaces_of_device}

-- a test of what passes another
module _ {X : Type 0} (p : X → Bool) where
  kept_name : (key : X → List ℕ) (x : X) (kept : List X) (m : List ℕ) (b : Bool)
      → has_name (map key (cond b (x ∷ kept) kept)) m ≡ ((b && bytes_eq m (key x)) || has_name (map key kept) m)
  kept_name key x kept m true = refl
  kept_name key x kept m false = refl

  pub named_filter : (key : X → List ℕ) (xs : List X) (m : List ℕ) → has_name (map key (filter p xs)) m ≡ list_any (λ x. p x && bytes_eq m (key x)) xs
  named_filter key [] m = refl
  named_filter key (x ∷ xs) m = kept_name key x (filter p xs) m (p x) ∙ ap (λ b. (p x && bytes_eq m (key x)) || b) (named_filter key xs m)

  kept_inside : (f : X → List (List ℕ)) (x : X) (kept : List X) (m : List ℕ) (b : Bool)
      → has_name (flat_map f (cond b (x ∷ kept) kept)) m ≡ ((b && has_name (f x) m) || has_name (flat_map f kept) m)
  kept_inside f x kept m true = list_any-append (bytes_eq m) (f x) (flat_map f kept)
  kept_inside f x kept m false = refl

  pub inside_filter : (f : X → List (List ℕ)) (xs : List X) (m : List ℕ) → has_name (flat_map f (filter p xs)) m ≡ list_any (λ x. p x && has_name (f x) m) xs
  inside_filter f [] m = refl
  inside_filter f (x ∷ xs) m = kept_inside f x (filter p xs) m (p x) ∙ ap (λ b. (p x && has_name (f x) m) || b) (inside_filter f xs m)

-- two tests that agree on each element
pub any_same : {X : Type 0} (p q : X → Bool) (xs : List X) → ((k : ℕ) (x : X) → slice_get xs k ≡ Some x → p x ≡ q x) → list_any p xs ≡ list_any q xs
any_same p q [] same = refl
any_same p q (x ∷ xs) same = rw (same 0 x refl, any_same p q xs (λ k y at. same (suc k) y at)) refl

pub any_of_none : {X : Type 0} (xs : List X) → list_any (λ x. false) xs ≡ false
any_of_none [] = refl
any_of_none (x ∷ xs) = any_of_none xs

pub eq_turned : (a b : ℕ) → (a == b) ≡ (b == a)
eq_turned a b = same_test (a == b) (b == a) (λ e. eq-eqb b a (sym (equal_numbers a b e))) (λ e. eq-eqb a b (sym (equal_numbers b a e)))

some_is : {A : Type 0} (x y : A) → Some x ≡ Some y → x ≡ y
some_is x y e = cc

module _ (network : Network) where
  abbrev ds : List (List ℕ)
  ds = alphabet_of level.Device network

  abbrev is : List (List ℕ)
  is = alphabet_of level.Interface network

  known_device : (e : Device) (k : ℕ) → slice_get (devices_in network) k ≡ Some e → has_name ds e.name ≡ true
  known_device e k at =
      has_name-ascending (device_names (devices_in network)) e.name
      ∙ known_at (device_names (devices_in network)) e.name k (slice_get-map name_of_device (devices_in network) k ∙ ap (option_map name_of_device) at)

  device_at : (e : Device) (k : ℕ) → slice_get (devices_in network) k ≡ Some e → slice_get ds (index_of ds e.name) ≡ Some e.name
  device_at e k at = index_of_known ds e.name (known_device e k at)

  -- a device has a number where it has the name
  number_or_name : (e : Device) (k n : ℕ) → IsOnce ds → n < length ds → slice_get (devices_in network) k ≡ Some e → (index_of ds e.name == n) ≡ bytes_eq (name_at ds n) e.name
  number_or_name e k n once below at =
      let n_at : slice_get ds n ≡ Some (name_at ds n) = slice_get-get_or ds n [] below in
      same_test (index_of ds e.name == n) (bytes_eq (name_at ds n) e.name)
      (λ same.
      let number : index_of ds e.name ≡ n = equal_numbers _ n same in
      let name : name_at ds n ≡ e.name = some_is _ _ (sym n_at ∙ ap (slice_get ds) (sym number) ∙ device_at e k at) in
      rw name (name_is_itself e.name))
      (λ same.
      let name : name_at ds n ≡ e.name = same_name _ _ same in
      eq-eqb _ n (index_of_place ds e.name n once (n_at ∙ ap Some name)))

  tagged_below : (tag : List ℕ) (n : ℕ) → IsOnce ds → n < length ds → is_tagged ds (devices_in network) tag n ≡ has_name (names_at level.Device (within by.Tag tag network)) (name_at ds n)
  tagged_below tag n once below =
      any_same _ (λ (e : Device). has_name e.tags tag && bytes_eq (name_at ds n) e.name) (devices_in network)
      (λ k e at. ap (λ b. has_name e.tags tag && b) (number_or_name e k n once below at))
      ∙ sym (named_filter (λ (e : Device). has_name e.tags tag) name_of_device (devices_in network) (name_at ds n))
      ∙ ap (λ devices. has_name (device_names devices) (name_at ds n)) (sym (some_devices (λ e. has_name e.tags tag) network))

  not_tagged_past : (tag : List ℕ) (n : ℕ) → length ds ≤ n → is_tagged ds (devices_in network) tag n ≡ false
  not_tagged_past tag n past =
      any_same _ (λ (e : Device). false) (devices_in network)
      (λ k e at.
      let below = slice_get_within ds (index_of ds e.name) e.name (device_at e k at) in
      let apart : (index_of ds e.name == n) ≡ false = false_from_ne_true (index_of ds e.name == n) (λ same. let number = equal_numbers (index_of ds e.name) n same in omega arith) in
      rw apart (and_false (has_name e.tags tag)))
      ∙ any_of_none (devices_in network)

  lt_test : (m n : ℕ) → m < n → nat_lt m n ≡ true
  lt_test m n below = grind arith

  not_lt_test : (m n : ℕ) → n ≤ m → nat_lt m n ≡ false
  not_lt_test m n past = grind arith

  -- the numbers of the devices with a tag
  pub tagged_devices_are : (tag : List ℕ) (n : ℕ) → IsOnce ds
      → is_tagged ds (devices_in network) tag n ≡ (nat_lt n (length ds) && has_name (names_at level.Device (within by.Tag tag network)) (name_at ds n))
  tagged_devices_are tag n once = elim (cases_lt n (length ds)) [
    | inl below ↦ tagged_below tag n once below ∙ ap (λ b. b && has_name (names_at level.Device (within by.Tag tag network)) (name_at ds n)) (sym (lt_test n (length ds) below))
    | inr past ↦ not_tagged_past tag n past ∙ ap (λ b. b && has_name (names_at level.Device (within by.Tag tag network)) (name_at ds n)) (sym (not_lt_test n (length ds) past))
  ]

  -- the numbers of devices with a tag are in range
  pub number_below : (tag : List ℕ) (numbers : List ℕ) → IsOnce ds → ((n : ℕ) → has_number numbers n ≡ is_tagged ds (devices_in network) tag n)
      → (k d : ℕ) → slice_get numbers k ≡ Some d → d < length ds
  number_below tag numbers once numbers_are k d at = elim (cases_lt d (length ds)) [
    | inl below ↦ below
    | inr past ↦
        let here : has_number numbers d ≡ true = any_of_place (λ m. m == d) numbers k d at (eq-eqb d d refl) in
        let none : has_number numbers d ≡ false = numbers_are d ∙ not_tagged_past tag d past in
        cc
  ]

  module _ (containment : Containment) (are : IsContainment level.Interface level.Device network containment) (devices_once : IsOnce (device_names (devices_in network))) where
    -- an interface is one of a device where its outer location is that device
    lies_in_its_device : (e : Device) (k s : ℕ) → s < length is → slice_get (devices_in network) k ≡ Some e
        → has_name e.interfaces (name_at is s) ≡ (index_of ds e.name == outer_of level.Interface level.Device network s)
    lies_in_its_device e k s within_s at =
        let d : ℕ = index_of ds e.name in
        let d_at = device_at e k at in
        let name : name_at ds d ≡ e.name = get_or_from_slice_get ds d e.name [] d_at in
        let below = slice_get_within ds d e.name d_at in
        let both : Device → Bool = λ (x : Device). bytes_eq e.name x.name && has_name x.interfaces (name_at is s) in
        let told : list_any both (devices_in network) ≡ (outer_of level.Interface level.Device network s == d) =
        sym (inside_filter (λ (x : Device). bytes_eq e.name x.name) interfaces_of_device (devices_in network) (name_at is s))
        ∙ ap (λ devices. has_name (interface_names devices) (name_at is s)) (sym (some_devices (λ x. bytes_eq e.name x.name) network))
        ∙ ap (λ m. has_name (names_at level.Interface (within by.Device m network)) (name_at is s)) (sym name)
        ∙ are.told s d within_s below in
        same_test (has_name e.interfaces (name_at is s)) (list_any both (devices_in network))
        (λ has. any_of_place both (devices_in network) k e at (both_true (bytes_eq e.name e.name) (has_name e.interfaces (name_at is s)) (name_is_itself e.name) has))
        (λ any.
        let found = place_of_any both (devices_in network) any in
        let same : e.name ≡ found.1.name = same_name _ _ (true_left _ _ found.3) in
        let names_at_found : slice_get (device_names (devices_in network)) found.0 ≡ Some e.name = slice_get-map name_of_device (devices_in network) found.0 ∙ ap (option_map name_of_device) found.2 ∙ ap Some (sym same) in
        let names_at_k : slice_get (device_names (devices_in network)) k ≡ Some e.name = slice_get-map name_of_device (devices_in network) k ∙ ap (option_map name_of_device) at in
        let place : found.0 ≡ k = devices_once found.0 k e.name names_at_found names_at_k in
        let one : found.1 ≡ e = some_is found.1 e (sym found.2 ∙ ap (slice_get (devices_in network)) place ∙ at) in
        ap (λ (x : Device). has_name x.interfaces (name_at is s)) (sym one) ∙ true_right _ _ found.3)
        ∙ told ∙ eq_turned (outer_of level.Interface level.Device network s) d

    interface_tagged : (tag : List ℕ) (s : ℕ) → s < length is
        → has_name (names_at level.Interface (within by.Tag tag network)) (name_at is s) ≡ is_tagged ds (devices_in network) tag (outer_of level.Interface level.Device network s)
    interface_tagged tag s within_s =
        ap (λ devices. has_name (interface_names devices) (name_at is s)) (some_devices (λ e. has_name e.tags tag) network)
        ∙ inside_filter (λ (e : Device). has_name e.tags tag) interfaces_of_device (devices_in network) (name_at is s)
        ∙ any_same _ _ (devices_in network) (λ k e at. ap (λ b. has_name e.tags tag && b) (lies_in_its_device e k s within_s at))

    -- the interfaces of some devices
    abbrev pub interfaces_of : List ℕ → ℕ → Bool
    interfaces_of numbers s = list_any (λ d. has_number (get_or (map (λ list. list.items) containment.inner.items) d []) s) numbers

    interfaces_of_one : (d s : ℕ) → d < length ds → has_number (get_or (map (λ list. list.items) containment.inner.items) d []) s
        ≡ (nat_lt s (length is) && has_name (names_at level.Interface (within by.Device (name_at ds d) network)) (name_at is s))
    interfaces_of_one d s below =
        let default : name_at ds d ≡ get_or ds d (name_at ds d) = sym (get_or_from_slice_get ds d (name_at ds d) (name_at ds d) (slice_get-get_or ds d [] below)) in
        ap (λ (lists : List (List ℕ)). has_number (get_or lists d []) s) are.inner
        ∙ ap (λ list. has_number list s) (sym (field_at (λ name. members_of level.Interface by.Device name network) ds d (name_at ds d) below default))
        ∙ has_number-kept (λ symbol. has_name (names_at level.Interface (within by.Device (name_at ds d) network)) (name_of level.Interface network symbol)) (length is) s

    -- the numbers of the interfaces of the devices with a tag
    pub tagged_interfaces_are : (tag : List ℕ) (numbers : List ℕ) (s : ℕ) → IsOnce ds → ((n : ℕ) → has_number numbers n ≡ is_tagged ds (devices_in network) tag n)
        → interfaces_of numbers s ≡ (nat_lt s (length is) && has_name (names_at level.Interface (within by.Tag tag network)) (name_at is s))
    tagged_interfaces_are tag numbers s once numbers_are = elim (cases_lt s (length is)) [
      | inl within_s ↦
          any_same _ (λ d. d == outer_of level.Interface level.Device network s) numbers
          (λ k d at.
          let below = number_below tag numbers once numbers_are k d at in
          interfaces_of_one d s below
          ∙ ap (λ b. b && has_name (names_at level.Interface (within by.Device (name_at ds d) network)) (name_at is s)) (lt_test s (length is) within_s)
          ∙ are.told s d within_s below ∙ eq_turned (outer_of level.Interface level.Device network s) d)
          ∙ numbers_are (outer_of level.Interface level.Device network s)
          ∙ sym (interface_tagged tag s within_s)
          ∙ ap (λ b. b && has_name (names_at level.Interface (within by.Tag tag network)) (name_at is s)) (sym (lt_test s (length is) within_s))
      | inr past ↦
          any_same _ (λ d. false) numbers
          (λ k d at.
          interfaces_of_one d s (number_below tag numbers once numbers_are k d at)
          ∙ ap (λ b. b && has_name (names_at level.Interface (within by.Device (name_at ds d) network)) (name_at is s)) (not_lt_test s (length is) past))
          ∙ any_of_none numbers
          ∙ ap (λ b. b && has_name (names_at level.Interface (within by.Tag tag network)) (name_at is s)) (sym (not_lt_test s (length is) past))
    ]
