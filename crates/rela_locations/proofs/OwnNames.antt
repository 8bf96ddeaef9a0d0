-- What lies in a location of its own level: itself.
use Rattle.std.proofs.Common.{zero, suc, ◌≡◌, ℕ, ◌+◌, ◌<◌, ◌≤◌, Bool, true, false, cond, ◌&&◌, ◌||◌, ◌==◌, List, [], ◌∷◌, ◌++◌, length, Some, slice_get, map, filter, refl, ap, sym, ◌∙◌, arith, inl, inr}
use Rattle.std.specs.List.{position_or_len, range_with_len}
use Rattle.std.specs.Str.{bytes_eq}
use Rattle.std.proofs.lemmas.Bool.{eq-eqb, false_from_ne_true, cases_lt}
use Rattle.std.proofs.lemmas.List.{map-append}
use Rattle.std.proofs.lemmas.List.Elements.{filter-append}
use Rattle.std.proofs.lemmas.Option.{slice_get-get_or, slice_get_within, get_or_from_slice_get}
use Rattle.rela_names.specs.declared.level.Level.{Level}
use Rattle.rela_names.specs.declared.level.Level.TheVariants as level
use Rattle.rela_locations.specs.Names.{has_name}
use Rattle.rela_locations.specs.Network.{Device, Network, devices_in, with_devices, with_interfaces, within, names_at, alphabet_of, by_level, members_of}
use Rattle.rela_locations.specs.Tables.{index_of, interface_names, device_names, IsOnce}
use Rattle.rela_locations.proofs.Bools.{same_test, and_false}
use Rattle.rela_locations.proofs.Indexes.{known_at, index_of_known}
use Rattle.rela_locations.proofs.Lookups.{place_told, same_below}
use Rattle.rela_locations.proofs.NameSets.{same_name, name_is_itself, has_name-ascending}
use Rattle.rela_locations.proofs.Parents.{name_at, equal_numbers}
use Rattle.rela_locations.proofs.Relations.{name_of_device, name_of_group, some_devices}

-- of what has a name, what has this one
module _ {X : Type 0} (key : X → List ℕ) where
  one_more : (x : X) (xs : List X) (name n : List ℕ) (b : Bool) → bytes_eq name (key x) ≡ b
      → has_name (map key (filter (λ y. bytes_eq name (key y)) xs)) n ≡ (has_name (map key xs) n && bytes_eq name n)
      → has_name (map key (cond b (x ∷ filter (λ y. bytes_eq name (key y)) xs) (filter (λ y. bytes_eq name (key y)) xs))) n ≡ ((bytes_eq n (key x) || has_name (map key xs) n) && bytes_eq name n)
  one_more x xs name n true is later =
      let same : name ≡ key x = same_name name (key x) is in
      ap (λ b. bytes_eq n (key x) || b) later ∙ turned (bytes_eq n (key x)) refl
    where
      turned : (t : Bool) → bytes_eq n (key x) ≡ t → (t || (has_name (map key xs) n && bytes_eq name n)) ≡ ((t || has_name (map key xs) n) && bytes_eq name n)
      turned true here = let n_is : n ≡ key x = same_name n (key x) here in sym (rw (n_is, ← same_name name (key x) is) (name_is_itself name))
      turned false here = refl
  one_more x xs name n false is later = later ∙ turned (bytes_eq n (key x)) refl
    where
      turned : (t : Bool) → bytes_eq n (key x) ≡ t → (has_name (map key xs) n && bytes_eq name n) ≡ ((t || has_name (map key xs) n) && bytes_eq name n)
      turned true here =
          let n_is : n ≡ key x = same_name n (key x) here in
          let apart : bytes_eq name n ≡ false = rw n_is is in
          rw apart (and_false (has_name (map key xs) n))
      turned false here = refl

  pub named_alone : (xs : List X) (name n : List ℕ) → has_name (map key (filter (λ y. bytes_eq name (key y)) xs)) n ≡ (has_name (map key xs) n && bytes_eq name n)
  named_alone [] name n = refl
  named_alone (x ∷ xs) name n = one_more x xs name n (bytes_eq name (key x)) refl (named_alone xs name n)

map_itself : (names : List (List ℕ)) → map (λ n. n) names ≡ names
map_itself [] = refl
map_itself (n ∷ names) = ap (λ ns. n ∷ ns) (map_itself names)

-- the interfaces of a part of the network that has some interfaces of each device
some_interfaces : (some : List (List ℕ) → List (List ℕ)) (devices : List Device) → ((xs ys : List (List ℕ)) → some (xs ++ ys) ≡ some xs ++ some ys) → some [] ≡ []
    → interface_names (map (with_interfaces some) devices) ≡ some (interface_names devices)
some_interfaces some [] splits none = sym none
some_interfaces some (device ∷ devices) splits none =
    ap (λ names. some device.interfaces ++ names) (some_interfaces some devices splits none) ∙ sym (splits device.interfaces (interface_names devices))

all_devices : (f : Device → Device) (network : Network) → devices_in (with_devices (map f) network) ≡ map f (devices_in network)
all_devices f [] = refl
all_devices f (group ∷ network) =
    ap (λ ds. map f group.devices ++ ds) (all_devices f network) ∙ sym (map-append f group.devices (devices_in network))

-- what lies in a location of a level at that level: the location itself
pub lies_in_itself : (at : Level) (network : Network) (n name : List ℕ) → has_name (names_at at (within (by_level at) name network)) n ≡ (has_name (names_at at network) n && bytes_eq name n)
lies_in_itself level.Interface network n name =
    ap (λ ds. has_name (interface_names ds) n) (all_devices (with_interfaces (filter (bytes_eq name))) network)
    ∙ ap (λ names. has_name names n) (some_interfaces (filter (bytes_eq name)) (devices_in network) (filter-append (bytes_eq name)) refl)
    ∙ ap (λ names. has_name names n) (sym (map_itself (filter (bytes_eq name) (interface_names (devices_in network)))))
    ∙ named_alone (λ m. m) (interface_names (devices_in network)) name n
    ∙ ap (λ names. has_name names n && bytes_eq name n) (map_itself (interface_names (devices_in network)))
lies_in_itself level.Device network n name =
    ap (λ ds. has_name (device_names ds) n) (some_devices (λ d. bytes_eq name d.name) network) ∙ named_alone name_of_device (devices_in network) name n
lies_in_itself level.Group network n name = named_alone name_of_group network name n

-- of two locations of a level one lies in the other where they are one
own_tells : (at : Level) (network : Network) (s k : ℕ) → IsOnce (alphabet_of at network) → s < length (alphabet_of at network) → k < length (alphabet_of at network)
    → has_name (names_at at (within (by_level at) (name_at (alphabet_of at network) k) network)) (name_at (alphabet_of at network) s) ≡ (s == k)
own_tells at network s k once s_within k_within =
    let names : List (List ℕ) = alphabet_of at network in
    let s_at : slice_get names s ≡ Some (name_at names s) = slice_get-get_or names s [] s_within in
    let k_at : slice_get names k ≡ Some (name_at names k) = slice_get-get_or names k [] k_within in
    let known : has_name (names_at at network) (name_at names s) ≡ true = sym (has_name-ascending (names_at at network) (name_at names s)) ∙ known_at names (name_at names s) s s_at in
    lies_in_itself at network (name_at names s) (name_at names k)
    ∙ ap (λ b. b && bytes_eq (name_at names k) (name_at names s)) known
    ∙ same_test (bytes_eq (name_at names k) (name_at names s)) (s == k)
    (λ same. eq-eqb s k (once s k (name_at names s) s_at (k_at ∙ ap Some (same_name (name_at names k) (name_at names s) same))))
    (λ same. let is : s ≡ k = equal_numbers s k same in rw is (name_is_itself (name_at names k)))

pub own_location : (at : Level) (network : Network) (s : ℕ) → IsOnce (alphabet_of at network) → s < length (alphabet_of at network)
    → position_or_len (λ place. has_name (names_at at (within (by_level at) place network)) (name_at (alphabet_of at network) s)) (alphabet_of at network) ≡ s
own_location at network s once within_s =
    place_told (λ place. has_name (names_at at (within (by_level at) place network)) (name_at (alphabet_of at network) s)) (alphabet_of at network) s within_s
    (λ k within_k. own_tells at network s k once within_s within_k)

-- one number of a range
none_below : (t a n : ℕ) → t < a → filter (λ s. s == t) (range_with_len a n) ≡ []
none_below t a zero below = refl
none_below t a (suc n) below =
    let apart : (a == t) ≡ false = false_from_ne_true (a == t) (λ same. let e = equal_numbers a t same in omega arith) in
    rw (apart, none_below t (a + 1) n (omega arith)) refl

one_number : (t a n : ℕ) → a ≤ t → t < a + n → filter (λ s. s == t) (range_with_len a n) ≡ t ∷ []
one_number t a zero low high = absurd (omega arith)
one_number t a (suc n) low high = here_or_later (a == t) refl
    (λ apart. one_number t (a + 1) n (later apart) (omega arith))
  where
    later : (a == t) ≡ false → a + 1 ≤ t
    later apart = elim (cases_lt a t) [
      | inl below ↦ omega arith
      | inr above ↦ let same : a ≡ t = omega arith in let yes = eq-eqb a t same in cc
    ]

    here_or_later : (b : Bool) → (a == t) ≡ b → ((a == t) ≡ false → filter (λ s. s == t) (range_with_len (a + 1) n) ≡ t ∷ [])
        → cond b (a ∷ filter (λ s. s == t) (range_with_len (a + 1) n)) (filter (λ s. s == t) (range_with_len (a + 1) n)) ≡ t ∷ []
    here_or_later true is rest = let same : a ≡ t = equal_numbers a t is in rw (same, none_below t (t + 1) n (omega arith)) refl
    here_or_later false is rest = rest is

pub own_members : (at : Level) (network : Network) (name : List ℕ) → IsOnce (alphabet_of at network) → has_name (alphabet_of at network) name ≡ true
    → members_of at (by_level at) name network ≡ index_of (alphabet_of at network) name ∷ []
own_members at network name once known =
    let names : List (List ℕ) = alphabet_of at network in
    let t : ℕ = index_of names name in
    let t_at : slice_get names t ≡ Some name = index_of_known names name known in
    let within_t : t < length names = slice_get_within names t name t_at in
    let name_is : name_at names t ≡ name = get_or_from_slice_get names t name [] t_at in
    same_below _ (λ s. s == t) (length names)
    (λ s within_s. ap (λ n. has_name (names_at at (within (by_level at) n network)) (name_at names s)) (sym name_is) ∙ own_tells at network s t once within_s within_t)
    ∙ one_number t 0 (length names) (omega arith) (omega arith)
