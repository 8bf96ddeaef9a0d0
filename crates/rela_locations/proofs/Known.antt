-- What stands in a list is among its names.
use Rattle.std.proofs.Common.{zero, suc, ◌≡◌, ℕ, ◌<◌, Bool, true, ◌||◌, List, [], ◌∷◌, ◌++◌, length, get_or, take, ◌+◌, append_assoc, map, refl, ap, sym, ◌∙◌, arith}
use Rattle.std.specs.List.{list_any, flat_map}
use Rattle.std.specs.Str.{bytes_eq}
use Rattle.std.proofs.lemmas.List.Folds.{list_any-append}
use Rattle.std.proofs.lemmas.List.{map-append, append-nil, take_more}
use Rattle.std.proofs.lemmas.Grind.{flat_map-append}
use Rattle.rela_locations.specs.Names.{has_name}
use Rattle.rela_locations.specs.Network.{Network, devices_in}
use Rattle.rela_locations.specs.Tables.{device_names, interface_names}
use Rattle.rela_locations.proofs.Bools.{or_true, or_false}
use Rattle.rela_locations.proofs.NameSets.{name_is_itself}

-- a field of what stands at place k
pub known_field : {X : Type 0} (f : X → List ℕ) (xs : List X) (k : ℕ) (x : X) → k < length xs → x ≡ get_or xs k x → has_name (map f xs) (f x) ≡ true
known_field f [] k x within is = absurd (omega arith)
known_field f (y ∷ xs) zero x within is = let same : f x ≡ f y = ap f is in rw (same, name_is_itself (f y)) refl
known_field f (y ∷ xs) (suc k) x within is = rw (known_field f xs k x (omega arith) is) (or_true (bytes_eq (f x) (f y)))

pub known_item : (names : List (List ℕ)) (k : ℕ) (n : List ℕ) → k < length names → n ≡ get_or names k n → has_name names n ≡ true
known_item [] k n within is = absurd (omega arith)
known_item (y ∷ names) zero n within is = rw (is, name_is_itself y) refl
known_item (y ∷ names) (suc k) n within is = rw (known_item names k n (omega arith) is) (or_true (bytes_eq n y))

-- the names inside what stands at place k
pub known_inside : {X : Type 0} (f : X → List (List ℕ)) (xs : List X) (k : ℕ) (x : X) → k < length xs → x ≡ get_or xs k x
    → (n : List ℕ) → has_name (f x) n ≡ true → has_name (flat_map f xs) n ≡ true
known_inside f [] k x within is n has = absurd (omega arith)
known_inside f (y ∷ xs) zero x within is n has =
    let same : f x ≡ f y = ap f is in
    list_any-append (bytes_eq n) (f y) (flat_map f xs) ∙ ap (λ b. b || has_name (flat_map f xs) n) (ap (λ names. has_name names n) (sym same) ∙ has)
known_inside f (y ∷ xs) (suc k) x within is n has =
    list_any-append (bytes_eq n) (f y) (flat_map f xs) ∙ ap (λ b. has_name (f y) n || b) (known_inside f xs k x (omega arith) is n has) ∙ or_true (has_name (f y) n)

-- the names of all devices, group by group
pub device_names_by_group : (network : Network) → device_names (devices_in network) ≡ flat_map (λ group. device_names group.devices) network
device_names_by_group [] = refl
device_names_by_group (group ∷ network) =
    map-append _ group.devices (devices_in network) ∙ ap (λ names. device_names group.devices ++ names) (device_names_by_group network)

pub interface_names_by_group : (network : Network) → interface_names (devices_in network) ≡ flat_map (λ group. interface_names group.devices) network
interface_names_by_group [] = refl
interface_names_by_group (group ∷ network) =
    flat_map-append _ group.devices (devices_in network) ∙ ap (λ names. interface_names group.devices ++ names) (interface_names_by_group network)

-- one more of a list
pub flat_map_more : {X A : Type 0} (f : X → List A) (xs : List X) (k : ℕ) (x : X) → k < length xs → x ≡ get_or xs k x
    → flat_map f (take (k + 1) xs) ≡ flat_map f (take k xs) ++ f x
flat_map_more f xs k x within is =
    let front : take (k + 1) xs ≡ take k xs ++ x ∷ [] = rw (take_more xs k x within) (ap (λ y. take k xs ++ y ∷ []) (sym is)) in
    ap (flat_map f) front ∙ flat_map-append f (take k xs) (x ∷ []) ∙ ap (λ ys. flat_map f (take k xs) ++ ys) (append-nil (f x))

-- what a loop has made, and then what is added
pub added_more : {X A : Type 0} (f : X → List A) (xs : List X) (k : ℕ) (x : X) (old before new : List A) → k < length xs → x ≡ get_or xs k x
    → before ≡ old ++ flat_map f (take k xs) → new ≡ before ++ f x → new ≡ old ++ flat_map f (take (k + 1) xs)
added_more f xs k x old before new within is made added =
    added ∙ ap (λ ys. ys ++ f x) made ∙ append_assoc old (flat_map f (take k xs)) (f x) ∙ ap (λ ys. old ++ ys) (sym (flat_map_more f xs k x within is))

-- a test of one more
pub any_more : {X : Type 0} (p : X → Bool) (xs : List X) (k : ℕ) (x : X) → k < length xs → x ≡ get_or xs k x
    → list_any p (take (k + 1) xs) ≡ (list_any p (take k xs) || p x)
any_more p xs k x within is =
    let front : take (k + 1) xs ≡ take k xs ++ x ∷ [] = rw (take_more xs k x within) (ap (λ y. take k xs ++ y ∷ []) (sym is)) in
    ap (list_any p) front ∙ list_any-append p (take k xs) (x ∷ []) ∙ ap (λ b. list_any p (take k xs) || b) (or_false (p x))
