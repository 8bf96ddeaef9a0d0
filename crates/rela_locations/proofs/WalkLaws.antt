-- The loops of the walk, from what each entry gives.
use Rattle.std.proofs.Common.{◌≡◌, ◌∙◌, ℕ, List, [], ◌∷◌, ◌++◌, map, Result, Ok, Err, sym, ap, append-nil}
use Rattle.std.specs.List.{flat_map}
use Rattle.std.proofs.lemmas.Grind.{fold-append, flat_map-append}
use Rattle.std.proofs.lemmas.List.{map-append}
use Rattle.serde_json.specs.Data.{Data}
use Rattle.rela_json.specs.Results.{◌>>=◌, try_map}
use Rattle.rela_json.specs.declared.error.LoadError.{LoadError}
use Rattle.rela_names.specs.declared.level.Level.TheVariants as level
use Rattle.rela_locations.specs.Load.{load_interface, load_interfaces, load_device, load_devices, load_group, load_groups}
use Rattle.rela_locations.specs.Names.{with_name, with_names}
use Rattle.rela_locations.specs.Network.{Device, Group, Network, devices_in, names_at}
use Rattle.rela_locations.proofs.Loops.{with_front, front_more, front_refused, front_all}

-- ---- the names that were seen

seen_more : (start seen new before more all : List (List ℕ))
    → all ≡ before ++ more → seen ≡ with_names start before → new ≡ with_names seen more → new ≡ with_names start all
seen_more start seen new before more all all_are seen_are new_are =
    new_are ∙ ap (λ names. with_names names more) seen_are ∙ sym (fold-append with_name start before more) ∙ ap (with_names start) (sym all_are)

-- one more name
pub seen_one_more : (start seen new before all : List (List ℕ)) (name : List ℕ)
    → all ≡ before ++ name ∷ [] → seen ≡ with_names start before → new ≡ with_name seen name → new ≡ with_names start all
seen_one_more start seen new before all name all_are seen_are new_are =
    seen_more start seen new before (name ∷ []) all all_are seen_are new_are

-- the name of one more entry
pub seen_entry : {A : Type 0} (name_of : A → List ℕ) (start seen new : List (List ℕ)) (front entries : List A) (entry : A)
    → entries ≡ front ++ entry ∷ [] → seen ≡ with_names start (map name_of front) → new ≡ with_name seen (name_of entry)
    → new ≡ with_names start (map name_of entries)
seen_entry {A} name_of start seen new front entries entry made =
    seen_one_more start seen new (map name_of front) (map name_of entries) (name_of entry) (ap (map name_of) made ∙ map-append name_of front (entry ∷ []))

-- the names in one more entry
pub seen_inside : {A : Type 0} (names_of : A → List (List ℕ)) (start seen new : List (List ℕ)) (front entries : List A) (entry : A)
    → entries ≡ front ++ entry ∷ [] → seen ≡ with_names start (flat_map names_of front) → new ≡ with_names seen (names_of entry)
    → new ≡ with_names start (flat_map names_of entries)
seen_inside {A} names_of start seen new front entries entry made =
    seen_more start seen new (flat_map names_of front) (names_of entry) (flat_map names_of entries)
    (ap (flat_map names_of) made ∙ flat_map-append names_of front (entry ∷ []) ∙ ap (λ names. flat_map names_of front ++ names) (append-nil (names_of entry)))

devices_more : (front groups : Network) (group : Group) → groups ≡ front ++ group ∷ [] → devices_in groups ≡ devices_in front ++ group.devices
devices_more front groups group made =
    ap devices_in made ∙ flat_map-append (λ (g : Group). g.devices) front (group ∷ []) ∙ ap (λ ds. devices_in front ++ ds) (append-nil group.devices)

-- the devices in one more group
pub seen_devices : (start seen new : List (List ℕ)) (front groups : Network) (group : Group)
    → groups ≡ front ++ group ∷ [] → seen ≡ with_names start (names_at level.Device front) → new ≡ with_names seen (map (λ device. device.name) group.devices)
    → new ≡ with_names start (names_at level.Device groups)
seen_devices start seen new front groups group made =
    let name = λ (device : Device). device.name in
    seen_more start seen new (names_at level.Device front) (map name group.devices) (names_at level.Device groups)
    (ap (map name) (devices_more front groups group made) ∙ map-append name (devices_in front) group.devices)

-- the interfaces in one more group
pub seen_interfaces : (start seen new : List (List ℕ)) (front groups : Network) (group : Group)
    → groups ≡ front ++ group ∷ [] → seen ≡ with_names start (names_at level.Interface front) → new ≡ with_names seen (flat_map (λ device. device.interfaces) group.devices)
    → new ≡ with_names start (names_at level.Interface groups)
seen_interfaces start seen new front groups group made =
    let inside = λ (device : Device). device.interfaces in
    seen_more start seen new (names_at level.Interface front) (flat_map inside group.devices) (names_at level.Interface groups)
    (ap (flat_map inside) (devices_more front groups group made) ∙ flat_map-append inside (devices_in front) group.devices)

-- ---- tags

pub tags_more : {A B E : Type 0} (load : A → Result B E) (front new : List B) (x : B) (d : A) (left rest : List A) (whole : Result (List B) E)
    → left ≡ d ∷ rest → load d ≡ Ok x → new ≡ front ++ x ∷ [] → with_front front (try_map load left) ≡ whole → with_front new (try_map load rest) ≡ whole
tags_more load front new x d left rest whole next is =
    front_more front new x (try_map load left) (try_map load rest) whole (ap (try_map load) next ∙ ap (λ r. r >>= λ y. try_map load rest >>= λ ys. Ok (y ∷ ys)) is)

pub tags_refused : {A B E : Type 0} (load : A → Result B E) (front : List B) (d : A) (left rest : List A) (whole : Result (List B) E) (e : E)
    → left ≡ d ∷ rest → load d ≡ Err e → with_front front (try_map load left) ≡ whole → whole ≡ Err e
tags_refused load front d left rest whole e next is =
    front_refused front (try_map load left) whole e (ap (try_map load) next ∙ ap (λ r. r >>= λ y. try_map load rest >>= λ ys. Ok (y ∷ ys)) is)

pub tags_all : {A B E : Type 0} (load : A → Result B E) (front : List B) (left : List A) (whole : Result (List B) E)
    → left ≡ [] → with_front front (try_map load left) ≡ whole → whole ≡ Ok front
tags_all load front left whole none = front_all front (try_map load left) whole (ap (try_map load) none)

-- ---- interfaces

pub interfaces_more : (seen seen_then : List (List ℕ)) (front new : List (List ℕ)) (name : List ℕ) (d : Data) (left rest : List Data) (whole : Result (List (List ℕ)) LoadError)
    → left ≡ d ∷ rest → load_interface seen d ≡ Ok name → seen_then ≡ with_name seen name → new ≡ front ++ name ∷ []
    → with_front front (load_interfaces seen left) ≡ whole → with_front new (load_interfaces seen_then rest) ≡ whole
interfaces_more seen seen_then front new name d left rest whole next is seen_is =
    front_more front new name (load_interfaces seen left) (load_interfaces seen_then rest) whole
    (ap (load_interfaces seen) next ∙ ap (λ r. r >>= λ n. load_interfaces (with_name seen n) rest >>= λ names. Ok (n ∷ names)) is
    ∙ ap (λ s. load_interfaces s rest >>= λ names. Ok (name ∷ names)) (sym seen_is))

pub interfaces_refused : (seen front : List (List ℕ)) (d : Data) (left rest : List Data) (whole : Result (List (List ℕ)) LoadError) (e : LoadError)
    → left ≡ d ∷ rest → load_interface seen d ≡ Err e → with_front front (load_interfaces seen left) ≡ whole → whole ≡ Err e
interfaces_refused seen front d left rest whole e next is =
    front_refused front (load_interfaces seen left) whole e
    (ap (load_interfaces seen) next ∙ ap (λ r. r >>= λ n. load_interfaces (with_name seen n) rest >>= λ names. Ok (n ∷ names)) is)

pub interfaces_all : (seen front : List (List ℕ)) (left : List Data) (whole : Result (List (List ℕ)) LoadError)
    → left ≡ [] → with_front front (load_interfaces seen left) ≡ whole → whole ≡ Ok front
interfaces_all seen front left whole none = front_all front (load_interfaces seen left) whole (ap (load_interfaces seen) none)

-- ---- devices

after_device : List (List ℕ) → List (List ℕ) → List Data → Device → Result (List Device) LoadError
after_device seen interfaces rest device =
    load_devices (with_name seen device.name) (with_names interfaces device.interfaces) rest >>= λ devices. Ok (device ∷ devices)

pub devices_next : (seen seen_then interfaces interfaces_then : List (List ℕ)) (front new : List Device) (device : Device) (d : Data) (left rest : List Data) (whole : Result (List Device) LoadError)
    → left ≡ d ∷ rest → load_device seen interfaces d ≡ Ok device → seen_then ≡ with_name seen device.name → interfaces_then ≡ with_names interfaces device.interfaces
    → new ≡ front ++ device ∷ [] → with_front front (load_devices seen interfaces left) ≡ whole → with_front new (load_devices seen_then interfaces_then rest) ≡ whole
unfolding after_device
devices_next seen seen_then interfaces interfaces_then front new device d left rest whole next is seen_is interfaces_are =
    front_more front new device (load_devices seen interfaces left) (load_devices seen_then interfaces_then rest) whole
    (ap (load_devices seen interfaces) next ∙ ap (λ r. r >>= after_device seen interfaces rest) is
    ∙ sym (ap (λ s. load_devices s interfaces_then rest >>= λ devices. Ok (device ∷ devices)) seen_is
    ∙ ap (λ s. load_devices (with_name seen device.name) s rest >>= λ devices. Ok (device ∷ devices)) interfaces_are))

pub devices_refused : (seen interfaces : List (List ℕ)) (front : List Device) (d : Data) (left rest : List Data) (whole : Result (List Device) LoadError) (e : LoadError)
    → left ≡ d ∷ rest → load_device seen interfaces d ≡ Err e → with_front front (load_devices seen interfaces left) ≡ whole → whole ≡ Err e
unfolding after_device
devices_refused seen interfaces front d left rest whole e next is =
    front_refused front (load_devices seen interfaces left) whole e
    (ap (load_devices seen interfaces) next ∙ ap (λ r. r >>= after_device seen interfaces rest) is)

pub devices_all : (seen interfaces : List (List ℕ)) (front : List Device) (left : List Data) (whole : Result (List Device) LoadError)
    → left ≡ [] → with_front front (load_devices seen interfaces left) ≡ whole → whole ≡ Ok front
devices_all seen interfaces front left whole none = front_all front (load_devices seen interfaces left) whole (ap (load_devices seen interfaces) none)

-- ---- groups

after_group : List (List ℕ) → List (List ℕ) → List (List ℕ) → List Data → Group → Result Network LoadError
after_group seen devices interfaces rest group =
    load_groups (with_name seen group.name) (with_names devices (map (λ device. device.name) group.devices)) (with_names interfaces (flat_map (λ device. device.interfaces) group.devices)) rest
    >>= λ groups. Ok (group ∷ groups)

pub groups_next : (seen seen_then devices devices_then interfaces interfaces_then : List (List ℕ)) (front new : Network) (group : Group) (d : Data) (left rest : List Data) (whole : Result Network LoadError)
    → left ≡ d ∷ rest → load_group seen devices interfaces d ≡ Ok group → seen_then ≡ with_name seen group.name
    → devices_then ≡ with_names devices (map (λ device. device.name) group.devices) → interfaces_then ≡ with_names interfaces (flat_map (λ device. device.interfaces) group.devices)
    → new ≡ front ++ group ∷ [] → with_front front (load_groups seen devices interfaces left) ≡ whole → with_front new (load_groups seen_then devices_then interfaces_then rest) ≡ whole
unfolding after_group
groups_next seen seen_then devices devices_then interfaces interfaces_then front new group d left rest whole next is seen_is devices_are interfaces_are =
    front_more front new group (load_groups seen devices interfaces left) (load_groups seen_then devices_then interfaces_then rest) whole
    (ap (load_groups seen devices interfaces) next ∙ ap (λ r. r >>= after_group seen devices interfaces rest) is
    ∙ sym (ap (λ s. load_groups s devices_then interfaces_then rest >>= λ groups. Ok (group ∷ groups)) seen_is
    ∙ ap (λ s. load_groups (with_name seen group.name) s interfaces_then rest >>= λ groups. Ok (group ∷ groups)) devices_are
    ∙ ap (λ s. load_groups (with_name seen group.name) (with_names devices (map (λ device. device.name) group.devices)) s rest >>= λ groups. Ok (group ∷ groups)) interfaces_are))

pub groups_refused : (seen devices interfaces : List (List ℕ)) (front : Network) (d : Data) (left rest : List Data) (whole : Result Network LoadError) (e : LoadError)
    → left ≡ d ∷ rest → load_group seen devices interfaces d ≡ Err e → with_front front (load_groups seen devices interfaces left) ≡ whole → whole ≡ Err e
unfolding after_group
groups_refused seen devices interfaces front d left rest whole e next is =
    front_refused front (load_groups seen devices interfaces left) whole e
    (ap (load_groups seen devices interfaces) next ∙ ap (λ r. r >>= after_group seen devices interfaces rest) is)

pub groups_all : (seen devices interfaces : List (List ℕ)) (front : Network) (left : List Data) (whole : Result Network LoadError)
    → left ≡ [] → with_front front (load_groups seen devices interfaces left) ≡ whole → whole ≡ Ok front
groups_all seen devices interfaces front left whole none = front_all front (load_groups seen devices interfaces left) whole (ap (load_groups seen devices interfaces) none)
