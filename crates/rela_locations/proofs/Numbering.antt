-- Loops that number what they go over, so that each number tells what it was made for.
use Rattle.std.proofs.Common.{◌≡◌, ◌∙◌, ℕ, ◌+◌, ◌<◌, ◌≤◌, true, List, [], ◌∷◌, ◌++◌, length, get_or, take, map, ap, sym}
use Rattle.std.proofs.lemmas.List.{map-append, take_all, take_more}
use Rattle.std.proofs.lemmas.Option.{get_or_from_slice_get}
use Rattle.rela_locations.specs.Names.{has_name}
use Rattle.rela_locations.specs.Network.{Device, Group}
use Rattle.rela_locations.specs.Numbered.{named}
use Rattle.rela_locations.specs.Tables.{index_of}
use Rattle.rela_locations.proofs.Indexes.{index_of_known}

-- one more tells what stands at place k
pub mapped_more : {X Y : Type 0} (f : X → Y) (ys : List Y) (k : ℕ) (y : Y) (xs new : List X) (x : X) → k < length ys → y ≡ get_or ys k y
    → map f xs ≡ take k ys → new ≡ xs ++ x ∷ [] → f x ≡ y → map f new ≡ take (k + 1) ys
mapped_more f ys k y xs new x within is so_far made told =
    ap (map f) made ∙ map-append f xs (x ∷ []) ∙ ap (λ zs. zs ++ f x ∷ []) so_far
    ∙ ap (λ z. take k ys ++ z ∷ []) (told ∙ is) ∙ sym (take_more ys k y within)

pub mapped_all : {X Y : Type 0} (f : X → Y) (ys : List Y) (k : ℕ) (xs : List X) → length ys ≤ k → map f xs ≡ take k ys → map f xs ≡ ys
mapped_all f ys k xs past so_far = so_far ∙ take_all k ys past

-- the number of a name tells it
pub named_at : (names : List (List ℕ)) (name : List ℕ) → has_name names name ≡ true → named names (index_of names name) ≡ name
named_at names name known = get_or_from_slice_get names (index_of names name) name [] (index_of_known names name known)

abbrev device : List ℕ → List (List ℕ) → List (List ℕ) → Device
device name tags interfaces = record { name = name; tags = tags; interfaces = interfaces }

pub same_device : (d e : Device) → d.name ≡ e.name → d.tags ≡ e.tags → d.interfaces ≡ e.interfaces → d ≡ e
same_device d e name tags interfaces =
    ap (λ (n : List ℕ). device n d.tags d.interfaces) name ∙ ap (λ (ts : List (List ℕ)). device e.name ts d.interfaces) tags
    ∙ ap (λ (ns : List (List ℕ)). device e.name e.tags ns) interfaces

abbrev group : List ℕ → List Device → Group
group name devices = record { name = name; devices = devices }

pub same_group : (g h : Group) → g.name ≡ h.name → g.devices ≡ h.devices → g ≡ h
same_group g h name devices = ap (λ (n : List ℕ). group n g.devices) name ∙ ap (λ (ds : List Device). group h.name ds) devices
