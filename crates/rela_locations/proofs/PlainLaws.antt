-- What the walk of a file makes of what is written plainly.
use Rattle.std.proofs.Common.{◌≡◌, ◌∙◌, refl, sym, ap, subst, ℕ, ◌+◌, ◌<◌, ◌≤◌, Bool, cond, List, [], ◌∷◌, ◌++◌, append-nil, append_assoc, drop, get_or, length, map, Option, Some, None, option_map, Result, Ok, Err, codes, suc, zero, Bor, arith}
use Rattle.std.specs.Prelude.{IfOk}
use Rattle.std.specs.List.{flat_map}
use Rattle.std.specs.Str.{IsUtf8}
use Rattle.std.proofs.lemmas.List.{drop_more}
use Rattle.std.proofs.lemmas.Str.{is_utf8-from_IsUtf8}
use Rattle.json.specs.Json.{after_end_array, read_key}
use Rattle.json.specs.Lex.{tokens}
use Rattle.json.specs.Token.{Token, begin_array, begin_object, key}
use Rattle.serde_json.specs.Data.{Data, no_members, string}
use Rattle.serde_json.specs.Find.{get_member}
use Rattle.serde_json.specs.Read.{read}
use Rattle.serde_json.specs.View.{items_of}
use Rattle.rela_json.specs.declared.error.LoadError.{LoadError}
use Rattle.rela_json.specs.declared.error.LoadError.TheVariants.{NotJson}
use Rattle.rela_json.specs.Parts.{list_of as entries_in, member_of}
use Rattle.rela_json.specs.Reading.{reading}
use Rattle.rela_json.specs.Results.{◌>>=◌, ok_or, try_map}
use Rattle.rela_tokens.specs.Holds.{Holds, HoldsAll, HoldsMembers}
use Rattle.rela_tokens.specs.Objects.{object_of, puts}
use Rattle.rela_tokens.specs.Pieces.{data_of, list, text, whole}
use Rattle.rela_tokens.specs.Pieces.{member_of as named_data}
use Rattle.rela_tokens.specs.declared.piece.Member.{Member}
use Rattle.rela_tokens.specs.declared.piece.Piece.{Piece}
use Rattle.rela_locations.specs.Load.{Load, part, load_device, load_devices, load_file, load_group, load_groups, load_interface, load_interfaces, load_tag}
use Rattle.rela_locations.specs.Names.{new_name, next_row, with_name, with_names}
use Rattle.rela_locations.specs.Network.{Device, Group, Network}
use Rattle.rela_locations.specs.Plain.{ArePlainDevices, ArePlainGroups, IsPlainDevice, IsPlainGroup, Opens, OpensGroup, entry_of, tags_of}
use Rattle.rela_locations.proofs.LoadLaws.{bind_ok}
use Rattle.rela_locations.proofs.Loops.{with_front}
use Rattle.rela_locations.proofs.WalkLaws.{devices_all, devices_next, groups_all, groups_next}

-- the laws of values that are held

abbrev ArrayLaw : Type 0
ArrayLaw = (k : ℕ) (old mid new : List Token) (ds : List Data) → HoldsAll k old ds mid → after_end_array mid ≡ Some new → Holds (k + 1) (begin_array ∷ old) (list ds) new

abbrev ObjectLaw : Type 0
ObjectLaw = (k : ℕ) (old mid new : List Token) (ms : List (List ℕ × Data)) → HoldsMembers k old ms mid → read_key mid ≡ Some (None, new) → Holds (k + 1) (begin_object ∷ old) (object_of ms) new

abbrev TextLaw : Type 0
TextLaw = (k : ℕ) (bytes : List ℕ) (d : Data) → k ≤ 127 → Holds k (tokens bytes) d [] → read bytes ≡ Some d

abbrev DeeperLaw : Type 0
DeeperLaw = (k l : ℕ) (old new : List Token) (d : Data) → k ≤ l → Holds k old d new → Holds l old d new

abbrev OneMoreLaw : Type 0
OneMoreLaw = (k : ℕ) (old mid new : List Token) (ds : List Data) (d : Data) → HoldsAll k old ds mid → Holds k mid d new → HoldsAll k old (ds ++ d ∷ []) new

-- ---- what a look-up among the members shows

pub found_is : (name : List ℕ) (ms : List Member) (o : Option (Bor Piece)) (piece : Bor Piece) (x : Data) → option_map (λ (p : Bor Piece). data_of p.now) o ≡ get_member name (puts (map named_data ms) no_members)
    → o ≡ Some piece → data_of piece.now ≡ x → member_of name (entry_of ms) ≡ Some (Some x)
found_is name ms o piece x found some is = ap (λ (r : Option Data). Some r) (sym found ∙ ap (option_map (λ (p : Bor Piece). data_of p.now)) some ∙ ap (λ (y : Data). Some y) is)

entries_are : (ds : List Data) → entries_in (items_of ds) ≡ ds
entries_are [] = refl
entries_are (d ∷ ds) = ap (λ (es : List Data). d ∷ es) (entries_are ds)

-- ---- a device

pub tags_listed : (d : Data) (texts : List (Bor (List ℕ))) (tags : List (List ℕ)) → member_of (codes "tags") d ≡ Some (Some (list (map text texts))) → ((row : ℕ) → try_map (load_tag row) (map text texts) ≡ Ok tags)
    → (row : ℕ) → tags_of row d ≡ Ok tags
tags_listed d texts tags has are row = rw has (ap (try_map (load_tag row)) (entries_are (map text texts)) ∙ are row)

same_at : {X : Type 0} (xs : List X) (k : ℕ) (a b : X) → k < length xs → get_or xs k a ≡ get_or xs k b
same_at [] k a b lt = absurd (omega arith)
same_at (x ∷ xs) zero a b lt = refl
same_at (x ∷ xs) (suc k) a b lt = same_at xs k a b (omega arith)

first_of : {X : Type 0} (xs : List X) → 0 < length xs → X
first_of [] some = absurd (omega arith)
first_of (x ∷ xs) some = x

-- what stands at a place, whatever else would
pub at_place : {X : Type 0} (xs : List X) (i : ℕ) → i < length xs → (x : X) × (drop i xs ≡ x ∷ drop (i + 1) xs) × ((d : X) → get_or xs i d ≡ x)
at_place xs i lt = let d = first_of xs (omega arith) in (get_or xs i d, drop_more xs i d lt, λ e. same_at xs i e d lt)

pub interface_read : (earlier : List (List ℕ)) (one other : Bor (List ℕ)) (name : List ℕ) → other ≡ one → next_row earlier ≡ Ok (length earlier) → new_name earlier (length earlier) other.now ≡ Ok name → load_interface earlier (text one) ≡ Ok name
interface_read earlier one other name same row is = rw (row, sym same) is

pub tag_read : (row : ℕ) (one other : Bor (List ℕ)) (tag : List ℕ) → other ≡ one → load_tag row (text other) ≡ Ok tag → load_tag row (text one) ≡ Ok tag
tag_read row one other tag same is = subst (λ (t : Bor (List ℕ)). load_tag row (text t) ≡ Ok tag) same is

pub device_read : (earlier interfaces : List (List ℕ)) (d : Data) (bytes name : List ℕ) (tags names : List (List ℕ)) (ds : List Data)
    → next_row earlier ≡ Ok (length earlier) → member_of (codes "name") d ≡ Some (Some (string bytes)) → new_name earlier (length earlier) bytes ≡ Ok name → ((row : ℕ) → tags_of row d ≡ Ok tags)
    → member_of (codes "interfaces") d ≡ Some (Some (list ds)) → load_interfaces interfaces ds ≡ Ok names → load_device earlier interfaces d ≡ Ok (record { name = name; tags = tags; interfaces = names })
device_read earlier interfaces d bytes name tags names ds row has_name is tags_are has_interfaces are =
    let tags_part = bind_ok (part 7 (length earlier) (codes "tags") d) _ tags (tags_are (length earlier)) in
    let made : Result (List (List ℕ)) LoadError → Result Device LoadError = λ r. r >>= λ names. Ok (record { name = name; tags = tags; interfaces = names }) in
    rw (row, has_name, tags_part.1, has_interfaces, is, tags_part.2) (ap (λ es. made (load_interfaces interfaces es)) (entries_are ds) ∙ ap made are)

pub device_kept : {E : Type 0} (earlier interfaces : List (List ℕ)) (old new : List Token) (items now : List Member) (r : Result Device E) → now ≡ items → Holds 3 old (entry_of items) new
    → IfOk r (λ device. load_device earlier interfaces (entry_of now) ≡ Ok device) → IfOk r (λ device. IsPlainDevice earlier interfaces old device new)
device_kept earlier interfaces old new items now (Ok device) same held is = record {
  entry = entry_of items;
  held = held;
  loaded = subst (λ (ms : List Member). load_device earlier interfaces (entry_of ms) ≡ Ok device) same is;
}
device_kept earlier interfaces old new items now (Err e) same held is = tt

-- ---- the devices of a group

-- `old` begins with the entries of these devices, `new` follows them, and whatever entries come next, they leave those to be read
pub record DevicesSoFar (earlier interfaces : List (List ℕ)) (old : List Token) (devices : List Device) (seen seen_interfaces : List (List ℕ)) (new : List Token) : Type 0 where
  pub entries : List Data
  pub held : HoldsAll 3 old entries new
  pub read : (rest : List Data) → with_front devices (load_devices seen seen_interfaces rest) ≡ load_devices earlier interfaces (entries ++ rest)

nothing_before : {A E : Type 0} (r : Result (List A) E) → with_front [] r ≡ r
nothing_before (Ok xs) = refl
nothing_before (Err e) = refl

pub no_device : (earlier interfaces : List (List ℕ)) (old : List Token) (devices : List Device) → devices ≡ [] → DevicesSoFar earlier interfaces old devices earlier interfaces old
no_device earlier interfaces old devices none = rw none (record { entries = []; held = refl; read = λ rest. nothing_before (load_devices earlier interfaces rest) })

pub next_device : (earlier interfaces : List (List ℕ)) (old mid place new : List Token) (seen seen_then inside inside_then : List (List ℕ)) (devices more : List Device) (device : Device) → OneMoreLaw → place ≡ mid
    → seen_then ≡ with_name seen device.name → inside_then ≡ with_names inside device.interfaces → more ≡ devices ++ device ∷ []
    → DevicesSoFar earlier interfaces old devices seen inside mid → IsPlainDevice seen inside place device new → DevicesSoFar earlier interfaces old more seen_then inside_then new
next_device earlier interfaces old mid place new seen seen_then inside inside_then devices more device one_more here seen_is inside_is is so_far one =
    let d : Data = one.entry in
    let held : Holds 3 mid d new = subst (λ (ts : List Token). Holds 3 ts d new) here one.held in
    record {
      entries = so_far.entries ++ d ∷ [];
      held = one_more 3 old mid new so_far.entries d so_far.held held;
      read = λ rest. subst (λ (all : List Data). with_front more (load_devices seen_then inside_then rest) ≡ load_devices earlier interfaces all) (sym (append_assoc so_far.entries (d ∷ []) rest))
          (devices_next seen seen_then inside inside_then devices more device d (d ∷ rest) rest (load_devices earlier interfaces (so_far.entries ++ d ∷ rest)) refl one.loaded seen_is inside_is is (so_far.read (d ∷ rest)));
    }

pub all_plain_devices : (earlier interfaces : List (List ℕ)) (old last new : List Token) (devices : List Device) (seen inside : List (List ℕ)) → ArrayLaw → DevicesSoFar earlier interfaces old devices seen inside last → after_end_array last ≡ Some new
    → ArePlainDevices earlier interfaces (begin_array ∷ old) devices new
all_plain_devices earlier interfaces old last new devices seen inside array so_far closed = record {
  entries = so_far.entries;
  held = array 3 old last new so_far.entries so_far.held closed;
  loaded = ap (load_devices earlier interfaces) (sym (append-nil so_far.entries)) ∙ devices_all seen inside devices [] (load_devices earlier interfaces (so_far.entries ++ [])) refl (so_far.read []);
}

-- ---- a group

abbrev group_members : List ℕ → List Data → List (List ℕ × Data)
group_members name ds = (codes "name", string name) ∷ (codes "devices", list ds) ∷ []

group_is : (earlier devices interfaces : List (List ℕ)) (bytes name : List ℕ) (ds : List Data) (inside : List Device) → next_row earlier ≡ Ok (length earlier) → new_name earlier (length earlier) bytes ≡ Ok name → load_devices devices interfaces ds ≡ Ok inside
    → load_group earlier devices interfaces (object_of (group_members bytes ds)) ≡ Ok (record { name = name; devices = inside })
group_is earlier devices interfaces bytes name ds inside row is are =
    let made : Result (List Device) LoadError → Result Group LoadError = λ r. r >>= λ inside. Ok (record { name = name; devices = inside }) in
    rw (row, is) (ap (λ es. made (load_devices devices interfaces es)) (entries_are ds) ∙ ap made are)

pub group_read : (earlier devices interfaces : List (List ℕ)) (bytes name : List ℕ) (old opened last new : List Token) (inside : List Device) → ObjectLaw → DeeperLaw → next_row earlier ≡ Ok (length earlier)
    → new_name earlier (length earlier) bytes ≡ Ok name → OpensGroup old bytes opened → ArePlainDevices devices interfaces (begin_array ∷ opened) inside last → read_key last ≡ Some (None, new)
    → IsPlainGroup earlier devices interfaces old (record { name = name; devices = inside }) new
group_read earlier devices interfaces bytes name old opened last new inside object deeper row is opens plain closed =
    let ds : List Data = plain.entries in
    let d : Data = object_of (group_members bytes ds) in
    let members : HoldsMembers 4 (key (codes "name") ∷ opens.first) (group_members bytes ds) last =
    (opens.first, opens.last, refl, deeper 0 4 opens.first opens.last (string bytes) (omega arith) opens.named, (begin_array ∷ opened, last, opens.devices, plain.held, refl)) in
    record {
      entry = d;
      held = subst (λ (ts : List Token). Holds 5 ts d new) (sym opens.begins) (object 4 (key (codes "name") ∷ opens.first) last new (group_members bytes ds) members closed);
      loaded = group_is earlier devices interfaces bytes name ds inside row is plain.loaded;
    }

-- ---- the groups

pub record GroupsSoFar (old : List Token) (groups : Network) (earlier devices interfaces seen inside within : List (List ℕ)) (new : List Token) : Type 0 where
  pub entries : List Data
  pub held : HoldsAll 5 old entries new
  pub read : (rest : List Data) → with_front groups (load_groups seen inside within rest) ≡ load_groups earlier devices interfaces (entries ++ rest)

pub no_group : (old : List Token) (groups : Network) (earlier devices interfaces : List (List ℕ)) → groups ≡ [] → GroupsSoFar old groups earlier devices interfaces earlier devices interfaces old
no_group old groups earlier devices interfaces none = rw none (record { entries = []; held = refl; read = λ rest. nothing_before (load_groups earlier devices interfaces rest) })

pub next_group : (old mid place new : List Token) (groups more : Network) (group : Group) (earlier devices interfaces seen seen_then inside inside_then within within_then : List (List ℕ)) → OneMoreLaw → place ≡ mid
    → seen_then ≡ with_name seen group.name → inside_then ≡ with_names inside (map (λ device. device.name) group.devices) → within_then ≡ with_names within (flat_map (λ device. device.interfaces) group.devices)
    → more ≡ groups ++ group ∷ [] → GroupsSoFar old groups earlier devices interfaces seen inside within mid → IsPlainGroup seen inside within place group new
    → GroupsSoFar old more earlier devices interfaces seen_then inside_then within_then new
next_group old mid place new groups more group earlier devices interfaces seen seen_then inside inside_then within within_then one_more here seen_is inside_is within_is is so_far one =
    let d : Data = one.entry in
    let held : Holds 5 mid d new = subst (λ (ts : List Token). Holds 5 ts d new) here one.held in
    record {
      entries = so_far.entries ++ d ∷ [];
      held = one_more 5 old mid new so_far.entries d so_far.held held;
      read = λ rest. subst (λ (all : List Data). with_front more (load_groups seen_then inside_then within_then rest) ≡ load_groups earlier devices interfaces all) (sym (append_assoc so_far.entries (d ∷ []) rest))
          (groups_next seen seen_then inside inside_then within within_then groups more group d (d ∷ rest) rest (load_groups earlier devices interfaces (so_far.entries ++ d ∷ rest)) refl one.loaded seen_is inside_is within_is is (so_far.read (d ∷ rest)));
    }

pub all_plain_groups : (old last new : List Token) (groups : Network) (earlier devices interfaces seen inside within : List (List ℕ)) → ArrayLaw → GroupsSoFar old groups earlier devices interfaces seen inside within last
    → after_end_array last ≡ Some new → ArePlainGroups earlier devices interfaces (begin_array ∷ old) groups new
all_plain_groups old last new groups earlier devices interfaces seen inside within array so_far closed = record {
  entries = so_far.entries;
  held = array 5 old last new so_far.entries so_far.held closed;
  loaded = ap (load_groups earlier devices interfaces) (sym (append-nil so_far.entries)) ∙ groups_all seen inside within groups [] (load_groups earlier devices interfaces (so_far.entries ++ [])) refl (so_far.read []);
}

-- ---- the file

abbrev file_members : List Data → List (List ℕ × Data)
file_members ds = (codes "version", whole 1) ∷ (codes "groups", list ds) ∷ []

file_is : (ds : List Data) (groups : Network) → load_groups [] [] [] ds ≡ Ok groups → load_file (object_of (file_members ds)) ≡ Ok groups
file_is ds groups are = ap (load_groups [] [] []) (entries_are ds) ∙ are

reading_is : (bytes : List ℕ) (d : Data) → IsUtf8 bytes → read bytes ≡ Some d → reading bytes ≡ Some d
unfolding reading
reading_is bytes d utf8 is = ap (λ (b : Bool). cond b (read bytes) None) (is_utf8-from_IsUtf8 bytes utf8) ∙ is

load_is : (bytes : List ℕ) (d : Data) (groups : Network) → reading bytes ≡ Some d → load_file d ≡ Ok groups → Load bytes ≡ Ok groups
load_is bytes d groups is loaded = ap (λ (o : Option Data). ok_or NotJson o >>= load_file) is ∙ loaded

pub file_read : (bytes s : List ℕ) (start opened last : List Token) (groups : Network) (seen inside within : List (List ℕ)) → ObjectLaw → TextLaw → DeeperLaw → (s ≡ bytes) × IsUtf8 bytes → start ≡ tokens s → Opens start opened
    → seen ≡ [] → inside ≡ [] → within ≡ [] → ArePlainGroups seen inside within (begin_array ∷ opened) groups last → read_key last ≡ Some (None, []) → Load bytes ≡ Ok groups
file_read bytes s start opened last groups seen inside within object whole_text deeper utf8 begins opens no_seen no_inside no_within plain closed =
    let ds : List Data = plain.entries in
    let d : Data = object_of (file_members ds) in
    let members : HoldsMembers 6 (key (codes "version") ∷ opens.first) (file_members ds) last =
    (opens.first, opens.last, refl, deeper 0 6 opens.first opens.last (whole 1) (omega arith) opens.version, (begin_array ∷ opened, last, opens.groups, plain.held, refl)) in
    let held : Holds 7 (tokens bytes) d [] =
    subst (λ (ts : List Token). Holds 7 ts d []) (sym opens.begins ∙ begins ∙ ap tokens utf8.0) (object 6 (key (codes "version") ∷ opens.first) last [] (file_members ds) members closed) in
    let loaded : load_groups [] [] [] ds ≡ Ok groups = rw (no_seen, no_inside, no_within) at plain.loaded in
    load_is bytes d groups (reading_is bytes d utf8.1 (whole_text 7 bytes d (omega arith) held)) (file_is ds groups loaded)
