-- The text of the locations loads as the network.
use Rattle.std.proofs.Common.{◌≡◌, ◌∙◌, refl, sym, ap, ap₂, ℕ, zero, suc, ◌+◌, ◌*◌, ◌<◌, ◌≤◌, false, List, [], ◌∷◌, ◌++◌, length, map, append_assoc, get_or, Option, Ok, codes, decimal, lt-ltb, arith}
use Rattle.std.specs.List.{All}
use Rattle.std.specs.Str.{bytes_eq}
use Rattle.std.proofs.lemmas.Bool.{or_from}
use Rattle.std.proofs.lemmas.Fmt.{decimal_digit}
use Rattle.std.proofs.lemmas.List.{length-append}
use Rattle.std.proofs.lemmas.List.Elements.{All-cons, All-head, All-nil, All-tail, All-weaker}
use Rattle.json.specs.Print.{escape_byte}
use Rattle.serde_json.specs.Data.{Data, array, member, no_members, string}
use Rattle.serde_json.specs.View.{items_of}
use Rattle.serde_json.specs.Written.{compact_text}
use Rattle.rela_json.specs.declared.error.LoadError.TheVariants.{NotJson}
use Rattle.rela_json.specs.Results.{◌>>=◌, ok_or}
use Rattle.rela_locations.specs.Load.{Load, load_device, load_devices, load_file}
use Rattle.rela_locations.specs.Names.{has_name, with_name}
use Rattle.rela_demo.specs.Locations.{device, network}
use Rattle.rela_demo.specs.Names.{Label, label_a, label_b, device_name, interface_name, labels_from}
use Rattle.rela_demo.specs.Pieces.{array_text, commas, device_text, locations_text}
use Rattle.rela_demo.specs.Text.{device_data, group_data, list_data, locations_data, node_data, number_data, written_group, written_locations}
use Rattle.rela_demo.proofs.Arrays.{array_length, list_is}
use Rattle.rela_demo.proofs.Below.{length_labels}
use Rattle.rela_demo.proofs.Entries.{entries_are}
use Rattle.rela_demo.proofs.LabelNames.{IsLabel, are_labels, names_apart}
use Rattle.rela_demo.proofs.NameSets.{has_with_name, length_with_name}
use Rattle.rela_demo.proofs.Plain.{name_escape, name_plain}
use Rattle.rela_demo.proofs.ReadBack.{IsReadAs, IsReadBack, array_back, deeper, list_back, number_back, single_as, string_back, text_reading, two_as}

-- ---- names that are new

-- a device's name and its interface's are new, and those of the devices behind it
abbrev AreNew : List (List ℕ) → List (List ℕ) → List Label → Type 0
AreNew devices interfaces [] = Unit {0}
AreNew devices interfaces (l ∷ labels) =
    (has_name devices (device_name l) ≡ false) × (has_name interfaces (interface_name l) ≡ false) × AreNew (with_name devices (device_name l)) (with_name interfaces (interface_name l)) labels

-- no name of a number from the first on is there
abbrev Lacks : ℕ → List (List ℕ) → List ℕ → Type 0
Lacks first names rest = (letter i : ℕ) → first ≤ i → i < 1000 → has_name names (device_name (letter, i) ++ rest) ≡ false

abbrev with_both : List (List ℕ) → ℕ → List ℕ → List (List ℕ)
with_both names i rest = with_name (with_name names (device_name (label_a i) ++ rest)) (device_name (label_b i) ++ rest)

lacks_more : (first : ℕ) (names : List (List ℕ)) (rest : List ℕ) → Lacks first names rest → Lacks (first + 1) (with_both names first rest) rest
lacks_more first names rest lacks letter i from few =
    let a : List ℕ = device_name (label_a first) ++ rest in
    let b : List ℕ = device_name (label_b first) ++ rest in
    let s : List ℕ = device_name (letter, i) ++ rest in
    let without_a : has_name (with_name names a) s ≡ false = has_with_name names a s ∙ or_from (bytes_eq s a) (has_name names s) (names_apart letter 97 first i rest (omega (arith, from)) few) (lacks letter i (omega (arith, from)) few) in
    has_with_name (with_name names a) b s ∙ or_from (bytes_eq s b) (has_name (with_name names a) s) (names_apart letter 98 first i rest (omega (arith, from)) few) without_a

b_new : (first : ℕ) (names : List (List ℕ)) (rest : List ℕ) → first < 1000 → Lacks first names rest → has_name (with_name names (device_name (label_a first) ++ rest)) (device_name (label_b first) ++ rest) ≡ false
b_new first names rest few lacks =
    let a : List ℕ = device_name (label_a first) ++ rest in
    let b : List ℕ = device_name (label_b first) ++ rest in
    has_with_name names a b ∙ or_from (bytes_eq b a) (has_name names b) refl (lacks 98 first (omega arith) few)

new_from : (first count : ℕ) (devices interfaces : List (List ℕ)) → first + count ≤ 1000 → Lacks first devices [] → Lacks first interfaces (codes ":0") → AreNew devices interfaces (labels_from first count)
new_from first zero devices interfaces few lacks lacks' = tt
new_from first (suc count) devices interfaces few lacks lacks' =
    let a : has_name devices (device_name (label_a first)) ≡ false = lacks 97 first (omega arith) (omega (arith, few)) in
    let a' : has_name interfaces (interface_name (label_a first)) ≡ false = lacks' 97 first (omega arith) (omega (arith, few)) in
    let rest = new_from (first + 1) count (with_both devices first []) (with_both interfaces first (codes ":0")) (omega (arith, few)) (lacks_more first devices [] lacks) (lacks_more first interfaces (codes ":0") lacks') in
    (a, a', (b_new first devices [] (omega (arith, few)) lacks, b_new first interfaces (codes ":0") (omega (arith, few)) lacks', rest))

-- ---- the walk

device_loads : (l : Label) (devices interfaces : List (List ℕ)) → IsLabel l → has_name devices (device_name l) ≡ false → has_name interfaces (interface_name l) ≡ false → length devices < 100000 → length interfaces < 100000
    → load_device devices interfaces (device_data l) ≡ Ok (device l)
device_loads l devices interfaces is new new' few few' =
    rw (lt-ltb (length devices) 100000 few, is.device, is.device_free, new, lt-ltb (length interfaces) 100000 few', is.interface_free, new') refl

devices_load : (labels : List Label) (devices interfaces : List (List ℕ)) → All IsLabel labels → AreNew devices interfaces labels → length devices + length labels ≤ 100000 → length interfaces + length labels ≤ 100000
    → load_devices devices interfaces (map device_data labels) ≡ Ok (map device labels)
devices_load [] devices interfaces are new few few' = refl
devices_load (l ∷ labels) devices interfaces are new few few' =
    rw (
      device_loads l devices interfaces (All-head IsLabel l labels are) new.0 new.1 (omega (arith, few)) (omega (arith, few')),
      devices_load labels (with_name devices (device_name l)) (with_name interfaces (interface_name l)) (All-tail IsLabel l labels are) new.2
          (omega (arith, few, length_with_name devices (device_name l))) (omega (arith, few', length_with_name interfaces (interface_name l))),
    ) refl

file_loads : (n : ℕ) → n ≤ 200 → load_file (locations_data n) ≡ Ok (network n)
file_loads n few =
    let labels : List Label = labels_from 1 n in
    rw (
      entries_are (map device_data labels),
      devices_load labels [] [] (are_labels 1 n) (new_from 1 n [] [] (omega (arith, few)) (λ letter i from to. refl) (λ letter i from to. refl)) (omega (arith, few, length_labels 1 n)) (omega (arith, few, length_labels 1 n)),
    ) refl

-- ---- the text

node_back : (l : Label) → IsLabel l → IsReadBack 0 (node_data l)
node_back l is = string_back (interface_name l) (name_plain (interface_name l) is.interface)

device_back : (l : Label) → IsLabel l → IsReadBack 2 (device_data l)
device_back l is =
    let node : Data = node_data l in
    let nodes : Data = array (items_of (node ∷ [])) in
    let name : Data = string (device_name l) in
    two_as 1 (codes "interfaces") (codes "name") nodes name (member (codes "interfaces") nodes (member (codes "name") name no_members)) refl refl refl
    (array_back 0 (node ∷ []) (All-cons (IsReadBack 0) node [] (node_back l is) (All-nil (IsReadBack 0))))
    (deeper 0 1 (string (device_name l)) (omega arith) (string_back (device_name l) (name_plain (device_name l) is.device)))

group_back : (labels : List Label) → All IsLabel labels → IsReadAs 4 (written_group labels) (group_data labels)
group_back labels are =
    let text : List ℕ = codes "all-devices" in
    let name : Data = string text in
    let devices : Data = list_data device_data labels in
    two_as 3 (codes "name") (codes "devices") name devices (member (codes "devices") devices (member (codes "name") name no_members)) refl refl refl
    (deeper 0 3 name (omega arith) (string_back text (name_plain text refl)))
    (list_back 2 device_data labels (All-weaker IsLabel (λ l. IsReadBack 2 (device_data l)) device_back labels are))

locations_back : (n : ℕ) → IsReadAs 6 (written_locations n) (locations_data n)
locations_back n =
    let labels : List Label = labels_from 1 n in
    let written : Data = array (items_of (written_group labels ∷ [])) in
    let groups : Data = array (items_of (group_data labels ∷ [])) in
    two_as 5 (codes "version") (codes "groups") (number_data 1) written (member (codes "groups") groups (member (codes "version") (number_data 1) no_members)) refl refl refl
    (deeper 0 5 (number_data 1) (omega arith) (number_back 1 (omega arith)))
    (single_as 4 (written_group labels) (group_data labels) (group_back labels (are_labels 1 n)))

data_loads : (n : ℕ) → n ≤ 200 → Load (compact_text (written_locations n)) ≡ Ok (network n)
data_loads n few = ap (λ (o : Option Data). ok_or NotJson o >>= load_file) (text_reading 6 (written_locations n) (omega arith) (locations_back n)) ∙ file_loads n few

-- ---- the pieces

abbrev device_object : List ℕ → List ℕ → List ℕ
device_object i d = 123 ∷ 34 ∷ (codes "interfaces" ++ 34 ∷ 58 ∷ 91 ∷ 34 ∷ (((i ++ 34 ∷ []) ++ 93 ∷ []) ++ 44 ∷ 34 ∷ (codes "name" ++ 34 ∷ 58 ∷ 34 ∷ ((d ++ 34 ∷ []) ++ 125 ∷ []))))

device_pieces : (i d : List ℕ) → codes "{\"interfaces\":[" ++ ((34 ∷ (i ++ 34 ∷ [])) ++ (codes "],\"name\":\"" ++ (d ++ codes "\"}"))) ≡ device_object i d
device_pieces i d =
    let first : List ℕ → List ℕ = λ s. 123 ∷ 34 ∷ (codes "interfaces" ++ 34 ∷ 58 ∷ 91 ∷ 34 ∷ s) in
    let name : List ℕ → List ℕ = λ s. 44 ∷ 34 ∷ (codes "name" ++ 34 ∷ 58 ∷ 34 ∷ s) in
    ap (λ (s : List ℕ). first ((i ++ 34 ∷ []) ++ 93 ∷ name s)) (sym (append_assoc d (34 ∷ []) (125 ∷ [])))
    ∙ ap first (sym (append_assoc (i ++ 34 ∷ []) (93 ∷ []) (name ((d ++ 34 ∷ []) ++ 125 ∷ []))))

device_written : (l : Label) → IsLabel l → device_text l ≡ compact_text (device_data l)
unfolding escape_byte
device_written l is = device_pieces (interface_name l) (device_name l) ∙ ap₂ device_object (sym (name_escape (interface_name l) is.interface)) (sym (name_escape (device_name l) is.device))

devices_written : (labels : List Label) → All IsLabel labels → map device_text labels ≡ map (λ l. compact_text (device_data l)) labels
devices_written [] are = refl
devices_written (l ∷ labels) are = ap₂ (λ (t : List ℕ) (ts : List (List ℕ)). t ∷ ts) (device_written l (All-head IsLabel l labels are)) (devices_written labels (All-tail IsLabel l labels are))

array_written : (labels : List Label) → All IsLabel labels → array_text device_text labels ≡ compact_text (list_data device_data labels)
array_written labels are = ap (λ (ts : List (List ℕ)). 91 ∷ (commas false ts ++ 93 ∷ [])) (devices_written labels are) ∙ sym (list_is device_data labels)

-- what stands before the devices, where the version is written as `one`
abbrev head : List ℕ → List ℕ → List ℕ
head one s = 123 ∷ 34 ∷ (codes "version" ++ 34 ∷ 58 ∷ (one ++ 44 ∷ 34 ∷ (codes "groups" ++ 34 ∷ 58 ∷ 91 ∷ 123 ∷ 34 ∷ (codes "name" ++ 34 ∷ 58 ∷ 34 ∷ (codes "all-devices" ++ 34 ∷ 44 ∷ 34 ∷ (codes "devices" ++ 34 ∷ 58 ∷ s))))))

locations_written : (n : ℕ) → locations_text (labels_from 1 n) ≡ compact_text (written_locations n)
unfolding escape_byte
locations_written n =
    let array : List ℕ = compact_text (list_data device_data (labels_from 1 n)) in
    ap (λ (s : List ℕ). head (49 ∷ []) (s ++ codes "}]}")) (array_written (labels_from 1 n) (are_labels 1 n))
    ∙ ap (λ (one : List ℕ). head one (array ++ codes "}]}")) (sym (decimal_digit 1 (omega arith)))
    ∙ ap (head (decimal 1)) (sym (append_assoc array (125 ∷ []) (93 ∷ 125 ∷ [])))
    ∙ ap (head (decimal 1)) (sym (append_assoc (array ++ 125 ∷ []) (93 ∷ []) (125 ∷ [])))

pub locations_load : (n : ℕ) (text : List ℕ) → n ≤ 200 → text ≡ locations_text (labels_from 1 n) → Load text ≡ Ok (network n)
locations_load n text few is = ap Load (is ∙ locations_written n) ∙ data_loads n few

-- ---- its length

device_length : (l : Label) → length (device_text l) ≤ 41
device_length l = omega arith

pub locations_short : (n : ℕ) (text : List ℕ) → n ≤ 200 → text ≡ locations_text (labels_from 1 n) → length text ≤ 33554432
locations_short n text few is =
    let labels : List Label = labels_from 1 n in
    let array : List ℕ = array_text device_text labels in
    let devices : length array ≤ 42 * length labels + 2 = array_length 41 device_text labels (λ k d within. device_length (get_or labels k d)) in
    omega (arith, few, devices, length_labels 1 n, ap length is, length-append array (codes "}]}"))
