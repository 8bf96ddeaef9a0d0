-- The interfaces of the nodes are interfaces of the network.
use Rattle.std.proofs.Common.{◌≡◌, ◌∙◌, refl, ap, subst, ℕ, zero, suc, ◌+◌, ◌-◌, ◌<◌, ◌≤◌, Bool, true, ◌||◌, List, [], ◌∷◌, ◌++◌, map, arith, ⊎_elim, ◌⊎◌, inl, inr}
use Rattle.std.specs.List.{All, flat_map}
use Rattle.std.specs.Str.{bytes_eq}
use Rattle.std.proofs.lemmas.Bool.{or_left, or_right}
use Rattle.std.proofs.lemmas.List.Elements.{All-cons}
use Rattle.rela_locations.specs.Names.{has_name}
use Rattle.rela_locations.specs.Network.{Device, names_at}
use Rattle.rela_names.specs.declared.level.Level.TheVariants as level
use Rattle.rela_snapshot.specs.Interfaces.{interfaces_in}
use Rattle.rela_demo.specs.Layers.{node_labels}
use Rattle.rela_demo.specs.Locations.{device, network}
use Rattle.rela_demo.specs.Names.{Label, label_a, label_b, interface_name, labels_from}
use Rattle.rela_demo.proofs.Entries.{IsFound}
use Rattle.rela_demo.proofs.LabelNames.{labels_all, name_itself}
use Rattle.rela_demo.proofs.NameSets.{has_ascending, place_found}

-- the interfaces of the devices of these labels
abbrev interfaces : List Label → List (List ℕ)
interfaces labels = flat_map (λ (d : Device). d.interfaces) (map device labels ++ [])

Has : List Label → Label → Type 0
Has labels label = has_name (interfaces labels) (interface_name label) ≡ true

has_both : (labels : List Label) (i : ℕ) → Has (label_a i ∷ label_b i ∷ labels) (label_a i) × Has (label_a i ∷ label_b i ∷ labels) (label_b i)
unfolding Has
has_both labels i =
    let a : List ℕ = interface_name (label_a i) in
    let b : List ℕ = interface_name (label_b i) in
    let rest : List ℕ → Bool = has_name (interfaces labels) in
    (or_left (bytes_eq a a) (bytes_eq a b || rest a) (name_itself a), or_right (bytes_eq b a) (bytes_eq b b || rest b) (or_left (bytes_eq b b) (rest b) (name_itself b)))

has_later : (labels : List Label) (i : ℕ) (label : Label) → Has labels label → Has (label_a i ∷ label_b i ∷ labels) label
unfolding Has
has_later labels i label h =
    let s : List ℕ = interface_name label in
    or_right (bytes_eq s (interface_name (label_a i))) (bytes_eq s (interface_name (label_b i)) || has_name (interfaces labels) s) (or_right (bytes_eq s (interface_name (label_b i))) (has_name (interfaces labels) s) h)

first_or_later : (first i : ℕ) → first ≤ i → (first ≡ i) ⊎ (first + 1 ≤ i)
first_or_later zero zero le = inl refl
first_or_later zero (suc i) le = inr (omega arith)
first_or_later (suc first) zero le = absurd (omega (arith, le))
first_or_later (suc first) (suc i) le = ⊎_elim (λ e. inl (ap suc e)) (λ later. inr (omega (arith, later))) (first_or_later first i (omega (arith, le)))

has_from : (first count i : ℕ) → first ≤ i → i < first + count → Has (labels_from first count) (label_a i) × Has (labels_from first count) (label_b i)
has_from first zero i from to = absurd (omega (arith, from, to))
has_from first (suc count) i from to =
    let labels : List Label = labels_from (first + 1) count in
    ⊎_elim
    (λ e. subst (λ (j : ℕ). Has (label_a first ∷ label_b first ∷ labels) (label_a j) × Has (label_a first ∷ label_b first ∷ labels) (label_b j)) e (has_both labels first))
    (λ later. let rest = has_from (first + 1) count i later (omega (arith, to)) in (has_later labels first (label_a i) rest.0, has_later labels first (label_b i) rest.1))
    (first_or_later first i from)

found : (n : ℕ) (label : Label) → Has (labels_from 1 n) label → IsFound (network n) label
unfolding Has interfaces_in
found n label h =
    let names : List (List ℕ) = names_at level.Interface (network n) in
    let name : List ℕ = interface_name label in
    place_found (interfaces_in (network n)) name (has_ascending names name ∙ h)

pub nodes_found : (n : ℕ) → 1 ≤ n → All (IsFound (network n)) (node_labels n)
nodes_found n some =
    All-cons (IsFound (network n)) (label_a 1) (labels_from 2 (n - 1)) (found n (label_a 1) (has_from 1 n 1 (omega arith) (omega (arith, some))).0)
    (labels_all (IsFound (network n)) 2 (n - 1) (λ i from to. let has = has_from 1 n i (omega (arith, from)) (omega (arith, to, some)) in (found n (label_a i) has.0, found n (label_b i) has.1)))
