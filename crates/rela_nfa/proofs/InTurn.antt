-- Edges that are made one after the other, by their labels.
use Rattle.std.proofs.Common.{◌≡◌, ℕ, ◌+◌, ◌<◌, Bool, true, false, if◌then◌else◌, List, [], ◌∷◌, ◌++◌, length, get_or, take, drop, map, None, Some, refl, sym, ap, ◌∙◌, append_assoc, length-append}
use Rattle.std.specs.List.{flat_map, list_any, slice_get}
use Rattle.std.proofs.lemmas.Grind.{flat_map-append}
use Rattle.std.proofs.lemmas.List.{append-nil, drop-drop, drop_more, map-append, take_more}
use Rattle.std.proofs.lemmas.Option.{slice_get_within, get_or_from_slice_get}
use Rattle.rela_pairs.specs.declared.pair.Pair.{Pair}
use Rattle.rela_nfa.specs.Automaton.{Automaton, Move, moves_of}
use Rattle.rela_nfa.specs.Directing.{Label, directed, extended, silent_label, silent_labels, shared_label, labels_with, joint_labels}
use Rattle.rela_nfa.specs.Meeting.{JointMove, common, silent_one, labelled_both, pair_of, left_moves, right_moves, moves_with, joint_moves, next_pairs, numbered}

-- ---- one label after the other

directed_nil : (labels : List Label) → directed labels [] ≡ []
directed_nil [] = refl
directed_nil (label ∷ labels) = refl

directed_more : (xs ys : List Label) (targets : List ℕ) → directed (xs ++ ys) targets ≡ directed xs targets ++ directed ys (drop (length (directed xs targets)) targets)
directed_more [] ys targets = refl
directed_more (x ∷ xs) ys [] = sym (directed_nil ys)
directed_more (x ∷ xs) ys (t ∷ targets) = ap (λ l. record { label = x; to = t } ∷ l) (directed_more xs ys targets)

pub extended_more : (edges : List Move) (xs ys : List Label) (targets : List ℕ) → extended (extended edges xs targets) ys targets ≡ extended edges (xs ++ ys) targets
extended_more edges xs ys targets =
    let left = drop (length edges) targets in
    let made = directed xs left in
    ap (λ n. (edges ++ made) ++ directed ys (drop n targets)) (length-append edges made)
    ∙ ap (λ l. (edges ++ made) ++ directed ys l) (sym (drop-drop (length made) (length edges) targets))
    ∙ append_assoc edges made (directed ys (drop (length made) left)) ∙ ap (λ l. edges ++ l) (sym (directed_more xs ys left))

pub extended_one : (edges : List Move) (label : Label) (targets : List ℕ) (t : ℕ) → slice_get targets (length edges) ≡ Some t
    → extended edges (label ∷ []) targets ≡ edges ++ record { label = label; to = t } ∷ []
extended_one edges label targets t at =
    ap (λ l. edges ++ directed (label ∷ []) l) (drop_more targets (length edges) t (slice_get_within targets (length edges) t at))
    ∙ ap (λ n. edges ++ record { label = label; to = n } ∷ []) (get_or_from_slice_get targets (length edges) t t at)

pub extended_none : (edges : List Move) (targets : List ℕ) → extended edges [] targets ≡ edges
extended_none edges targets = append-nil edges

-- ---- one element after the other

pub one_more : {E M Y : Type 0} (v : E → M) (f : M → List Y) (edges : List E) (i : ℕ) (edge : E) → i < length edges → get_or edges i edge ≡ edge
    → flat_map f (map v (take (i + 1) edges)) ≡ flat_map f (map v (take i edges)) ++ f (v edge)
one_more v f edges i edge below at =
    ap (λ l. flat_map f (map v l)) (take_more edges i edge below ∙ ap (λ x. take i edges ++ x ∷ []) at) ∙ ap (flat_map f) (map-append v (take i edges) (edge ∷ []))
    ∙ flat_map-append f (map v (take i edges)) (v edge ∷ []) ∙ ap (λ l. flat_map f (map v (take i edges)) ++ l) (append-nil (f (v edge)))

-- one element more is mapped twice
pub mapped_twice_more : {E M Y : Type 0} (v : E → M) (f : M → Y) (xs : List E) (i : ℕ) (x : E) (old mid new : List Y) → i < length xs → get_or xs i x ≡ x → mid ≡ old ++ map f (map v (take i xs))
    → new ≡ mid ++ f (v x) ∷ [] → new ≡ old ++ map f (map v (take (i + 1) xs))
mapped_twice_more v f xs i x old mid new below at so_far added =
    let front = map f (map v (take i xs)) in
    let more : map f (map v (take (i + 1) xs)) ≡ front ++ f (v x) ∷ [] =
    ap (λ l. map f (map v l)) (take_more xs i x below ∙ ap (λ y. take i xs ++ y ∷ []) at) ∙ ap (map f) (map-append v (take i xs) (x ∷ [])) ∙ map-append f (map v (take i xs)) (v x ∷ []) in
    added ∙ ap (λ l. l ++ f (v x) ∷ []) so_far ∙ append_assoc old front (f (v x) ∷ []) ∙ ap (λ l. old ++ l) (sym more)

module _ {E M : Type 0} (v : E → M) (edges : List E) (i : ℕ) (edge : E) (below : i < length edges) (at : get_or edges i edge ≡ edge) where
  pub mapped_more : {Y Z : Type 0} (f : M → List Y) (h : Y → Z) (old mid new : List Z) → mid ≡ old ++ map h (flat_map f (map v (take i edges))) → new ≡ mid ++ map h (f (v edge))
      → new ≡ old ++ map h (flat_map f (map v (take (i + 1) edges)))
  mapped_more f h old mid new so_far added =
      let done = flat_map f (map v (take i edges)) in
      added ∙ ap (λ l. l ++ map h (f (v edge))) so_far ∙ append_assoc old (map h done) (map h (f (v edge)))
      ∙ ap (λ l. old ++ l) (sym (map-append h done (f (v edge))) ∙ ap (map h) (sym (one_more v f edges i edge below at)))

  pub labels_more : (f : M → List Label) (old mid new : List Move) (targets : List ℕ) → mid ≡ extended old (flat_map f (map v (take i edges))) targets → new ≡ extended mid (f (v edge)) targets
      → new ≡ extended old (flat_map f (map v (take (i + 1) edges))) targets
  labels_more f old mid new targets so_far added =
      added ∙ ap (λ l. extended l (f (v edge)) targets) so_far ∙ extended_more old (flat_map f (map v (take i edges))) (f (v edge)) targets
      ∙ ap (λ l. extended old l targets) (sym (one_more v f edges i edge below at))

-- ---- the labels of joint edges

pub numbered_is : (joint : List JointMove) (targets : List ℕ) → numbered joint targets ≡ directed (map (λ (j : JointMove). j.label) joint) targets
numbered_is [] targets = refl
numbered_is (j ∷ joint) [] = refl
numbered_is (j ∷ joint) (t ∷ targets) = ap (λ l. record { label = j.label; to = t } ∷ l) (numbered_is joint targets)

pub map-flat_map : {X Y Z : Type 0} (h : Y → Z) (f : X → List Y) (g : X → List Z) → ((x : X) → map h (f x) ≡ g x) → (xs : List X) → map h (flat_map f xs) ≡ flat_map g xs
map-flat_map h f g each [] = refl
map-flat_map h f g each (x ∷ xs) = map-append h (f x) (flat_map f xs) ∙ (λ i. each x i ++ map-flat_map h f g each xs i)

silent_same : (label : Label) (to : Pair) → map (λ (j : JointMove). j.label) (silent_one label to) ≡ silent_label label
silent_same None to = refl
silent_same (Some s) to = refl

if_mapped : {Y Z : Type 0} (h : Y → Z) (b : Bool) (y : Y) → map h (if b then y ∷ [] else []) ≡ (if b then h y ∷ [] else [])
if_mapped h true y = refl
if_mapped h false y = refl

shared_same : (s t : Label) (to : Pair) → map (λ (j : JointMove). j.label) (labelled_both s t to) ≡ shared_label s t
shared_same None t to = refl
shared_same (Some s) None to = refl
shared_same (Some s) (Some t) to =
    let joint : JointMove = record { label = Some (common s t); to = to } in
    if_mapped (λ (j : JointMove). j.label) (list_any (λ b. b) (common s t)) joint

pub shared_met : (s t u : List Bool) → u ≡ common s t → list_any (λ c. c) u ≡ true → shared_label (Some s) (Some t) ≡ Some u ∷ []
shared_met s t u same some =
    let any : list_any (λ c. c) (common s t) ≡ true = ap (λ l. list_any (λ c. c) l) (sym same) ∙ some in
    let one : List Label = Some (common s t) ∷ [] in
    ap (λ c. if c then one else []) any ∙ ap (λ l. Some l ∷ []) (sym same)

pub shared_apart : (s t u : List Bool) → u ≡ common s t → list_any (λ c. c) u ≡ false → shared_label (Some s) (Some t) ≡ []
shared_apart s t u same none =
    let any : list_any (λ c. c) (common s t) ≡ false = ap (λ l. list_any (λ c. c) l) (sym same) ∙ none in
    let one : List Label = Some (common s t) ∷ [] in
    ap (λ c. if c then one else []) any

with_same : (m : Move) (others : List Move) → map (λ (j : JointMove). j.label) (moves_with m others) ≡ labels_with m.label others
with_same m others =
    map-flat_map (λ (j : JointMove). j.label) (λ n. labelled_both m.label n.label (pair_of m.to n.to)) (λ n. shared_label m.label n.label) (λ n. shared_same m.label n.label (pair_of m.to n.to)) others

labels_same : (a b : Automaton) (x : Pair) → map (λ (j : JointMove). j.label) (joint_moves a b x) ≡ joint_labels a b x
labels_same a b x =
    let label = λ (j : JointMove). j.label in
    let lefts = left_moves x.right (moves_of a x.left) in
    let rights = right_moves x.left (moves_of b x.right) in
    let boths = flat_map (λ m. moves_with m (moves_of b x.right)) (moves_of a x.left) in
    map-append label (lefts ++ rights) boths ∙ ap (λ l. l ++ map label boths) (map-append label lefts rights)
    ∙ (λ i. (map-flat_map label (λ m. silent_one m.label (pair_of m.to x.right)) (λ m. silent_label m.label) (λ m. silent_same m.label (pair_of m.to x.right)) (moves_of a x.left) i
    ++ map-flat_map label (λ n. silent_one n.label (pair_of x.left n.to)) (λ n. silent_label n.label) (λ n. silent_same n.label (pair_of x.left n.to)) (moves_of b x.right) i)
    ++ map-flat_map label (λ m. moves_with m (moves_of b x.right)) (λ m. labels_with m.label (moves_of b x.right)) (λ m. with_same m (moves_of b x.right)) (moves_of a x.left) i)

-- what is added in three parts is the whole
pub joint_made : (a b : Automaton) (x : Pair) (targets : List ℕ)
    → extended (extended (extended [] (silent_labels (moves_of a x.left)) targets) (silent_labels (moves_of b x.right)) targets) (flat_map (λ m. labels_with m.label (moves_of b x.right)) (moves_of a x.left)) targets
    ≡ numbered (joint_moves a b x) targets
joint_made a b x targets =
    let lefts = silent_labels (moves_of a x.left) in
    let rights = silent_labels (moves_of b x.right) in
    let boths = flat_map (λ m. labels_with m.label (moves_of b x.right)) (moves_of a x.left) in
    ap (λ l. extended l boths targets) (extended_more [] lefts rights targets) ∙ extended_more [] (lefts ++ rights) boths targets
    ∙ sym (numbered_is (joint_moves a b x) targets ∙ ap (λ l. directed l targets) (labels_same a b x))

pub followers_made : (a b : Automaton) (x : Pair) (old : List Pair)
    → ((old ++ map (λ (j : JointMove). j.to) (left_moves x.right (moves_of a x.left))) ++ map (λ (j : JointMove). j.to) (right_moves x.left (moves_of b x.right)))
    ++ map (λ (j : JointMove). j.to) (flat_map (λ m. moves_with m (moves_of b x.right)) (moves_of a x.left))
    ≡ old ++ next_pairs a b x
followers_made a b x old =
    let to = λ (j : JointMove). j.to in
    let lefts = left_moves x.right (moves_of a x.left) in
    let rights = right_moves x.left (moves_of b x.right) in
    let boths = flat_map (λ m. moves_with m (moves_of b x.right)) (moves_of a x.left) in
    append_assoc (old ++ map to lefts) (map to rights) (map to boths) ∙ append_assoc old (map to lefts) (map to rights ++ map to boths)
    ∙ ap (λ l. old ++ l) (sym (append_assoc (map to lefts) (map to rights) (map to boths))
    ∙ sym (map-append to (lefts ++ rights) boths ∙ ap (λ l. l ++ map to boths) (map-append to lefts rights)))
