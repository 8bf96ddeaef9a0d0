-- The edges that stand for what an automaton and a transducer do together.
use Rattle.std.proofs.Common.{◌≡◌, ℕ, Bool, true, if◌then◌else◌, List, [], ◌∷◌, ◌++◌, map, Option, None, Some, refl, sym, ap, ◌∙◌, subst, inl, inr, append_assoc}
use Rattle.std.specs.Bool.{⊤}
use Rattle.std.specs.List.{flat_map, list_any}
use Rattle.std.specs.Option.{option_map, option_to_list}
use Rattle.std.proofs.lemmas.Bool.{cases_Bool}
use Rattle.std.proofs.lemmas.List.{map-append}
use Rattle.std.proofs.lemmas.List.Folds.{flat_map-map}
use Rattle.rela_pairs.specs.declared.pair.Pair.{Pair}
use Rattle.rela_nfa.specs.Automaton.{Automaton, Move as Edge, IsAutomaton, moves_of as edges_of}
use Rattle.rela_nfa.specs.Directing.{Label, directed, extended, silent_label, silent_labels}
use Rattle.rela_nfa.specs.Meeting.{common, pair_of}
use Rattle.rela_trans.specs.Composition.{unless_empty, first_alone, second_alone, both_by_letter, made, first_moves, second_moves, moves_with, joint_moves, next_pairs, numbered}
use Rattle.rela_trans.specs.ImageMoves.{source_of, source_alone, read_by, source_moves, read_moves, image_moves, written_label, written_labels, alone_labels, read_labels, image_labels}
use Rattle.rela_trans.specs.Images.{written_by, written_edges}
use Rattle.rela_trans.specs.Machine.{Machine, Kind, moves_of}
use Rattle.rela_trans.specs.Tapes.{lifted}
use Rattle.rela_trans.specs.declared.joint.JointMove.{JointMove}
use Rattle.rela_trans.specs.declared.moves.Move.{Move}
use Rattle.rela_trans.specs.declared.moves.MoveKind.TheVariants.{Silent, In, Out, Same}
use Rattle.rela_trans.specs.declared.tapes.Tape.TheVariants.{Both}
use Rattle.rela_trans.proofs.Directed.{extended_more}
use Rattle.rela_trans.proofs.Lifted.{same_moves}
use Rattle.rela_trans.proofs.ListLaws.{map-flat_map}

abbrev Joint : Type 0
Joint = JointMove (List Bool)

-- ---- each joint move writes an edge

abbrev Writes : Kind → Type 0
Writes kind = (to : ℕ) → written_by kind to ≡ Some (record { label = written_label kind; to = to })

abbrev AllWrite : List Joint → Type 0
AllWrite [] = ⊤
AllWrite (j ∷ joint) = Writes j.kind × AllWrite joint

write_append : (xs ys : List Joint) → AllWrite xs → AllWrite ys → AllWrite (xs ++ ys)
write_append [] ys first rest = rest
write_append (j ∷ xs) ys first rest = (first.0, write_append xs ys first.1 rest)

write_flat : {X : Type 0} (f : X → List Joint) → ((x : X) → AllWrite (f x)) → (xs : List X) → AllWrite (flat_map f xs)
write_flat f each [] = tt
write_flat f each (x ∷ xs) = write_append (f x) (flat_map f xs) (each x) (write_flat f each xs)

by_letters : (F : List Bool → Kind) → ((set : List Bool) → list_any (λ b. b) set ≡ true → Writes (F set)) → (set : List Bool) (to : Pair) → AllWrite (made (option_map F (unless_empty set)) to)
by_letters F writes set to =
    let some : Option (List Bool) = Some set in
    elim (cases_Bool (list_any (λ b. b) set)) [
      | inl any ↦ subst (λ (o : Option (List Bool)). AllWrite (made (option_map F o) to)) (sym (ap (λ b. if b then some else None) any)) (writes set any, tt)
      | inr none ↦ subst (λ (o : Option (List Bool)). AllWrite (made (option_map F o) to)) (sym (ap (λ b. if b then some else None) none)) tt
    ]

silent_writes : Writes Silent
silent_writes to = refl

in_writes : (set : List Bool) → list_any (λ b. b) set ≡ true → Writes (In set)
in_writes set any to = let some : Option Edge = Some (record { label = None; to = to }) in ap (λ b. if b then some else None) any

out_writes : (set : List Bool) → list_any (λ b. b) set ≡ true → Writes (Out set)
out_writes set any to = refl

same_writes : (set : List Bool) → list_any (λ b. b) set ≡ true → Writes (Same set)
same_writes set any to = refl

first_writes : (kind : Kind) (to : Pair) → AllWrite (made (first_alone kind) to)
first_writes Silent to = (silent_writes, tt)
first_writes (In set) to = by_letters In in_writes set to
first_writes (Out set) to = tt
first_writes (Same set) to = tt

second_writes : (kind : Kind) (to : Pair) → AllWrite (made (second_alone kind) to)
second_writes Silent to = (silent_writes, tt)
second_writes (In set) to = tt
second_writes (Out set) to = by_letters Out out_writes set to
second_writes (Same set) to = tt

both_writes : (first second : Kind) (to : Pair) → AllWrite (made (both_by_letter first second) to)
both_writes Silent second to = tt
both_writes (In set) second to = tt
both_writes (Out written) Silent to = tt
both_writes (Out written) (In set) to = by_letters (λ _. Silent) (λ s any. silent_writes) (common written set) to
both_writes (Out written) (Out set) to = tt
both_writes (Out written) (Same set) to = by_letters Out out_writes (common written set) to
both_writes (Same written) Silent to = tt
both_writes (Same written) (In set) to = by_letters In in_writes (common written set) to
both_writes (Same written) (Out set) to = tt
both_writes (Same written) (Same set) to = by_letters Same same_writes (common written set) to

all_write : (a b : Machine) (x : Pair) → AllWrite (joint_moves a b x)
all_write a b x =
    let lefts = first_moves x.right (moves_of a x.left) in
    let rights = second_moves x.left (moves_of b x.right) in
    let boths = flat_map (λ m. moves_with m (moves_of b x.right)) (moves_of a x.left) in
    write_append (lefts ++ rights) boths
    (write_append lefts rights (write_flat (λ m. made (first_alone m.kind) (pair_of m.to x.right)) (λ m. first_writes m.kind (pair_of m.to x.right)) (moves_of a x.left))
    (write_flat (λ n. made (second_alone n.kind) (pair_of x.left n.to)) (λ n. second_writes n.kind (pair_of x.left n.to)) (moves_of b x.right)))
    (write_flat (λ m. moves_with m (moves_of b x.right))
    (λ m. write_flat (λ n. made (both_by_letter m.kind n.kind) (pair_of m.to n.to)) (λ n. both_writes m.kind n.kind (pair_of m.to n.to)) (moves_of b x.right)) (moves_of a x.left))

written_numbered : (joint : List Joint) (targets : List ℕ) → AllWrite joint → written_edges (numbered joint targets) ≡ directed (map (λ (j : Joint). written_label j.kind) joint) targets
written_numbered [] targets write = refl
written_numbered (j ∷ joint) [] write = refl
written_numbered (j ∷ joint) (t ∷ targets) write = (λ i. option_to_list (write.0 t i) ++ written_numbered joint targets write.1 i)

-- ---- the joint moves of an automaton that stands as a transducer

module _ (a : Automaton) (t : Machine) (ok : IsAutomaton a) (x : Pair) where
  source_is : moves_of (source_of a) x.left ≡ map (lifted Both) (edges_of a x.left)
  source_is =
      same_moves Both a (source_of a) ok (record { letters = refl; start = refl; finals = refl; moves = refl }) x.left

  abbrev edges : List Edge
  edges = edges_of a x.left

  abbrev moves : List (Move (List Bool))
  moves = moves_of t x.right

  joint_is : joint_moves (source_of a) t x ≡ image_moves a t x
  joint_is =
      ap (λ (l : List (Move (List Bool))). first_moves x.right l ++ second_moves x.left moves ++ flat_map (λ m. moves_with m moves) l) source_is
      ∙ (λ i. (flat_map-map (λ m. made (first_alone m.kind) (pair_of m.to x.right)) (lifted Both) edges i ++ second_moves x.left moves) ++ flat_map-map (λ m. moves_with m moves) (lifted Both) edges i)

  -- ---- the pairs that follow

  pub next_made : (old : List Pair)
      → ((old ++ map (λ (j : Joint). j.to) (source_moves x.right edges)) ++ map (λ (j : Joint). j.to) (second_moves x.left moves)) ++ map (λ (j : Joint). j.to) (flat_map (λ m. read_moves m moves) edges)
      ≡ old ++ next_pairs (source_of a) t x
  next_made old =
      let to = λ (j : Joint). j.to in
      let lefts = source_moves x.right edges in
      let rights = second_moves x.left moves in
      let boths = flat_map (λ m. read_moves m moves) edges in
      append_assoc (old ++ map to lefts) (map to rights) (map to boths) ∙ append_assoc old (map to lefts) (map to rights ++ map to boths)
      ∙ ap (λ l. old ++ l) (sym (append_assoc (map to lefts) (map to rights) (map to boths))
      ∙ sym (map-append to (lefts ++ rights) boths ∙ ap (λ l. l ++ map to boths) (map-append to lefts rights)) ∙ ap (map to) (sym joint_is))

  -- ---- the edges

  abbrev label_of : Joint → Label
  label_of j = written_label j.kind

  made_label : (kind : Option Kind) (to : Pair) → map label_of (made kind to) ≡ written_labels kind
  made_label None to = refl
  made_label (Some kind) to = refl

  source_label : (label : Label) (to : Pair) → map label_of (made (source_alone label) to) ≡ silent_label label
  source_label None to = refl
  source_label (Some set) to = refl

  read_same : (m : Edge) → map label_of (read_moves m moves) ≡ read_labels m.label moves
  read_same m =
      map-flat_map label_of (λ n. made (read_by m.label n.kind) (pair_of m.to n.to)) (λ n. written_labels (read_by m.label n.kind)) (λ n. made_label (read_by m.label n.kind) (pair_of m.to n.to)) moves

  labels_same : map label_of (image_moves a t x) ≡ image_labels a t x
  labels_same =
      let lefts = source_moves x.right edges in
      let rights = second_moves x.left moves in
      let boths = flat_map (λ m. read_moves m moves) edges in
      map-append label_of (lefts ++ rights) boths ∙ ap (λ l. l ++ map label_of boths) (map-append label_of lefts rights)
      ∙ (λ i. (map-flat_map label_of (λ m. made (source_alone m.label) (pair_of m.to x.right)) (λ m. silent_label m.label) (λ m. source_label m.label (pair_of m.to x.right)) edges i
      ++ map-flat_map label_of (λ n. made (second_alone n.kind) (pair_of x.left n.to)) (λ n. written_labels (second_alone n.kind)) (λ n. made_label (second_alone n.kind) (pair_of x.left n.to)) moves i)
      ++ map-flat_map label_of (λ m. read_moves m moves) (λ m. read_labels m.label moves) read_same edges i)

  pub edges_made : (targets : List ℕ)
      → extended (extended (extended [] (silent_labels edges) targets) (alone_labels moves) targets) (flat_map (λ m. read_labels m.label moves) edges) targets
      ≡ written_edges (numbered (joint_moves (source_of a) t x) targets)
  edges_made targets =
      let lefts = silent_labels edges in
      let rights = alone_labels moves in
      let boths = flat_map (λ m. read_labels m.label moves) edges in
      ap (λ l. extended l boths targets) (extended_more [] lefts rights targets) ∙ extended_more [] (lefts ++ rights) boths targets
      ∙ sym (written_numbered (joint_moves (source_of a) t x) targets (all_write (source_of a) t x) ∙ ap (λ l. directed l targets) (ap (map label_of) joint_is ∙ labels_same))
