-- Labels that are unions of classes: read by the least letter of each class, and then by the class of each letter, they are as before.
use Rattle.std.proofs.Common.{◌≡◌, ◌∙◌, ℕ, zero, suc, ◌^◌, ◌<◌, Bool, false, List, [], ◌∷◌, Option, None, Some, length, map, get_or, refl, sym, ap, arith}
use Rattle.std.specs.List.{All}
use Rattle.std.specs.Option.{ForSome}
use Rattle.std.proofs.lemmas.List.{ext_get_or, length-map}
use Rattle.std.proofs.lemmas.List.Elements.{All-head, All-tail}
use Rattle.rela_labels.specs.Letters.{has}
use Rattle.rela_labels.specs.Partition.{IsLeastOf, block_count, block_of}
use Rattle.rela_nfa.specs.Automaton.{Automaton, IsAutomaton, Move}
use Rattle.rela_nfa.specs.Relabelling.{IsRelabelled, relabelled, relabelled_move}
use Rattle.rela_complement.specs.Merging.{AreUnions, IsMerged, IsUnion}
use Rattle.rela_complement.proofs.OtherLetters.{has_by}

pub block_below : (partition : List ℕ) (s : ℕ) → s < length partition → block_of partition s < block_count partition
unfolding block_count
block_below [] s below = absurd (omega (arith, below))
block_below (b ∷ others) zero below = omega arith
block_below (b ∷ others) (suc s) below = omega (arith, block_below others s (omega (arith, below)))

mapped_back : {X : Type 0} (f g : X → X) (xs : List X) → All (λ x. g (f x) ≡ x) xs → map g (map f xs) ≡ xs
mapped_back f g [] each = refl
mapped_back f g (x ∷ xs) each =
    ap (λ y. y ∷ map g (map f xs)) (All-head (λ y. g (f y) ≡ y) x xs each) ∙ ap (λ ys. x ∷ ys) (mapped_back f g xs (All-tail (λ y. g (f y) ≡ y) x xs each))

module _ (classes letters : List ℕ) (least : (c : ℕ) → c < length letters → IsLeastOf classes c (get_or letters c 0))
    (counted : (k : ℕ) → k < length classes → block_of classes k < length letters) where
  pub back_set : (set : List Bool) → length set ≡ length classes → IsUnion classes set → relabelled classes (relabelled letters set) ≡ set
  back_set set size union =
      ext_get_or false (relabelled classes (relabelled letters set)) set (length-map classes (has (relabelled letters set)) ∙ sym size) (λ k below.
      let k_in : k < length classes = omega (arith, below, size, length-map classes (has (relabelled letters set))) in
      let first = least (block_of classes k) (counted k k_in) in
      has_by classes (relabelled letters set) k k_in ∙ has_by letters set (block_of classes k) (counted k k_in)
      ∙ union (get_or letters (block_of classes k) 0) k first.within k_in first.member)

  back_label : (label : Option (List Bool)) (to : ℕ) → ForSome label (λ set. length set ≡ length classes) → ForSome label (IsUnion classes)
      → relabelled_move classes (relabelled_move letters (record { label = label; to = to })) ≡ record { label = label; to = to }
  back_label None to sized union = refl
  back_label (Some set) to sized union =
      ap (λ (s : List Bool). let move : Move = record { label = Some s; to = to } in move) (back_set set (sized set refl) (union set refl))

  module _ (a m : Automaton) (ok : IsAutomaton a) (size : a.letters ≡ length classes) (unions : AreUnions classes a) (built : IsRelabelled letters a m) where
    back_moves : (p : ℕ) (d : List Move) → p < length a.edges → map (relabelled_move classes) (map (relabelled_move letters) (get_or a.edges p d)) ≡ get_or a.edges p d
    back_moves p d below =
        mapped_back (relabelled_move letters) (relabelled_move classes) (get_or a.edges p d) (λ k e inside.
        let move = get_or (get_or a.edges p d) k e in
        back_label move.label move.to (λ set is. (ok.moves p d below k e inside).sized set is ∙ size) (unions p d below k e inside))

    by_classes : IsRelabelled classes m a
    by_classes = record {
      letters = size;
      start = sym built.start;
      finals = sym built.finals;
      edges = sym (ap (map (map (relabelled_move classes))) built.edges ∙ mapped_back (map (relabelled_move letters)) (map (relabelled_move classes)) a.edges back_moves);
    }

    pub merged : (over : List Bool) → length over ≡ a.letters → IsUnion classes over → length classes < 2 ^ 32 → (small : List Bool) → small ≡ relabelled letters over
        → IsMerged a over classes m small
    merged over sized union few small is = record {
      few = few;
      letters = letters;
      by_letters = built;
      by_classes = by_classes;
      over_by_letters = is;
      over_by_classes = sym (back_set over (sized ∙ size) union) ∙ ap (relabelled classes) (sym is);
    }
