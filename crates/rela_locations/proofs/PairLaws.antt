-- Children under the names of their parents.
use Rattle.std.proofs.Common.{◌≡◌, ℕ, Bool, true, false, cond, ◌&&◌, ◌||◌, List, [], ◌∷◌, ◌++◌, map, refl, ap, sym, ◌∙◌}
use Rattle.std.specs.List.{list_any, filter, flat_map}
use Rattle.std.specs.Str.{bytes_eq}
use Rattle.std.proofs.lemmas.List.{map-append}
use Rattle.std.proofs.lemmas.List.Folds.{list_any-append}
use Rattle.rela_locations.specs.Names.{has_name}
use Rattle.rela_locations.proofs.Bools.{and_or, and_false, and_true}

-- a pair of a child's name and its parent's
abbrev pub is_pair : List ℕ → List ℕ → List ℕ × List ℕ → Bool
is_pair child parent pair = bytes_eq child pair.0 && bytes_eq parent pair.1

abbrev pub child_of : List ℕ × List ℕ → List ℕ
child_of pair = pair.0

module _ {X : Type 0} (key : X → List ℕ) (children : X → List (List ℕ)) where
  -- each child with its parent
  abbrev pub pairs_of : List X → List (List ℕ × List ℕ)
  pairs_of xs = flat_map (λ x. map (λ c. (c, key x)) (children x)) xs

  abbrev pub children_of : List X → List (List ℕ)
  children_of xs = flat_map children xs

  has_pair_under : (cs : List (List ℕ)) (key child parent : List ℕ) → list_any (is_pair child parent) (map (λ c. (c, key)) cs) ≡ (has_name cs child && bytes_eq parent key)
  has_pair_under [] key child parent = refl
  has_pair_under (c ∷ cs) key child parent =
      ap (λ b. (bytes_eq child c && bytes_eq parent key) || b) (has_pair_under cs key child parent)
      ∙ and_or (bytes_eq child c) (has_name cs child) (bytes_eq parent key)

  kept_or_not : (b : Bool) (x : X) (kept : List X) (child : List ℕ)
      → has_name (children_of (cond b (x ∷ kept) kept)) child ≡ ((has_name (children x) child && b) || has_name (children_of kept) child)
  kept_or_not true x kept child = list_any-append (bytes_eq child) (children x) (children_of kept) ∙ ap (λ b. b || has_name (children_of kept) child) (sym (and_true (has_name (children x) child)))
  kept_or_not false x kept child = ap (λ b. b || has_name (children_of kept) child) (sym (and_false (has_name (children x) child)))

  -- a child lies under the parents of a name where the pair is there
  pub lies_under : (xs : List X) (child parent : List ℕ)
      → has_name (children_of (filter (λ x. bytes_eq parent (key x)) xs)) child ≡ list_any (is_pair child parent) (pairs_of xs)
  lies_under [] child parent = refl
  lies_under (x ∷ xs) child parent =
      kept_or_not (bytes_eq parent (key x)) x (filter (λ x. bytes_eq parent (key x)) xs) child
      ∙ ap (λ b. (has_name (children x) child && bytes_eq parent (key x)) || b) (lies_under xs child parent)
      ∙ ap (λ b. b || list_any (is_pair child parent) (pairs_of xs)) (sym (has_pair_under (children x) (key x) child parent))
      ∙ sym (list_any-append (is_pair child parent) (map (λ c. (c, key x)) (children x)) (pairs_of xs))

  firsts_under : (cs : List (List ℕ)) (key : List ℕ) → map child_of (map (λ c. (c, key)) cs) ≡ cs
  firsts_under [] key = refl
  firsts_under (c ∷ cs) key = ap (λ r. c ∷ r) (firsts_under cs key)

  -- each child is in one pair
  pub firsts_are_children : (xs : List X) → map child_of (pairs_of xs) ≡ children_of xs
  firsts_are_children [] = refl
  firsts_are_children (x ∷ xs) =
      map-append child_of (map (λ c. (c, key x)) (children x)) (pairs_of xs)
      ∙ ap (λ r. r ++ map child_of (pairs_of xs)) (firsts_under (children x) (key x))
      ∙ ap (λ r. children x ++ r) (firsts_are_children xs)
