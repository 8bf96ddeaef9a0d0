-- Lists as binary trees.
use Rattle.std.proofs.Common.{zero, suc, ◌≡◌, ℕ, ◌-◌, ◌≤◌, List, [], ◌∷◌, ◌++◌, length, take, drop, refl, ap, ap₂, sym, ◌∙◌, arith, length-drop}
use Rattle.std.proofs.lemmas.List.{length-take-le}
use Rattle.std.proofs.Math.Seq.{drop-append_seam, take-append_seam}
use Rattle.rela_expand.specs.Expansions.{half, tree_within, tree_of}

half_below : (n d : ℕ) → 2 ≤ n → n ≤ suc d → half n ≤ d
half_below n d two few = omega arith

half_within : (n : ℕ) → half n ≤ n
half_within n = omega arith

half_some : (n : ℕ) → 2 ≤ n → 1 ≤ half n
half_some n two = omega arith

rest_below : (n d : ℕ) → 2 ≤ n → n ≤ suc d → n - half n ≤ d
rest_below n d two few = omega arith

module _ {X : Type 0} (join : X → X → X) (none : X) where
  -- of two parts or more, the tree of the first half and that of the others
  pub tree_splits : (d : ℕ) (xs : List X) → 2 ≤ length xs
      → tree_within (suc d) join none xs ≡ join (tree_within d join none (take (half (length xs)) xs)) (tree_within d join none (drop (half (length xs)) xs))
  tree_splits d [] two = absurd (omega arith)
  tree_splits d (x ∷ []) two = absurd (omega arith)
  tree_splits d (x ∷ y ∷ xs) two = refl

  pub tree_joins : (d : ℕ) (xs ys : List X) → 2 ≤ length (xs ++ ys) → length xs ≡ half (length (xs ++ ys))
      → tree_within (suc d) join none (xs ++ ys) ≡ join (tree_within d join none xs) (tree_within d join none ys)
  tree_joins d xs ys two front =
      tree_splits d (xs ++ ys) two
      ∙ ap (λ (n : ℕ). join (tree_within d join none (take n (xs ++ ys))) (tree_within d join none (drop n (xs ++ ys)))) (sym front)
      ∙ ap (λ (zs : List X). join (tree_within d join none zs) (tree_within d join none (drop (length xs) (xs ++ ys)))) (take-append_seam xs ys)
      ∙ ap (λ (zs : List X). join (tree_within d join none xs) (tree_within d join none zs)) (drop-append_seam xs ys)

  -- the bound does not count where it is met
  pub bound_is_free : (d c : ℕ) (xs : List X) → length xs ≤ d → length xs ≤ c → tree_within d join none xs ≡ tree_within c join none xs
  bound_is_free zero zero xs b b' = refl
  bound_is_free zero (suc c) [] b b' = refl
  bound_is_free zero (suc c) (x ∷ xs) b b' = absurd (omega arith)
  bound_is_free (suc d) zero [] b b' = refl
  bound_is_free (suc d) zero (x ∷ xs) b b' = absurd (omega arith)
  bound_is_free (suc d) (suc c) [] b b' = refl
  bound_is_free (suc d) (suc c) (x ∷ []) b b' = refl
  bound_is_free (suc d) (suc c) (x ∷ y ∷ xs) b b' =
      let n = length (x ∷ y ∷ xs) in
      let two : 2 ≤ n = omega arith in
      let front : length (take (half n) (x ∷ y ∷ xs)) ≡ half n = length-take-le (half n) (x ∷ y ∷ xs) (half_within n) in
      let rest : length (drop (half n) (x ∷ y ∷ xs)) ≡ n - half n = length-drop (half n) (x ∷ y ∷ xs) in
      let h = half_below n d two b in
      let h' = half_below n c two b' in
      let r = rest_below n d two b in
      let r' = rest_below n c two b' in
      ap₂ join
      (bound_is_free d c (take (half n) (x ∷ y ∷ xs)) (omega arith) (omega arith))
      (bound_is_free d c (drop (half n) (x ∷ y ∷ xs)) (omega arith) (omega arith))

  -- a tree of two parts or more is that of its halves
  pub tree_of_halves : (xs : List X) → 2 ≤ length xs
      → tree_of join none xs ≡ join (tree_of join none (take (half (length xs)) xs)) (tree_of join none (drop (half (length xs)) xs))
  tree_of_halves [] two = absurd (omega arith)
  tree_of_halves (x ∷ []) two = absurd (omega arith)
  tree_of_halves (x ∷ y ∷ xs) two =
      let n = length (x ∷ y ∷ xs) in
      let front : length (take (half n) (x ∷ y ∷ xs)) ≡ half n = length-take-le (half n) (x ∷ y ∷ xs) (half_within n) in
      let rest : length (drop (half n) (x ∷ y ∷ xs)) ≡ n - half n = length-drop (half n) (x ∷ y ∷ xs) in
      let few : n ≤ suc (length (y ∷ xs)) = omega arith in
      let h = half_below n (length (y ∷ xs)) two few in
      let r = rest_below n (length (y ∷ xs)) two few in
      ap₂ join
      (bound_is_free (length (y ∷ xs)) (length (take (half n) (x ∷ y ∷ xs))) (take (half n) (x ∷ y ∷ xs)) (omega arith) (omega arith))
      (bound_is_free (length (y ∷ xs)) (length (drop (half n) (x ∷ y ∷ xs))) (drop (half n) (x ∷ y ∷ xs)) (omega arith) (omega arith))
