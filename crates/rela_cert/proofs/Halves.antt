-- Lists whose second half is the first again, element by element.
use Rattle.std.proofs.Common.{◌≡◌, ◌∙◌, ℕ, ◌+◌, ◌<◌, List, ◌++◌, length, get_or, take, drop, sym, ap, arith, length-append, length-drop}
use Rattle.std.proofs.lemmas.List.{get_or-append-add, get_or-drop, get_or-take, get_or_append_left, length-take-le, same_lists, take-append-drop}

module _ {X : Type 0} (xs : List X) (e : X) (half : ℕ) (whole : half + half ≡ length xs) where
  -- a list is so where each of the first half is there again
  pub repeated : ((j : ℕ) (d : X) → j < half → get_or xs j d ≡ get_or xs (half + j) d) → (first : List X) × (xs ≡ first ++ first)
  repeated each =
      let first : List X = take half xs in
      let second : List X = drop half xs in
      let long : length second ≡ half = length-drop half xs ∙ omega (arith, whole) in
      let as_long : length first ≡ half = length-take-le half xs (omega (arith, whole)) in
      let same : second ≡ first = same_lists second first (long ∙ sym as_long) (λ k d below.
      let less : k < half = omega (arith, below, long) in
      get_or-drop half xs k d ∙ (sym (each k d less) ∙ sym (get_or-take half xs k d less))) in
      (first, sym (take-append-drop half xs) ∙ ap (λ (ys : List X). first ++ ys) same)

  -- and each of the first half of such a list is
  pub each_again : (first : List X) → xs ≡ first ++ first → (j : ℕ) → j < half → get_or xs j e ≡ get_or xs (half + j) e
  each_again first is j below =
      let long : length first ≡ half = let sum : length xs ≡ length first + length first = ap (λ (ys : List X). length ys) is ∙ length-append first first in omega (arith, sum, whole) in
      let one : get_or xs j e ≡ get_or first j e = ap (λ (ys : List X). get_or ys j e) is ∙ get_or_append_left first first e j (omega (arith, below, long)) in
      let two : get_or xs (half + j) e ≡ get_or first j e =
      ap (λ (ys : List X). get_or ys (half + j) e) is ∙ (ap (λ (n : ℕ). get_or (first ++ first) (n + j) e) (sym long) ∙ get_or-append-add first first j e) in
      one ∙ sym two
