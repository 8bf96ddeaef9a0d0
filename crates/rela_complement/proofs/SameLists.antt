-- Lists of what is made of the elements of two lists, compared place by place.
use Rattle.std.proofs.Common.{◌≡◌, ◌∙◌, ℕ, ◌+◌, ◌<◌, List, length, take, get_or, map, sym, ap, arith}
use Rattle.std.proofs.lemmas.List.{length-map, get_or-map, take_more_same}

module _ {X Y : Type 0} (f : X → Y) (xs ys : List X) (n : ℕ) (d e x y : X) (within : n < length xs) (as_many : length xs ≡ length ys)
    (x_is : x ≡ get_or xs n d) (y_is : y ≡ get_or ys n e) where
  first : get_or (map f xs) n (f d) ≡ f x
  first = get_or-map f xs n d (f d) within ∙ ap f (sym x_is)

  second : get_or (map f ys) n (f d) ≡ f y
  second = get_or-map f ys n e (f d) (omega (arith, within, as_many)) ∙ ap f (sym y_is)

  -- where the lists are the same, so is what is made of the elements in one place
  pub same_there : map f xs ≡ map f ys → f x ≡ f y
  same_there same = sym first ∙ ap (λ (l : List Y). get_or l n (f d)) same ∙ second

  -- where they are the same up to a place, and there, one more is
  pub one_more : take n (map f xs) ≡ take n (map f ys) → f x ≡ f y → take (n + 1) (map f xs) ≡ take (n + 1) (map f ys)
  one_more so_far same =
      take_more_same (map f xs) (map f ys) n (f d) (omega (arith, within, length-map xs f)) (omega (arith, within, as_many, length-map ys f))
      so_far (first ∙ same ∙ sym second)
