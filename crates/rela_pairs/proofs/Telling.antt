-- A table whose places tell of their pairs.
use Rattle.std.proofs.Common.{◌≡◌, ◌≢◌, ℕ, ◌*◌, ◌/◌, ◌<◌, ◌≤◌, List, Option, [], ◌∷◌, ◌++◌, length, get_or, set, map, Some, None, refl, sym, ap, ◌∙◌, subst, inl, inr, arith, length-append}
use Rattle.std.specs.List.{Contains, slice_get, range_with_len}
use Rattle.std.proofs.lemmas.Bool.{cases_eq}
use Rattle.std.proofs.lemmas.Nat.{mul-add-lt, div-mul-add}
use Rattle.std.proofs.lemmas.List.{get_or-map, get_or-set_same, get_or-set_other, get_or_default, get_or_push, length-set, length-map}
use Rattle.std.proofs.lemmas.List.Elements.{All-push, Contains-append_cases, Contains-get_or}
use Rattle.std.proofs.lemmas.List.FromFn.{get_or-range_with_len, length-range_with_len}
use Rattle.std.proofs.lemmas.List.Quantifiers.{all_pairs_push}
use Rattle.std.proofs.lemmas.Option.{slice_get_within, slice_get-get_or, get_or_from_slice_get}
use Rattle.rela_pairs.specs.Finding.{Finds}
use Rattle.rela_pairs.specs.Places.{Fits, place_of, Tells, AreTold}
use Rattle.rela_pairs.specs.Reachable.{AreDistinct}
use Rattle.rela_pairs.specs.declared.pair.Pair.{Pair}
use Rattle.rela_pairs.specs.declared.shape.Shape.{Shape}
use Rattle.rela_pairs.proofs.Distinct.{distinct_within}
use Rattle.rela_pairs.proofs.Numbering.{slice_get_grown, only_one}

place_below : (shape : Shape) (x : Pair) → Fits shape x → place_of shape x < shape.lefts * shape.rights
place_below shape x fits = omega (arith, mul-add-lt x.left shape.rights x.right shape.lefts fits.0 fits.1)

-- two pairs have two places
same_place : (shape : Shape) (x y : Pair) → Fits shape x → Fits shape y → place_of shape x ≡ place_of shape y → x ≡ y
same_place shape x y at_x at_y same =
    let left : x.left ≡ y.left =
    sym (div-mul-add x.left shape.rights x.right at_x.1) ∙ ap (λ n. n / shape.rights) same ∙ div-mul-add y.left shape.rights y.right at_y.1 in
    let row : x.left * shape.rights ≡ y.left * shape.rights = ap (λ n. n * shape.rights) left in
    let right : x.right ≡ y.right = omega (arith, row, same) in
    (λ j. record { left = left j; right = right j })

module _ (shape : Shape) (pairs : List Pair) (numbers : List (Option ℕ)) (told : AreTold shape pairs numbers) where
  -- there are no more pairs than places
  pub told_few : length pairs ≤ length numbers
  told_few =
      let within = distinct_within (map (place_of shape) pairs) (range_with_len 0 (length numbers)) apart below in
      omega (arith, within, length-map pairs (place_of shape), length-range_with_len 0 (length numbers))
    where
      none : Pair
      none = record { left = 0; right = 0 }

      fits : (i : ℕ) → i < length pairs → Fits shape (get_or pairs i none)
      fits i at = told.fit i none at

      apart : AreDistinct (map (place_of shape) pairs)
      apart i j d before at equal =
          let high : j < length pairs = omega (arith, at, length-map pairs (place_of shape)) in
          let low : i < length pairs = omega (arith, before, high) in
          told.distinct i j none before high
          (same_place shape (get_or pairs i none) (get_or pairs j none) (fits i low) (fits j high)
          (sym (get_or-map (place_of shape) pairs i none d low) ∙ equal ∙ get_or-map (place_of shape) pairs j none d high))

      below : (z : ℕ) → Contains (map (place_of shape) pairs) z → Contains (range_with_len 0 (length numbers)) z
      below z (k, at, is) =
          let within : k < length pairs = omega (arith, at, length-map pairs (place_of shape)) in
          let same : z ≡ place_of shape (get_or pairs k none) = sym is ∙ get_or-map (place_of shape) pairs k none z within in
          let less : z < length numbers = omega (arith, same, place_below shape (get_or pairs k none) (fits k within), told.places) in
          (z, omega (arith, less, length-range_with_len 0 (length numbers)), get_or-range_with_len 0 (length numbers) z z less ∙ omega arith)

  -- what was read in the place of a pair
  pub told_read : (x : Pair) (read o : Option ℕ) → Fits shape x → read ≡ get_or numbers (place_of shape x) read → read ≡ o → get_or numbers (place_of shape x) None ≡ o
  told_read x read o fits got is =
      get_or_default numbers (place_of shape x) None read (omega (arith, place_below shape x fits, told.places)) ∙ sym got ∙ is

  -- a number that stands in the place of a pair
  pub told_number : (x : Pair) (n : ℕ) → Fits shape x → get_or numbers (place_of shape x) None ≡ Some n → slice_get pairs n ≡ Some x
  told_number x n fits at = subst (Tells pairs x) at (told.told x fits)

  pub told_found : (x : Pair) (n : ℕ) → Fits shape x → get_or numbers (place_of shape x) None ≡ Some n → Finds pairs pairs x
  told_found x n fits at =
      let is = told_number x n fits at in
      ((n, slice_get_within pairs n x is, get_or_from_slice_get pairs n x x is), inl refl)

  module _ (x : Pair) (fits : Fits shape x) (at : get_or numbers (place_of shape x) None ≡ None) where
    told_absent : Contains pairs x → ⊥
    told_absent = subst (Tells pairs x) at (told.told x fits)

    -- what a place tells is so when another pair is put in
    still_told : (y : Pair) → (x ≡ y → ⊥) → (o : Option ℕ) → Tells pairs y o → Tells (pairs ++ x ∷ []) y o
    still_told y other None absent = λ among. elim (Contains-append_cases pairs (x ∷ []) y among) [
      | inl before ↦ absent before
      | inr last ↦ other (only_one x y last)
    ]
    still_told y other (Some n) is = slice_get_grown pairs (x ∷ []) n y is

    here_told : slice_get (pairs ++ x ∷ []) (length pairs) ≡ Some x
    here_told =
        slice_get-get_or (pairs ++ x ∷ []) (length pairs) x (omega (arith, length-append pairs (x ∷ []))) ∙ ap Some (get_or_push pairs x x (length pairs) refl)

    pub told_more : AreTold shape (pairs ++ x ∷ []) (set numbers (place_of shape x) (Some (length pairs)))
    told_more = record {
      places = length-set numbers (place_of shape x) (Some (length pairs)) ∙ told.places;
      small = omega (arith, length-set numbers (place_of shape x) (Some (length pairs)), told.small);
      distinct = all_pairs_push ◌≢◌ pairs x told.distinct (λ i d below equal. told_absent (subst (λ z. Contains pairs z) equal (Contains-get_or pairs i d below)));
      fit = All-push (Fits shape) pairs x told.fit fits;
      told = λ y fits_y. elim (cases_eq (place_of shape y) (place_of shape x)) [
        | inl same ↦
            let is : x ≡ y = same_place shape x y fits fits_y (sym same) in
            let inside : place_of shape x < length numbers = omega (arith, place_below shape x fits, told.places) in
            subst (Tells (pairs ++ x ∷ []) y)
            (sym (ap (λ n. get_or (set numbers (place_of shape x) (Some (length pairs))) n None) same ∙ get_or-set_same numbers (place_of shape x) (Some (length pairs)) None inside))
            (here_told ∙ ap Some is)
        | inr other ↦
            subst (Tells (pairs ++ x ∷ []) y) (sym (get_or-set_other numbers (place_of shape x) (place_of shape y) (Some (length pairs)) None other))
            (still_told y (λ is. other (ap (place_of shape) (sym is))) (get_or numbers (place_of shape y) None) (told.told y fits_y))
      ];
    }
