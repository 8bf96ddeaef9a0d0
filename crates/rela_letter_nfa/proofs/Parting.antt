-- Lists that stand one behind the other, and one more item or place.
use Rattle.std.proofs.Common.{◌≡◌, ℕ, zero, suc, ◌+◌, ◌-◌, ◌<◌, ◌≤◌, List, [], ◌∷◌, ◌++◌, length, get_or, take, drop, refl, ap, ◌∙◌, arith, length-drop}
use Rattle.std.proofs.Math.Seq.{drop-length}
use Rattle.std.proofs.lemmas.List.{take-append-le, drop-append-le, take_all}
use Rattle.rela_letter_nfa.specs.Parting.{ArePlaces, part, part_behind, parts_between}

-- the places are still places where there is more
pub places_before : (end more : ℕ) (places : List ℕ) → end ≤ more → ArePlaces end places → ArePlaces more places
places_before end more [] up are = are
places_before end more (from ∷ []) up are = omega (arith, up, are)
places_before end more (from ∷ to ∷ later) up are = (are.0, places_before end more (to ∷ later) up are.1)

first_within : (end from : ℕ) (later : List ℕ) → ArePlaces end (from ∷ later) → from ≤ end
first_within end from [] are = are
first_within end from (to ∷ later) are = let rest = first_within end to later are.1 in omega (arith, rest, are.0)

-- the end is one more place
pub places_more : (end : ℕ) (places : List ℕ) → ArePlaces end places → ArePlaces end (places ++ end ∷ [])
places_more end [] are = absurd are
places_more end (from ∷ []) are = (are, omega arith)
places_more end (from ∷ to ∷ later) are = (are.0, places_more end (to ∷ later) are.1)

pub part_kept : {X : Type 0} (xs ys : List X) (from to : ℕ) → from ≤ to → to ≤ length xs → part (xs ++ ys) from to ≡ part xs from to
part_kept xs ys from to up within =
    ap (take (to - from)) (drop-append-le from xs ys (omega (arith, up, within)))
    ∙ take-append-le (to - from) (drop from xs) ys (omega (arith, up, within, length-drop from xs))

-- more items change no closed list
pub between_kept : {X : Type 0} (xs ys : List X) (places : List ℕ) → ArePlaces (length xs) places → parts_between (xs ++ ys) places ≡ parts_between xs places
between_kept xs ys [] are = refl
between_kept xs ys (from ∷ []) are = refl
between_kept xs ys (from ∷ to ∷ later) are =
    let first : part (xs ++ ys) from to ≡ part xs from to = part_kept xs ys from to are.0 (first_within (length xs) to later are.1) in
    let rest = between_kept xs ys (to ∷ later) are.1 in
    (λ i. first i ∷ rest i)

-- they stand behind the open list
pub behind_more : {X : Type 0} (xs ys : List X) (places : List ℕ) → ArePlaces (length xs) places → part_behind (xs ++ ys) places ≡ part_behind xs places ++ ys
behind_more xs ys [] are = absurd are
behind_more xs ys (from ∷ []) are = drop-append-le from xs ys are
behind_more xs ys (from ∷ to ∷ later) are = behind_more xs ys (to ∷ later) are.1

-- the open list is closed
pub between_more : {X : Type 0} (xs : List X) (places : List ℕ) → ArePlaces (length xs) places → parts_between xs (places ++ length xs ∷ []) ≡ parts_between xs places ++ part_behind xs places ∷ []
between_more xs [] are = absurd are
between_more xs (from ∷ []) are = ap (λ l. l ∷ []) (take_all (length xs - from) (drop from xs) (omega (arith, length-drop from xs)))
between_more xs (from ∷ to ∷ later) are = ap (λ l. part xs from to ∷ l) (between_more xs (to ∷ later) are.1)

-- and nothing stands behind it
pub behind_none : {X : Type 0} (xs : List X) (places : List ℕ) → ArePlaces (length xs) places → part_behind xs (places ++ length xs ∷ []) ≡ []
behind_none xs [] are = absurd are
behind_none xs (from ∷ []) are = drop-length xs
behind_none xs (from ∷ to ∷ later) are = behind_none xs (to ∷ later) are.1

pub between_count : {X : Type 0} (xs : List X) (places : List ℕ) → ArePlaces (length xs) places → length (parts_between xs places) + 1 ≡ length places
between_count xs [] are = absurd are
between_count xs (from ∷ []) are = refl
between_count xs (from ∷ to ∷ later) are = let rest = between_count xs (to ∷ later) are.1 in omega (arith, rest)

-- the closed list of number k stands between two places
record StandsAt {X : Type 0} (xs : List X) (places : List ℕ) (k : ℕ) : Type 0 where
  in_order : get_or places k 0 ≤ get_or places (suc k) 0
  within : get_or places (suc k) 0 ≤ length xs
  is : part xs (get_or places k 0) (get_or places (suc k) 0) ≡ get_or (parts_between xs places) k []

stands_at : {X : Type 0} (xs : List X) (places : List ℕ) (k : ℕ) → ArePlaces (length xs) places → suc k < length places → StandsAt xs places k
stands_at xs [] k are below = absurd are
stands_at xs (from ∷ []) k are below = absurd (omega (arith, below))
stands_at xs (from ∷ to ∷ later) zero are below = record { in_order = are.0; within = first_within (length xs) to later are.1; is = refl }
stands_at xs (from ∷ to ∷ later) (suc k) are below =
    let rest = stands_at xs (to ∷ later) k are.1 (omega (arith, below)) in
    record { in_order = rest.in_order; within = rest.within; is = rest.is }

-- the two places, as they are read from a slice of them
module _ {X : Type 0} (xs : List X) (places held : List ℕ) (k from to : ℕ) (are : ArePlaces (length xs) places) (closed : k < length (parts_between xs places)) (lent : held ≡ places) where
  pub place_below : k + 1 < length held
  place_below = omega (arith, closed, between_count xs places are, ap length lent)

  stands : StandsAt xs places k
  stands = stands_at xs places k are (omega (arith, closed, between_count xs places are))

  module _ (from_is : from ≡ get_or held k 0) (to_is : to ≡ get_or held (k + 1) 0) where
    from_place : from ≡ get_or places k 0
    from_place = from_is ∙ ap (λ l. get_or l k 0) lent

    to_place : to ≡ get_or places (suc k) 0
    to_place = to_is ∙ ap (λ l. get_or l (k + 1) 0) lent ∙ ap (λ n. get_or places n 0) (omega arith)

    pub list_in_order : from ≤ to
    list_in_order = omega (arith, stands.in_order, from_place, to_place)

    pub list_within : to ≤ length xs
    list_within = omega (arith, stands.within, to_place)

    pub list_is : part xs from to ≡ get_or (parts_between xs places) k []
    list_is = (λ i. part xs (from_place i) (to_place i)) ∙ stands.is
