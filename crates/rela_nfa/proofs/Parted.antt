-- Lists that stand one behind the other, and what they are mapped to.
use Rattle.std.proofs.Common.{◌≡◌, ℕ, zero, suc, ◌+◌, ◌-◌, ◌<◌, ◌≤◌, List, [], ◌∷◌, ◌++◌, length, get_or, map, take, drop, refl, sym, ap, ◌∙◌, subst, arith, length-append, length-drop}
use Rattle.std.proofs.Math.Seq.{drop-append_seam}
use Rattle.std.proofs.lemmas.List.{length-map, map-append, take-map, drop-map, take-append-le, drop-append-le, take_all}
use Rattle.rela_pairs.specs.Parting.{part, parts, Rises}

pub parts_count : {X : Type 0} (xs : List X) (starts : List ℕ) → length (parts xs starts) ≡ length starts
parts_count xs [] = refl
parts_count xs (start ∷ starts) = ap suc (parts_count xs starts)

part_map : {X Y : Type 0} (f : X → Y) (xs : List X) (from to : ℕ) → map f (part xs from to) ≡ part (map f xs) from to
part_map f xs from to = sym (take-map f (to - from) (drop from xs)) ∙ ap (take (to - from)) (sym (drop-map f from xs))

part_after : {X : Type 0} (xs : List X) (starts : List ℕ) (k : ℕ) → k < length starts → get_or (parts xs starts) k [] ≡ part xs (get_or starts k 0) (get_or starts (suc k) (length xs))
part_after xs [] k below = absurd (omega (arith, below))
part_after xs (start ∷ starts) zero below = refl
part_after xs (start ∷ starts) (suc k) below = part_after xs starts k (omega (arith, below))

-- ---- where the list of a number stands

rises_first : (end : ℕ) (starts : List ℕ) → Rises end starts → get_or starts 0 end ≤ end
rises_first end [] rises = omega arith
rises_first end (start ∷ starts) rises = let rest = rises_first end starts rises.1 in omega (arith, rest, rises.0)

rises_at : (end : ℕ) (starts : List ℕ) (k : ℕ) → Rises end starts → k < length starts → (get_or starts k 0 ≤ get_or starts (suc k) end) × (get_or starts (suc k) end ≤ end)
rises_at end [] k rises below = absurd (omega (arith, below))
rises_at end (start ∷ starts) zero rises below = (rises.0, rises_first end starts rises.1)
rises_at end (start ∷ starts) (suc k) rises below = rises_at end starts k rises.1 (omega (arith, below))

module _ {X Y : Type 0} (f : X → Y) (xs : List X) (starts : List ℕ) (k from to : ℕ) (rises : Rises (length xs) starts) (below : k < length starts)
    (from_is : from ≡ get_or starts k 0) (to_is : to ≡ get_or starts (k + 1) (length xs)) where
  to_next : to ≡ get_or starts (suc k) (length xs)
  to_next = to_is ∙ ap (λ n. get_or starts n (length xs)) (omega arith)

  pub list_in_order : from ≤ to
  list_in_order = omega (arith, from_is, to_next, (rises_at (length xs) starts k rises below).0)

  pub list_within : to ≤ length xs
  list_within = omega (arith, to_next, (rises_at (length xs) starts k rises below).1)

  pub list_mapped : map f (part xs from to) ≡ get_or (parts (map f xs) starts) k []
  list_mapped =
      let to_mapped : to ≡ get_or starts (suc k) (length (map f xs)) = to_next ∙ ap (get_or starts (suc k)) (sym (length-map xs f)) in
      part_map f xs from to ∙ (λ i. part (map f xs) (from_is i) (to_mapped i)) ∙ sym (part_after (map f xs) starts k below)

-- ---- one list more

first_pushed : (starts : List ℕ) (n m : ℕ) → get_or (starts ++ n ∷ []) 0 m ≡ get_or starts 0 n
first_pushed [] n m = refl
first_pushed (start ∷ starts) n m = refl

pub rises_more : (end more : ℕ) (starts : List ℕ) → Rises end starts → end ≤ more → Rises more (starts ++ end ∷ [])
rises_more end more [] rises up = (up, tt)
rises_more end more (start ∷ starts) rises up = (subst (λ n. start ≤ n) (sym (first_pushed starts end more)) rises.0, rises_more end more starts rises.1 up)

part_kept : {X : Type 0} (xs ys : List X) (from to : ℕ) → from ≤ to → to ≤ length xs → part (xs ++ ys) from to ≡ part xs from to
part_kept xs ys from to up within =
    ap (take (to - from)) (drop-append-le from xs ys (omega (arith, up, within)))
    ∙ take-append-le (to - from) (drop from xs) ys (omega (arith, up, within, length-drop from xs))

part_last : {X : Type 0} (xs ys : List X) → part (xs ++ ys) (length xs) (length (xs ++ ys)) ≡ ys
part_last xs ys =
    ap (take (length (xs ++ ys) - length xs)) (drop-append_seam xs ys) ∙ take_all (length (xs ++ ys) - length xs) ys (omega (arith, length-append xs ys))

parts_more : {X : Type 0} (xs ys : List X) (starts : List ℕ) → Rises (length xs) starts → parts (xs ++ ys) (starts ++ length xs ∷ []) ≡ parts xs starts ++ ys ∷ []
parts_more xs ys [] rises = ap (λ l. l ∷ []) (part_last xs ys)
parts_more xs ys (start ∷ starts) rises =
    let first : part (xs ++ ys) start (get_or (starts ++ length xs ∷ []) 0 (length (xs ++ ys))) ≡ part xs start (get_or starts 0 (length xs)) =
    ap (part (xs ++ ys) start) (first_pushed starts (length xs) (length (xs ++ ys)))
    ∙ part_kept xs ys start (get_or starts 0 (length xs)) rises.0 (rises_first (length xs) starts rises.1) in
    (λ i. first i ∷ parts_more xs ys starts rises.1 i)

pub lists_more : {X Y : Type 0} (f : X → Y) (xs ys : List X) (starts : List ℕ) → Rises (length xs) starts
    → parts (map f (xs ++ ys)) (starts ++ length xs ∷ []) ≡ parts (map f xs) starts ++ map f ys ∷ []
lists_more f xs ys starts rises =
    ap (λ l. parts l (starts ++ length xs ∷ [])) (map-append f xs ys) ∙ ap (λ n. parts (map f xs ++ map f ys) (starts ++ n ∷ [])) (sym (length-map xs f))
    ∙ parts_more (map f xs) (map f ys) starts (subst (λ n. Rises n starts) (sym (length-map xs f)) rises)

-- each list by itself
pub parts_mapped : {X Y : Type 0} (f : X → Y) (xs : List X) (starts : List ℕ) → parts (map f xs) starts ≡ map (map f) (parts xs starts)
parts_mapped f xs [] = refl
parts_mapped f xs (start ∷ starts) =
    let first : part (map f xs) start (get_or starts 0 (length (map f xs))) ≡ map f (part xs start (get_or starts 0 (length xs))) =
    ap (λ n. part (map f xs) start (get_or starts 0 n)) (length-map xs f) ∙ sym (part_map f xs start (get_or starts 0 (length xs))) in
    (λ i. first i ∷ parts_mapped f xs starts i)
