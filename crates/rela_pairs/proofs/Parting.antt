-- Lists that stand one behind the other.
use Rattle.std.proofs.Common.{◌≡◌, ℕ, zero, suc, ◌+◌, ◌-◌, ◌<◌, ◌≤◌, List, [], ◌∷◌, ◌++◌, length, get_or, take, drop, refl, sym, ap, ◌∙◌, subst, arith, length-append, length-drop}
use Rattle.std.proofs.Math.Seq.{drop-append_seam}
use Rattle.std.proofs.lemmas.List.{take-append-le, drop-append-le, take_all}
use Rattle.rela_pairs.specs.Parting.{part, parts, Rises}

part_after : {X : Type 0} (xs : List X) (starts : List ℕ) (k : ℕ) → k < length starts → get_or (parts xs starts) k [] ≡ part xs (get_or starts k 0) (get_or starts (suc k) (length xs))
part_after xs [] k below = absurd (omega (arith, below))
part_after xs (start ∷ starts) zero below = refl
part_after xs (start ∷ starts) (suc k) below = part_after xs starts k (omega (arith, below))

pub parts_count : {X : Type 0} (xs : List X) (starts : List ℕ) → length (parts xs starts) ≡ length starts
parts_count xs [] = refl
parts_count xs (start ∷ starts) = ap suc (parts_count xs starts)

rises_first : (end : ℕ) (starts : List ℕ) → Rises end starts → get_or starts 0 end ≤ end
rises_first end [] rises = omega arith
rises_first end (start ∷ starts) rises = let rest = rises_first end starts rises.1 in omega (arith, rest, rises.0)

rises_at : (end : ℕ) (starts : List ℕ) (k : ℕ) → Rises end starts → k < length starts → (get_or starts k 0 ≤ get_or starts (suc k) end) × (get_or starts (suc k) end ≤ end)
rises_at end [] k rises below = absurd (omega (arith, below))
rises_at end (start ∷ starts) zero rises below = (rises.0, rises_first end starts rises.1)
rises_at end (start ∷ starts) (suc k) rises below = rises_at end starts k rises.1 (omega (arith, below))

-- where the list of a number stands
module _ (numbers starts : List ℕ) (k from to : ℕ) (rises : Rises (length numbers) starts) (below : k < length starts) (from_is : from ≡ get_or starts k 0)
    (to_is : to ≡ get_or starts (k + 1) (length numbers)) where
  to_next : to ≡ get_or starts (suc k) (length numbers)
  to_next = to_is ∙ ap (λ n. get_or starts n (length numbers)) (omega arith)

  pub in_order : from ≤ to
  in_order = omega (arith, from_is, to_next, (rises_at (length numbers) starts k rises below).0)

  pub within : to ≤ length numbers
  within = omega (arith, to_next, (rises_at (length numbers) starts k rises below).1)

  pub list_is : part numbers from to ≡ get_or (parts numbers starts) k []
  list_is = (λ i. part numbers (from_is i) (to_next i)) ∙ sym (part_after numbers starts k below)

first_pushed : (starts : List ℕ) (n m : ℕ) → get_or (starts ++ n ∷ []) 0 m ≡ get_or starts 0 n
first_pushed [] n m = refl
first_pushed (start ∷ starts) n m = refl

pub rises_more : (end more : ℕ) (starts : List ℕ) → Rises end starts → end ≤ more → Rises more (starts ++ end ∷ [])
rises_more end more [] rises up = (up, tt)
rises_more end more (start ∷ starts) rises up = (subst (λ n. start ≤ n) (sym (first_pushed starts end more)) rises.0, rises_more end more starts rises.1 up)

part_kept : {X : Type 0} (xs ys : List X) (from to : ℕ) → from ≤ to → to ≤ length xs → part (xs ++ ys) from to ≡ part xs from to
part_kept xs ys from to up within =
    ap (take (to - from)) (drop-append-le from xs ys (omega (arith, up, within)))
    ∙ take-append-le (to - from) (drop from xs) ys (omega (arith, up, within, length-drop from xs))

part_last : {X : Type 0} (xs ys : List X) → part (xs ++ ys) (length xs) (length (xs ++ ys)) ≡ ys
part_last xs ys =
    ap (take (length (xs ++ ys) - length xs)) (drop-append_seam xs ys) ∙ take_all (length (xs ++ ys) - length xs) ys (omega (arith, length-append xs ys))

-- one list more
pub parts_more : {X : Type 0} (xs ys : List X) (starts : List ℕ) → Rises (length xs) starts → parts (xs ++ ys) (starts ++ length xs ∷ []) ≡ parts xs starts ++ ys ∷ []
parts_more xs ys [] rises = ap (λ l. l ∷ []) (part_last xs ys)
parts_more xs ys (start ∷ starts) rises =
    let first : part (xs ++ ys) start (get_or (starts ++ length xs ∷ []) 0 (length (xs ++ ys))) ≡ part xs start (get_or starts 0 (length xs)) =
    ap (part (xs ++ ys) start) (first_pushed starts (length xs) (length (xs ++ ys)))
    ∙ part_kept xs ys start (get_or starts 0 (length xs)) rises.0 (rises_first (length xs) starts rises.1) in
    (λ i. first i ∷ parts_more xs ys starts rises.1 i)
