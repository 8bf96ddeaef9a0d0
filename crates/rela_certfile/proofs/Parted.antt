-- Lists that stand one behind the other, told again by where they begin.
use Rattle.std.proofs.Common.{◌≡◌, ℕ, ◌+◌, ◌-◌, ◌<◌, ◌≤◌, zero, suc, Some, List, [], ◌∷◌, ◌++◌, length, get_or, take, drop, refl, sym, ◌∙◌, ap, subst, append_assoc, length-append, lit≤, arith}
use Rattle.std.specs.List.{slice_get, slice_range}
use Rattle.std.proofs.Math.Seq.{take-append_seam, take-append-add, drop-append_seam, drop-append-add}
use Rattle.std.proofs.lemmas.List.{take-append-le}
use Rattle.rela_certfile.specs.Parts.{joined, parts, starts_of}

pub length-starts_of : {X : Type 0} (from : ℕ) (lists : List (List X)) → length (starts_of from lists) ≡ length lists
length-starts_of from [] = refl
length-starts_of from (list ∷ lists) = ap suc (length-starts_of (from + length list) lists)

-- the elements of the lists before this one, and of this one
pub joined_more : {X : Type 0} (lists : List (List X)) (i : ℕ) (list : List X) → slice_get lists i ≡ Some list → length (joined (take (suc i) lists)) ≡ length (joined (take i lists)) + length list
joined_more [] i list is = cc
joined_more (l ∷ lists) zero list is =
    let same : l ≡ list = cc in
    length-append l [] ∙ omega (arith, ap length same)
joined_more (l ∷ lists) (suc i) list is =
    omega (arith, length-append l (joined (take (suc i) lists)), length-append l (joined (take i lists)), joined_more lists i list is)

-- no more elements stand in some of the lists
pub joined_within : {X : Type 0} (lists : List (List X)) (i : ℕ) → length (joined (take i lists)) ≤ length (joined lists)
joined_within [] zero = lit≤ tt
joined_within [] (suc i) = lit≤ tt
joined_within (l ∷ lists) zero = omega arith
joined_within (l ∷ lists) (suc i) =
    omega (arith, joined_within lists i, length-append l (joined (take i lists)), length-append l (joined lists))

-- where a list begins, and where all end
pub starts_at : {X : Type 0} (from : ℕ) (lists : List (List X)) (i end : ℕ) → end ≡ from + length (joined lists) → i ≤ length lists → get_or (starts_of from lists) i end ≡ from + length (joined (take i lists))
starts_at from [] zero end is inside = is
starts_at from [] (suc i) end is inside = absurd (omega arith)
starts_at from (l ∷ lists) zero end is inside = omega arith
starts_at from (l ∷ lists) (suc i) end is inside =
    omega (arith, starts_at (from + length l) lists i end (omega (arith, is, length-append l (joined lists))) (omega arith), length-append l (joined (take i lists)))

pub begins_at : {X : Type 0} (from : ℕ) (lists : List (List X)) (i d : ℕ) → i < length lists → get_or (starts_of from lists) i d ≡ from + length (joined (take i lists))
begins_at from [] i d inside = absurd (omega arith)
begins_at from (l ∷ lists) zero d inside = omega arith
begins_at from (l ∷ lists) (suc i) d inside =
    omega (arith, begins_at (from + length l) lists i d (omega arith), length-append l (joined (take i lists)))

-- a list, cut out of all
pub cut_out : {X : Type 0} (lists : List (List X)) (i : ℕ) (list : List X) → slice_get lists i ≡ Some list → slice_range (joined lists) (length (joined (take i lists))) (length (joined (take i lists)) + length list) ≡ list
cut_out [] i list is = cc
cut_out (l ∷ lists) zero list is =
    let same : l ≡ list = cc in
    ap (λ n. take n (l ++ joined lists)) (let length_is : 0 + length list - 0 ≡ length l = omega (arith, ap length same) in length_is)
    ∙ take-append_seam l (joined lists) ∙ same
cut_out (l ∷ lists) (suc i) list is =
    let n : ℕ = length (joined (take i lists)) in
    let size : length (joined (take (suc i) (l ∷ lists))) ≡ length l + n = length-append l (joined (take i lists)) in
    ap (λ k. slice_range (joined (l ∷ lists)) k (k + length list)) size
    ∙ ap (λ k. take k (drop (length l + n) (l ++ joined lists))) (let less : length l + n + length list - (length l + n) ≡ n + length list - n = omega arith in less)
    ∙ ap (λ xs. take (n + length list - n) xs) (drop-append-add l (joined lists) n)
    ∙ cut_out lists i list is

pub front_of : {X : Type 0} (xs ys : List X) (k : ℕ) (x : X) → slice_get xs k ≡ Some x → slice_get (xs ++ ys) k ≡ Some x
front_of [] ys k x is = cc
front_of (y ∷ xs) ys zero x is = is
front_of (y ∷ xs) ys (suc k) x is = front_of xs ys k x is

pub behind : {X : Type 0} (xs ys : List X) (k : ℕ) → slice_get (xs ++ ys) (length xs + k) ≡ slice_get ys k
behind [] ys k = ap (λ n. slice_get ys n) (let plain : 0 + k ≡ k = omega arith in plain)
behind (y ∷ xs) ys k =
    ap (λ n. slice_get (y ∷ (xs ++ ys)) n) (let next : suc (length xs) + k ≡ suc (length xs + k) = omega arith in next)
    ∙ behind xs ys k

-- an element of a list, among all
pub element_at : {X : Type 0} (lists : List (List X)) (i k : ℕ) (list : List X) (x : X) → slice_get lists i ≡ Some list → slice_get list k ≡ Some x → slice_get (joined lists) (length (joined (take i lists)) + k) ≡ Some x
element_at [] i k list x is there = cc
element_at (l ∷ lists) zero k list x is there =
    let same : list ≡ l = cc in
    ap (λ n. slice_get (l ++ joined lists) n) (let plain : 0 + k ≡ k = omega arith in plain)
    ∙ front_of l (joined lists) k x (subst (λ xs. slice_get xs k ≡ Some x) same there)
element_at (l ∷ lists) (suc i) k list x is there =
    let n : ℕ = length (joined (take i lists)) in
    ap (λ m. slice_get (l ++ joined lists) m) (let size : length (l ++ joined (take i lists)) + k ≡ length l + (n + k) = omega (arith, length-append l (joined (take i lists))) in size)
    ∙ behind l (joined lists) (n + k)
    ∙ element_at lists i k list x is there

-- what stands before an element of a list
pub before_it : {X : Type 0} (lists : List (List X)) (i k : ℕ) (list : List X) → slice_get lists i ≡ Some list → k ≤ length list → take (length (joined (take i lists)) + k) (joined lists) ≡ joined (take i lists) ++ take k list
before_it [] i k list is inside = cc
before_it (l ∷ lists) zero k list is inside =
    let same : l ≡ list = cc in
    ap (λ n. take n (l ++ joined lists)) (let plain : 0 + k ≡ k = omega arith in plain)
    ∙ take-append-le k l (joined lists) (omega (arith, ap length same))
    ∙ ap (λ xs. take k xs) same
before_it (l ∷ lists) (suc i) k list is inside =
    let n : ℕ = length (joined (take i lists)) in
    ap (λ m. take m (l ++ joined lists)) (let size : length (l ++ joined (take i lists)) + k ≡ length l + (n + k) = omega (arith, length-append l (joined (take i lists))) in size)
    ∙ take-append-add l (joined lists) (n + k)
    ∙ ap (λ xs. l ++ xs) (before_it lists i k list is inside)
    ∙ sym (append_assoc l (joined (take i lists)) (take k list))

-- the lists again
pub parts_again : {X : Type 0} (before : List X) (lists : List (List X)) → parts (before ++ joined lists) (starts_of (length before) lists) ≡ lists
parts_again before [] = refl
parts_again before (l ∷ lists) =
    let all : ℕ = length (before ++ (l ++ joined lists)) in
    let total : all ≡ length before + length l + length (joined lists) = omega (arith, length-append before (l ++ joined lists), length-append l (joined lists)) in
    let end : get_or (starts_of (length before + length l) lists) 0 all ≡ length before + length l =
    starts_at (length before + length l) lists 0 all total (omega arith) ∙ (let none : length before + length l + 0 ≡ length before + length l = omega arith in none) in
    let first : slice_range (before ++ (l ++ joined lists)) (length before) (get_or (starts_of (length before + length l) lists) 0 all) ≡ l =
    ap (λ n. slice_range (before ++ (l ++ joined lists)) (length before) n) end
    ∙ ap (λ n. take n (drop (length before) (before ++ (l ++ joined lists)))) (let size : length before + length l - length before ≡ length l = omega arith in size)
    ∙ ap (λ xs. take (length l) xs) (drop-append_seam before (l ++ joined lists))
    ∙ take-append_seam l (joined lists) in
    let others : parts (before ++ (l ++ joined lists)) (starts_of (length before + length l) lists) ≡ lists =
    ap (λ xs. parts xs (starts_of (length before + length l) lists)) (sym (append_assoc before l (joined lists)))
    ∙ ap (λ n. parts ((before ++ l) ++ joined lists) (starts_of n lists)) (sym (length-append before l))
    ∙ parts_again (before ++ l) lists in
    ap (λ x. x ∷ parts (before ++ (l ++ joined lists)) (starts_of (length before + length l) lists)) first
    ∙ ap (λ xs. l ∷ xs) others
