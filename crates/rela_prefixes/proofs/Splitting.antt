-- How the prefixes inside a cell are split, where they come in their order.
use Rattle.std.proofs.Common.{◌≡◌, ◌≢◌, ◌∙◌, refl, sym, ap, subst, ℕ, zero, suc, ◌+◌, ◌-◌, ◌<◌, ◌≤◌, Bool, true, false, cond, eqb, ltb, List, [], ◌∷◌, ◌++◌, length, get_or, take, drop, Option, Some, None, IfSome, IfNone, inl, inr, arith}
use Rattle.std.specs.Prelude.{option_map, slice_get}
use Rattle.std.specs.List.{All, AllWithin, Contains, filter}
use Rattle.std.specs.List.Sorted.{IsNonDecreasingBy, IsPartitionPoint, IsPartitionedBy}
use Rattle.std.proofs.lemmas.Bool.{cases_lt, eq-eqb, false_from_ne_true, eqb-true, lt-ltb, le-ltb}
use Rattle.std.proofs.lemmas.List.{append-nil, get_or_default, get_or_append_left, get_or_push, get_or-append-add, length_push}
use Rattle.std.proofs.lemmas.List.Elements.{All-contains, All-drop, All-head, All-more, All-tail, filter-append, Contains-append_left}
use Rattle.std.proofs.lemmas.Option.{none-some, get_or_from_slice_get, slice_get-get_or, slice_get_read}
use Rattle.std.proofs.lemmas.List.Sorted.{IsNonDecreasingBy-drop, IsPartitionedBy-ltb}
use Rattle.rela_flows.specs.declared.prefix.Ipv4Prefix.{Ipv4Prefix}
use Rattle.rela_prefixes.specs.declared.leaf.Halves.{Halves}
use Rattle.rela_prefixes.specs.declared.leaf.Numbered.{Numbered}
use Rattle.rela_prefixes.specs.Inside.{IsInside, IsRun, middle_of, rank}
use Rattle.rela_prefixes.specs.Split.{is_low, is_high, IsHere, IsParted, NoneHere}
use Rattle.rela_prefixes.proofs.Cells.{from_first, holds_own}
use Rattle.rela_prefixes.proofs.Nesting.{same_address}

-- ---- filters

filter_all : {X : Type 0} (p : X → Bool) (xs : List X) → All (λ x. p x ≡ true) xs → filter p xs ≡ xs
filter_all p [] each = refl
filter_all p (x ∷ xs) each = ap (λ b. cond b (x ∷ filter p xs) (filter p xs)) (All-head (λ x. p x ≡ true) x xs each) ∙ ap (λ ys. x ∷ ys) (filter_all p xs (All-tail (λ x. p x ≡ true) x xs each))

filter_none : {X : Type 0} (p : X → Bool) (xs : List X) → All (λ x. p x ≡ false) xs → filter p xs ≡ []
filter_none p [] each = refl
filter_none p (x ∷ xs) each = ap (λ b. cond b (x ∷ filter p xs) (filter p xs)) (All-head (λ x. p x ≡ false) x xs each) ∙ filter_none p xs (All-tail (λ x. p x ≡ false) x xs each)

other_length : (length : ℕ) (n : Numbered) → n.prefix.length ≢ length → eqb n.prefix.length length ≡ false
other_length length n other = false_from_ne_true _ (λ same. other (eqb-true _ _ same))

-- ---- the tests at one prefix

not_low_here : (length middle : ℕ) (n : Numbered) → n.prefix.length ≡ length → is_low length middle n ≡ false
not_low_here length middle n same = rw (eq-eqb n.prefix.length length same) refl

not_high_here : (length middle : ℕ) (n : Numbered) → n.prefix.length ≡ length → is_high length middle n ≡ false
not_high_here length middle n same = rw (eq-eqb n.prefix.length length same) refl

pub low_below : (length middle : ℕ) (n : Numbered) → n.prefix.length ≢ length → n.prefix.address < middle → is_low length middle n ≡ true
low_below length middle n other below = rw (other_length length n other, lt-ltb n.prefix.address middle below) refl

not_high_below : (length middle : ℕ) (n : Numbered) → n.prefix.length ≢ length → n.prefix.address < middle → is_high length middle n ≡ false
not_high_below length middle n other below = rw (other_length length n other, lt-ltb n.prefix.address middle below) refl

not_low_above : (length middle : ℕ) (n : Numbered) → n.prefix.length ≢ length → middle ≤ n.prefix.address → is_low length middle n ≡ false
not_low_above length middle n other above = rw (other_length length n other, le-ltb n.prefix.address middle above) refl

pub high_above : (length middle : ℕ) (n : Numbered) → n.prefix.length ≢ length → middle ≤ n.prefix.address → is_high length middle n ≡ true
high_above length middle n other above = rw (other_length length n other, le-ltb n.prefix.address middle above) refl

-- ---- those of the cell's length come first

-- what is the cell itself
is_cell : (cell : Ipv4Prefix) (n : Numbered) → IsInside cell n.prefix → n.prefix.length ≡ cell.length → n.prefix.address ≡ cell.address
is_cell cell n inside same = same_address n.prefix cell n.prefix.address same (holds_own n.prefix) inside.begins

-- where the first is longer than the cell, all are
all_longer : (cell : Ipv4Prefix) (ns : List Numbered) → All (λ n. IsInside cell n.prefix) ns → IsNonDecreasingBy rank ns → ((n : Numbered) → slice_get ns 0 ≡ Some n → n.prefix.length ≢ cell.length) → NoneHere cell.length ns
all_longer cell [] within ranked stops k d lt same = absurd (omega arith)
all_longer cell (n ∷ ns) within ranked stops k d lt same =
    let first : IsInside cell n.prefix = within 0 n (omega arith) in
    let other : n.prefix.length ≢ cell.length = stops n refl in
    let at : (get_or (n ∷ ns) k d).prefix.address ≡ cell.address = is_cell cell (get_or (n ∷ ns) k d) (within k d lt) same in
    omega (arith, ranked 0 k d (omega arith) lt, from_first cell n.prefix.address first.begins, first.long, other, at, same)

by_address : (ns : List Numbered) → IsNonDecreasingBy rank ns → IsNonDecreasingBy (λ (n : Numbered). n.prefix.address) ns
by_address ns ranked i j d le lt = omega (arith, ranked i j d le lt, (get_or ns j d).prefix.length_fits)

-- one more of the cell's length
pub one_more_here : (same count index : ℕ) (ns : List Numbered) (n : Numbered) → count ≡ index → index < length ns → n ≡ get_or ns index n → n.prefix.length ≡ same → All (λ n. n.prefix.length ≡ same) (take count ns) → All (λ n. n.prefix.length ≡ same) (take (count + 1) ns)
one_more_here same count index ns n counted lt is long each =
    All-more (λ (n : Numbered). n.prefix.length ≡ same) ns count n (omega (arith, counted, lt)) each (ap (λ (m : Numbered). m.prefix.length) (ap (λ k. get_or ns k n) counted ∙ sym is) ∙ long)

-- ---- the split

filter_parts : {X : Type 0} (p : X → Bool) (ns here longer low high : List X) → ns ≡ here ++ longer → longer ≡ low ++ high → All (λ x. p x ≡ false) here → filter p ns ≡ filter p low ++ filter p high
filter_parts p ns here longer low high both halves none =
    ap (filter p) both ∙ filter-append p here longer ∙ ap (λ xs. xs ++ filter p longer) (filter_none p here none) ∙ ap (filter p) halves ∙ filter-append p low high

front_all : {X : Type 0} (P : X → Type 0) (longer low high : List X) (m : ℕ) → longer ≡ low ++ high → length low ≡ m → AllWithin P longer 0 m → All P low
front_all P longer low high m is first h k d lt = subst P (ap (λ xs. get_or xs k d) is ∙ get_or_append_left low high d k lt) (h k d (omega arith) (omega (arith, lt, first)))

back_all : {X : Type 0} (P : X → Type 0) (longer low high : List X) (m : ℕ) → longer ≡ low ++ high → length low ≡ m → length high + m ≡ length longer → AllWithin P longer m (length longer) → All P high
back_all P longer low high m is first total h k d lt =
    subst P (ap (λ xs. get_or xs (length low + k) d) is ∙ get_or-append-add low high k d) (h (length low + k) d (omega (arith, first)) (omega (arith, lt, first, total)))

get_drop : {X : Type 0} (k : ℕ) (xs : List X) → slice_get (drop k xs) 0 ≡ slice_get xs k
get_drop zero xs = refl
get_drop (suc k) [] = refl
get_drop (suc k) (x ∷ xs) = get_drop k xs

-- the number of the last one, if there is one
abbrev pub last_number : List Numbered → Option ℕ
last_number ns = option_map (λ (n : Numbered). n.number) (slice_get ns (length ns - 1))

last_is : (ns : List Numbered) (k : ℕ) (n : Numbered) → k ≡ length ns - 1 → k < length ns → last_number ns ≡ Some (get_or ns k n).number
last_is ns k n is lt =
    ap (λ i. option_map (λ (n : Numbered). n.number) (slice_get ns i)) (sym is)
    ∙ ap (option_map (λ (n : Numbered). n.number)) (slice_get-get_or ns k n lt)

here_found : (cell : ℕ) (ns here longer : List Numbered) (found : Option ℕ) → ns ≡ here ++ longer → All (λ n. n.prefix.length ≡ cell) here → found ≡ last_number here → IfSome found (IsHere cell ns)
here_found cell ns [] longer None both same last = tt
here_found cell ns [] longer (Some number) both same last = absurd (none-some number (sym last))
here_found cell ns (n ∷ here) longer found both same last =
    let k : ℕ = length here in
    let lt : k < length (n ∷ here) = omega arith in
    let m : Numbered = get_or (n ∷ here) k n in
    let listed : Contains (n ∷ here) m = (k, lt, get_or_default (n ∷ here) k m n lt) in
    subst (λ (o : Option ℕ). IfSome o (IsHere cell ns)) (sym (last ∙ last_is (n ∷ here) k n (omega arith) lt)) (record {
      one = m;
      listed = subst (λ xs. Contains xs m) (sym both) (Contains-append_left (n ∷ here) longer m listed);
      number_is = refl;
      length_is = All-contains (λ (n : Numbered). n.prefix.length ≡ cell) (n ∷ here) m same listed;
    })

none_found : (cell : ℕ) (ns here longer : List Numbered) (found : Option ℕ) → ns ≡ here ++ longer → NoneHere cell longer → found ≡ last_number here → IfNone found (NoneHere cell ns)
none_found cell ns [] longer found both none last = subst (λ (o : Option ℕ). IfNone o (NoneHere cell ns)) (sym last) (subst (NoneHere cell) (sym both) none)
none_found cell ns (n ∷ here) longer found both none last =
    subst (λ (o : Option ℕ). IfNone o (NoneHere cell ns)) (sym (last ∙ last_is (n ∷ here) (length here) n (omega arith) (omega arith))) tt

-- the prefixes of the cell's length, then those below the middle, then the others
pub parted : (cell : Ipv4Prefix) (ns here longer low high : List Numbered) (count m : ℕ) (parts : Halves) → IsRun cell ns → ns ≡ here ++ longer → longer ≡ drop count ns → longer ≡ low ++ high → length low ≡ m → length high + m ≡ length longer
    → All (λ n. n.prefix.length ≡ cell.length) here → ((n : Numbered) → slice_get ns count ≡ Some n → n.prefix.length ≢ cell.length)
    → (IsPartitionedBy (λ n. ltb n.prefix.address (middle_of cell)) longer → IsPartitionPoint (λ n. n.prefix.address < middle_of cell) (λ n. middle_of cell ≤ n.prefix.address) longer m)
    → parts.here ≡ last_number here → parts.low.now ≡ low → parts.high.now ≡ high → IsParted cell ns parts
parted cell ns here longer low high count m parts run both rest halves first total same stops divides last l h =
    let middle : ℕ = middle_of cell in
    let within : All (λ (n : Numbered). IsInside cell n.prefix) longer = subst (All (λ (n : Numbered). IsInside cell n.prefix)) (sym rest) (All-drop (λ (n : Numbered). IsInside cell n.prefix) count ns run.within) in
    let ranked : IsNonDecreasingBy rank longer = subst (IsNonDecreasingBy rank) (sym rest) (IsNonDecreasingBy-drop rank count ns run.ranked) in
    let none : NoneHere cell.length longer = all_longer cell longer within ranked (λ n at. stops n (sym (get_drop count ns) ∙ ap (λ xs. slice_get xs 0) (sym rest) ∙ at)) in
    let point = divides (IsPartitionedBy-ltb (λ (n : Numbered). n.prefix.address) longer middle (by_address longer ranked)) in
    let Other : Numbered → Type 0 = λ n. n.prefix.length ≢ cell.length in
    let none_low : NoneHere cell.length low = front_all Other longer low high m halves first (λ k d lo lt. none k d (omega (arith, lt, total))) in
    let none_high : NoneHere cell.length high = back_all Other longer low high m halves first total (λ k d lo lt. none k d lt) in
    let below : All (λ (n : Numbered). n.prefix.address < middle) low = front_all (λ (n : Numbered). n.prefix.address < middle) longer low high m halves first point.0 in
    let above : All (λ (n : Numbered). middle ≤ n.prefix.address) high = back_all (λ (n : Numbered). middle ≤ n.prefix.address) longer low high m halves first total point.1 in
    let lows : Numbered → Bool = is_low cell.length middle in
    let highs : Numbered → Bool = is_high cell.length middle in
    let low_is : filter lows ns ≡ low =
    filter_parts lows ns here longer low high both halves (λ k d lt. not_low_here cell.length middle (get_or here k d) (same k d lt))
    ∙ ap (λ xs. xs ++ filter lows high) (filter_all lows low (λ k d lt. low_below cell.length middle (get_or low k d) (none_low k d lt) (below k d lt)))
    ∙ ap (λ xs. low ++ xs) (filter_none lows high (λ k d lt. not_low_above cell.length middle (get_or high k d) (none_high k d lt) (above k d lt)))
    ∙ append-nil low in
    let high_is : filter highs ns ≡ high =
    filter_parts highs ns here longer low high both halves (λ k d lt. not_high_here cell.length middle (get_or here k d) (same k d lt))
    ∙ ap (λ xs. xs ++ filter highs high) (filter_none highs low (λ k d lt. not_high_below cell.length middle (get_or low k d) (none_low k d lt) (below k d lt)))
    ∙ filter_all highs high (λ k d lt. high_above cell.length middle (get_or high k d) (none_high k d lt) (above k d lt)) in
    record {
      low = l ∙ sym low_is;
      high = h ∙ sym high_is;
      here = here_found cell.length ns here longer parts.here both same last;
      none = none_found cell.length ns here longer parts.here both none last;
    }

-- ---- the places of prefixes in their list

-- one prefix more with its place
pub one_more_numbered : (prefixes : List Ipv4Prefix) (ns : List Numbered) (number : ℕ) (p : Ipv4Prefix) → length ns ≡ number → p ≡ get_or prefixes number p → ((k : ℕ) (q : Ipv4Prefix) → k < number → slice_get prefixes k ≡ Some q → slice_get ns k ≡ Some (record { prefix = q; number = k })) → (k : ℕ) (q : Ipv4Prefix) → k < number + 1 → slice_get prefixes k ≡ Some q → slice_get (ns ++ record { prefix = p; number = number } ∷ []) k ≡ Some (record { prefix = q; number = k })
one_more_numbered prefixes ns number p many here before k q lt at =
    let last : Numbered = record { prefix = p; number = number } in
    let one : Numbered = record { prefix = q; number = k } in
    let more : length (ns ++ last ∷ []) ≡ length ns + 1 = length_push ns last in
    elim (cases_lt k number) [
      | inl below ↦ slice_get_read (ns ++ last ∷ []) (length (ns ++ last ∷ [])) k one refl (omega (arith, more, many, lt)) (sym (get_or_append_left ns (last ∷ []) one k (omega (arith, many, below)) ∙ get_or_from_slice_get ns k one one (before k q below at)))
      | inr above ↦
          let same : number ≡ k = omega (arith, above, lt) in
          let found : p ≡ q = here ∙ get_or_from_slice_get prefixes number q p (ap (slice_get prefixes) same ∙ at) in
          let is : last ≡ one = rw (found, same) refl in
          slice_get_read (ns ++ last ∷ []) (length (ns ++ last ∷ [])) k one refl (omega (arith, more, many, lt)) (sym (get_or_push ns last one k (many ∙ same) ∙ is))
    ]
