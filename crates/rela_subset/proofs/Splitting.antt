-- The letters that are left of a set, and the edges to come that have some of them by themselves.
use Rattle.std.proofs.Common.{◌≡◌, ◌≢◌, ℕ, ◌<◌, ◌≤◌, ◌⊎◌, ◌↔◌, ◌&&◌, not, Bool, true, false, cond, List, [], ◌∷◌, length, set, get_or, Option, None, Some, refl, sym, ap, ◌∙◌, subst, inl, inr, arith, IfSome, MatchOption}
use Rattle.std.specs.List.{All}
use Rattle.std.specs.List.Sorted.{IsNonDecreasingBy}
use Rattle.std.proofs.lemmas.Bool.{cases_Bool, cases_eq, cases_lt, false≢true}
use Rattle.std.proofs.lemmas.List.{get_or-set_other, get_or-set_same, get_or_default, length-set, same_lists}
use Rattle.std.proofs.lemmas.List.Elements.{All-contains}
use Rattle.std.proofs.lemmas.List.Sorted.{IsNonDecreasingBy-drop}
use Rattle.rela_labels.specs.Letters.{has}
use Rattle.rela_nfa.specs.Automaton.{Automaton, Move, moves_of}
use Rattle.rela_subset.specs.Deterministic.{takes}
use Rattle.rela_subset.specs.Expansion.{AreTakenAlike, IsAlike}
use Rattle.rela_subset.specs.Outgoing.{AreSortedOut, HasEnd, IsAlone, moves_from}
use Rattle.rela_subset.specs.Splitting.{IsLeastOf, letters_left}
use Rattle.rela_subset.specs.declared.letter_edge.LetterEdge.{LetterEdge}
use Rattle.rela_subset.proofs.Sets.{has_below}
use Rattle.rela_subset.proofs.SortingOut.{all_among, all_flat, others_alike, single_alike}
use Rattle.rela_subset.proofs.Targets.{Contains-cons_cases, Contains-head, Contains-nil, Contains-tail}

-- one letter more, or not
abbrev put : Bool → List Bool → ℕ → List Bool
put b xs i = cond b (set xs i true) xs

put_length : (b : Bool) (xs : List Bool) (i : ℕ) → length (put b xs i) ≡ length xs
put_length true xs i = length-set xs i true
put_length false xs i = refl

put_other : (b : Bool) (xs : List Bool) (i k : ℕ) → k ≢ i → has (put b xs i) k ≡ has xs k
put_other true xs i k apart = get_or-set_other xs i k true false apart
put_other false xs i k apart = refl

put_here : (b : Bool) (xs : List Bool) (i : ℕ) → b ≡ true → i < length xs → has (put b xs i) i ≡ true
put_here true xs i yes' below = get_or-set_same xs i true false below
put_here false xs i yes' below = absurd (false≢true yes')

put_none : (b : Bool) (xs : List Bool) (i : ℕ) → b ≡ false → put b xs i ≡ xs
put_none true xs i no' = absurd (false≢true (sym no'))
put_none false xs i no' = refl

put_keeps : (b : Bool) (xs : List Bool) (i k : ℕ) → has xs k ≡ true → has (put b xs i) k ≡ true
put_keeps true xs i k h = elim (cases_eq k i) [
  | inl same ↦ subst (λ n. has (set xs i true) n ≡ true) (sym same) (get_or-set_same xs i true false (subst (λ n. n < length xs) same (has_below xs k h)))
  | inr apart ↦ get_or-set_other xs i k true false apart ∙ h
]
put_keeps false xs i k h = h

pub length_left : (over : List Bool) (coming : List LetterEdge) (rest : List Bool) → length (letters_left over coming rest) ≡ length rest
length_left over [] rest = refl
length_left over (edge ∷ later) rest = put_length (has over edge.letter) (letters_left over later rest) edge.letter ∙ length_left over later rest

pub left_skip : (over : List Bool) (edge : LetterEdge) (later : List LetterEdge) (rest : List Bool) → has over edge.letter ≡ false
    → letters_left over (edge ∷ later) rest ≡ letters_left over later rest
left_skip over edge later rest out = put_none (has over edge.letter) (letters_left over later rest) edge.letter out

pub left_other : (over : List Bool) (edge : LetterEdge) (later : List LetterEdge) (rest : List Bool) (k : ℕ) → k ≢ edge.letter
    → has (letters_left over (edge ∷ later) rest) k ≡ has (letters_left over later rest) k
left_other over edge later rest k apart = put_other (has over edge.letter) (letters_left over later rest) edge.letter k apart

pub left_here : (over : List Bool) (edge : LetterEdge) (later : List LetterEdge) (rest : List Bool) → length rest ≡ length over → has over edge.letter ≡ true
    → has (letters_left over (edge ∷ later) rest) edge.letter ≡ true
left_here over edge later rest size in_over =
    let below = has_below over edge.letter in_over in
    let len = length_left over later rest in
    put_here (has over edge.letter) (letters_left over later rest) edge.letter in_over (omega (arith, below, len, size))

pub left_rest : (over : List Bool) (coming : List LetterEdge) (rest : List Bool) (k : ℕ) → has rest k ≡ true → has (letters_left over coming rest) k ≡ true
left_rest over [] rest k h = h
left_rest over (edge ∷ later) rest k h = put_keeps (has over edge.letter) (letters_left over later rest) edge.letter k (left_rest over later rest k h)

-- a letter of an edge to come that is over
pub left_single : (over : List Bool) (coming : List LetterEdge) (rest : List Bool) (k q : ℕ) → length rest ≡ length over → has over k ≡ true → HasEnd coming k q
    → has (letters_left over coming rest) k ≡ true
left_single over [] rest k q size in_over c = absurd (Contains-nil _ c)
left_single over (edge ∷ later) rest k q size in_over c = elim (Contains-cons_cases edge later _ c) [
  | inl here ↦
      let same : edge.letter ≡ k = ap (λ (e : LetterEdge). e.letter) here in
      subst (λ n. has (letters_left over (edge ∷ later) rest) n ≡ true) same (left_here over edge later rest size (subst (λ n. has over n ≡ true) (sym same) in_over))
  | inr among ↦ put_keeps (has over edge.letter) (letters_left over later rest) edge.letter k (left_single over later rest k q size in_over among)
]

lift : (over : List Bool) (edge : LetterEdge) (later : List LetterEdge) (rest : List Bool) (k : ℕ) → (has rest k ≡ true) ⊎ ((has over k ≡ true) × ((q : ℕ) × HasEnd later k q))
    → (has rest k ≡ true) ⊎ ((has over k ≡ true) × ((q : ℕ) × HasEnd (edge ∷ later) k q))
lift over edge later rest k either = elim either [
  | inl in_rest ↦ inl in_rest
  | inr (in_over, (q, c)) ↦ inr (in_over, (q, Contains-tail edge later _ c))
]

-- a letter that is left is of the rest, or of an edge to come
pub left_cases : (over : List Bool) (coming : List LetterEdge) (rest : List Bool) (k : ℕ) → has (letters_left over coming rest) k ≡ true
    → (has rest k ≡ true) ⊎ ((has over k ≡ true) × ((q : ℕ) × HasEnd coming k q))
left_cases over [] rest k h = inl h
left_cases over (edge ∷ later) rest k h = elim (cases_eq k edge.letter) [
  | inl same ↦ elim (cases_Bool (has over edge.letter)) [
    | inl in_over ↦ inr (subst (λ n. has over n ≡ true) (sym same) in_over, (edge.to, subst (λ n. HasEnd (edge ∷ later) n edge.to) (sym same) (Contains-head edge later)))
    | inr out ↦ lift over edge later rest k (left_cases over later rest k (sym (ap (λ l. has l k) (left_skip over edge later rest out)) ∙ h))
  ]
  | inr apart ↦ lift over edge later rest k (left_cases over later rest k (sym (left_other over edge later rest k apart) ∙ h))
]

-- a letter of no edge to come
pub left_none : (over : List Bool) (coming : List LetterEdge) (rest : List Bool) (k : ℕ) → ((q : ℕ) → ¬ HasEnd coming k q) → has (letters_left over coming rest) k ≡ has rest k
left_none over [] rest k none = refl
left_none over (edge ∷ later) rest k none =
    left_other over edge later rest k (λ same. none edge.to (subst (λ n. HasEnd (edge ∷ later) n edge.to) (sym same) (Contains-head edge later)))
    ∙ left_none over later rest k (λ q c. none q (Contains-tail edge later _ c))

-- a letter that is in both rests or in none
pub left_same : (over : List Bool) (coming : List LetterEdge) (rest rest' : List Bool) (k : ℕ) → length rest ≡ length over → length rest' ≡ length over → has rest k ≡ has rest' k
    → has (letters_left over coming rest) k ≡ has (letters_left over coming rest') k
left_same over [] rest rest' k size size' same = same
left_same over (edge ∷ later) rest rest' k size size' same = elim (cases_eq k edge.letter) [
  | inl here ↦ elim (cases_Bool (has over edge.letter)) [
    | inl in_over ↦
        subst (λ n. has (letters_left over (edge ∷ later) rest) n ≡ has (letters_left over (edge ∷ later) rest') n) (sym here)
        (left_here over edge later rest size in_over ∙ sym (left_here over edge later rest' size' in_over))
    | inr out ↦
        ap (λ l. has l k) (left_skip over edge later rest out) ∙ left_same over later rest rest' k size size' same
        ∙ sym (ap (λ l. has l k) (left_skip over edge later rest' out))
  ]
  | inr apart ↦ left_other over edge later rest k apart ∙ left_same over later rest rest' k size size' same ∙ sym (left_other over edge later rest' k apart)
]

both_ways : (a b : Bool) → (a ≡ true → b ≡ true) → (b ≡ true → a ≡ true) → a ≡ b
both_ways true b f g = sym (f refl)
both_ways false true f g = g refl
both_ways false false f g = refl

same_letters : (x y : List Bool) → length x ≡ length y → ((k : ℕ) → has x k ≡ has y k) → x ≡ y
same_letters x y len same = same_lists x y len (λ k d below. get_or_default x k d false below ∙ same k ∙ sym (get_or_default y k d false (omega (arith, below, len))))

-- all letters are left at first
pub left_all : (over : List Bool) (singles : List LetterEdge) (rest : List Bool) → length rest ≡ length over
    → ((k : ℕ) → (has rest k ≡ true) ↔ ((has over k ≡ true) × ((q : ℕ) → ¬ HasEnd singles k q))) → letters_left over singles rest ≡ over
left_all over singles rest size without =
    same_letters (letters_left over singles rest) over (length_left over singles rest ∙ size) (λ k. both_ways (has (letters_left over singles rest) k) (has over k)
    (λ h. elim (left_cases over singles rest k h) [ inl in_rest ↦ ((without k).0 in_rest).0 | inr single ↦ single.0 ])
    (λ in_over. elim (cases_Bool (has (letters_left over singles rest) k)) [
      | inl is_left ↦ is_left
      | inr gone ↦ left_rest over singles rest k ((without k).1 (in_over, λ q c. false≢true (sym gone ∙ left_single over singles rest k q size in_over c)))
    ]))

-- the rest without a block of it
pub left_minus : (over : List Bool) (coming : List LetterEdge) (rest rest' block : List Bool) → length rest ≡ length over → length rest' ≡ length over
    → ((k q : ℕ) → has rest k ≡ true → ¬ HasEnd coming k q) → ((k : ℕ) → has block k ≡ true → has rest k ≡ true)
    → ((k : ℕ) → has rest' k ≡ (has rest k && not (has block k)))
    → (k : ℕ) → has (letters_left over coming rest') k ≡ (has (letters_left over coming rest) k && not (has block k))
left_minus over coming rest rest' block size size' apart within cut k = elim (cases_Bool (has block k)) [
  | inl in_block ↦
      let in_rest = within k in_block in
      left_none over coming rest' k (λ q. apart k q in_rest) ∙ cut k ∙ ap (λ b. b && not (has block k)) (sym (left_none over coming rest k (λ q. apart k q in_rest)))
  | inr out ↦
      let all = λ (b : Bool). and_all b (has block k) out in
      left_same over coming rest' rest k size' size (cut k ∙ all (has rest k)) ∙ sym (all (has (letters_left over coming rest) k))
]
  where
    and_all : (b c : Bool) → c ≡ false → (b && not c) ≡ b
    and_all b true no' = absurd (false≢true (sym no'))
    and_all true false no' = refl
    and_all false false no' = refl

-- edges in ascending order of their letters
pub rising_tail : (edge : LetterEdge) (later : List LetterEdge) → IsNonDecreasingBy (λ (e : LetterEdge). e.letter) (edge ∷ later) → IsNonDecreasingBy (λ (e : LetterEdge). e.letter) later
rising_tail edge later rising = IsNonDecreasingBy-drop (λ (e : LetterEdge). e.letter) 1 (edge ∷ later) rising

pub rising_head : (edge : LetterEdge) (later : List LetterEdge) (k q : ℕ) → IsNonDecreasingBy (λ (e : LetterEdge). e.letter) (edge ∷ later) → HasEnd (edge ∷ later) k q → edge.letter ≤ k
rising_head edge later k q rising (i, below, at) =
    let d : LetterEdge = record { letter = k; to = q } in
    let least = rising 0 i d (omega arith) below in
    let own : (get_or (edge ∷ later) i d).letter ≡ k = ap (λ (e : LetterEdge). e.letter) at in
    omega (arith, least, own)

-- edges in ascending order whose first is past a letter, of edges none of which is before it
pub all_past : (edges coming : List LetterEdge) (letter : ℕ) (first : LetterEdge) (later : List LetterEdge) → coming ≡ first ∷ later → IsNonDecreasingBy (λ (e : LetterEdge). e.letter) coming
    → ((k q : ℕ) → HasEnd coming k q → HasEnd edges k q) → All (λ (e : LetterEdge). letter ≤ e.letter) edges → first.letter ≢ letter → All (λ (e : LetterEdge). letter < e.letter) coming
all_past edges coming letter first later is rising among from apart i d below =
    let here = among first.letter first.to (subst (λ (es : List LetterEdge). HasEnd es first.letter first.to) (sym is) (Contains-head first later)) in
    let upto : letter ≤ first.letter = All-contains (λ (e : LetterEdge). letter ≤ e.letter) edges _ from here in
    let least : (get_or coming 0 d).letter ≤ (get_or coming i d).letter = rising 0 i d (omega arith) below in
    let at : (get_or coming 0 d).letter ≡ first.letter = ap (λ (es : List LetterEdge). (get_or es 0 d).letter) is in
    elim (cases_lt letter first.letter) [
      | inl more ↦ omega (arith, least, at, more)
      | inr less ↦ absurd (apart (omega (arith, less, upto)))
    ]

-- the first of the edges to come
pub first_of : (coming : List LetterEdge) (edge : LetterEdge) → 0 < length coming → ((d : LetterEdge) → get_or coming 0 d ≡ edge) → (later : List LetterEdge) × (coming ≡ edge ∷ later)
first_of [] edge some at = absurd (omega arith)
first_of (first ∷ later) edge some at = (later, ap (λ e. e ∷ later) (at first))

module _ (over rest : List Bool) (coming : List LetterEdge) (least : Option ℕ) (edge : LetterEdge) (later : List LetterEdge) (is : coming ≡ edge ∷ later)
    (rising : IsNonDecreasingBy (λ (e : LetterEdge). e.letter) coming) (first : IsLeastOf rest least) where
  from_first : (k q : ℕ) → HasEnd coming k q → edge.letter ≤ k
  from_first k q c =
      rising_head edge later k q (subst (λ (es : List LetterEdge). IsNonDecreasingBy (λ e. e.letter) es) is rising) (subst (λ (es : List LetterEdge). HasEnd es k q) is c)

  pub here : HasEnd coming edge.letter edge.to
  here = subst (λ (es : List LetterEdge). HasEnd es edge.letter edge.to) (sym is) (Contains-head edge later)

  pub all_from : All (λ (e : LetterEdge). edge.letter ≤ e.letter) coming
  all_from = all_among (λ (e : LetterEdge). edge.letter ≤ e.letter) coming (λ e c. from_first e.letter e.to c)

  pub first_left : length rest ≡ length over → has over edge.letter ≡ true → has (letters_left over coming rest) edge.letter ≡ true
  first_left size in_over = left_single over coming rest edge.letter edge.to size in_over here

  -- where it comes before the rest, no letter before it is left
  pub none_before : IfSome least (λ m. edge.letter < m) → (k : ℕ) → k < edge.letter → has (letters_left over coming rest) k ≡ false
  none_before before k below =
      left_none over coming rest k (λ q c. let upto = from_first k q c in omega (arith, upto, below)) ∙ not_in least first before
    where
      not_in : (l : Option ℕ) → IsLeastOf rest l → IfSome l (λ m. edge.letter < m) → has rest k ≡ false
      not_in None is_least above = is_least.none k
      not_in (Some m) is_least above = is_least.before k (omega (arith, above, below))

  -- where a letter of the rest comes before it, none before that is left
  pub rest_first : MatchOption least ⊥ (λ m. m ≤ edge.letter) → (k : ℕ) → has (letters_left over coming rest) k ≡ true → (j : ℕ) × (j ≤ k) × (has rest j ≡ true)
  rest_first after k h = elim (left_cases over coming rest k h) [
    | inl in_rest ↦ (k, omega arith, in_rest)
    | inr (in_over, (q, c)) ↦ earlier least first after (from_first k q c)
  ]
    where
      earlier : (l : Option ℕ) → IsLeastOf rest l → MatchOption l ⊥ (λ m. m ≤ edge.letter) → edge.letter ≤ k → (j : ℕ) × (j ≤ k) × (has rest j ≡ true)
      earlier None is_least below upto = absurd below
      earlier (Some m) is_least below upto = (m, omega (arith, below, upto), is_least.member)

-- a letter that has been passed is left no more
pub left_no_more : (over : List Bool) (singles coming : List LetterEdge) (rest : List Bool) (letter q : ℕ) → ((k p : ℕ) → has rest k ≡ true → ¬ HasEnd singles k p)
    → HasEnd singles letter q → All (λ (e : LetterEdge). letter < e.letter) coming → has (letters_left over coming rest) letter ≡ false
left_no_more over singles coming rest letter q apart single past =
    left_none over coming rest letter (λ p c. let above = All-contains (λ (e : LetterEdge). letter < e.letter) coming _ past c in omega (arith, above))
    ∙ elim (cases_Bool (has rest letter)) [ inl in_rest ↦ absurd (apart letter q in_rest single) | inr out ↦ out ]

pub kept_in : (rest rest' block : List Bool) → ((k : ℕ) → has rest' k ≡ (has rest k && not (has block k))) → (k : ℕ) → has rest' k ≡ true → has rest k ≡ true
kept_in rest rest' block cut k h = first (has rest k) (has block k) (sym (cut k) ∙ h)
  where
    first : (x y : Bool) → (x && not y) ≡ true → x ≡ true
    first true y e = refl
    first false y e = e

-- the letters that no edge has
pub without_letters : (over letters rest : List Bool) (edges : List LetterEdge) → ((k : ℕ) → (has letters k ≡ true) ↔ ((q : ℕ) × HasEnd edges k q))
    → ((k : ℕ) → has rest k ≡ (has over k && not (has letters k))) → (k : ℕ) → (has rest k ≡ true) ↔ ((has over k ≡ true) × ((q : ℕ) → ¬ HasEnd edges k q))
without_letters over letters rest edges known cut k = (
  λ h. (kept_in over rest letters cut k h, λ q c. not_both (has over k) (has letters k) (sym (cut k) ∙ h) ((known k).1 (q, c))),
  λ (in_over, none). cut k ∙ both (has over k) (has letters k) in_over (λ h. let (q, c) = (known k).0 h in none q c),
)
  where
    not_both : (x y : Bool) → (x && not y) ≡ true → y ≡ true → ⊥
    not_both true true e f = false≢true e
    not_both true false e f = false≢true f
    not_both false y e f = false≢true e

    both : (x y : Bool) → x ≡ true → (y ≡ true → ⊥) → (x && not y) ≡ true
    both true true e f = absurd (f refl)
    both true false e f = refl
    both false y e f = absurd (false≢true e)

pub without_none : (over rest : List Bool) (edges : List LetterEdge) → length edges ≡ 0 → rest ≡ over → (k : ℕ) → (has rest k ≡ true) ↔ ((has over k ≡ true) × ((q : ℕ) → ¬ HasEnd edges k q))
without_none over rest edges none same k = (
  λ h. (sym (ap (λ l. has l k) same) ∙ h, λ q c. omega (arith, c.1, none)),
  λ (in_over, all). ap (λ l. has l k) same ∙ in_over,
)

-- the letter of an edge by it alone
pub alike_alone : (a : Automaton) (set : List ℕ) (rest block : List Bool) (j q : ℕ) (singles : List LetterEdge) (others : List Move) → has rest j ≡ true → IsAlone block j → HasEnd singles j q
    → AreSortedOut (moves_from a set) singles others → IsAlike a set rest j block
alike_alone a set rest block j q singles others among alone here sorted k = (
  λ h. let same = (alone k).0 h in
      subst (λ n. (has rest n ≡ true) × All (λ p. AreTakenAlike (moves_of a p) j n) set) (sym same) (among, λ i d below l e inside. refl),
  λ (in_rest, all). (alone k).1 (single_alike (moves_from a set) singles others sorted j k q here ((all_flat (λ move. takes k move ≡ takes j move) (moves_of a) set).1 all)),
)

-- any other letter
pub alike_rest : (a : Automaton) (set : List ℕ) (over rest near block : List Bool) (j : ℕ) (singles coming : List LetterEdge) (others : List Move)
    → ((k q : ℕ) → has rest k ≡ true → ¬ HasEnd singles k q) → ((k q : ℕ) → HasEnd coming k q → HasEnd singles k q) → has rest j ≡ true
    → ((k : ℕ) → has near k ≡ true → has rest k ≡ true) → ((k : ℕ) → has rest k ≡ true → AreTakenAlike others j k → has near k ≡ true)
    → ((k : ℕ) → (has block k ≡ true) ↔ ((has near k ≡ true) × AreTakenAlike others j k))
    → AreSortedOut (moves_from a set) singles others → IsAlike a set (letters_left over coming rest) j block
alike_rest a set over rest near block j singles coming others apart among in_rest within reaches narrowed sorted k =
    let by_others = others_alike (moves_from a set) singles others sorted j k (λ q. apart j q in_rest) in
    let flat = all_flat (λ move. takes k move ≡ takes j move) (moves_of a) set in (
      λ h.
          let (in_near, alike) = (narrowed k).0 h in
          let k_in_rest = within k in_near in
          (left_rest over coming rest k k_in_rest, flat.0 (by_others.1 (alike, λ q. apart k q k_in_rest))),
      λ (is_left, all).
          let (alike, none) = by_others.0 (flat.1 all) in
          let k_in_rest : has rest k ≡ true = elim (left_cases over coming rest k is_left) [ inl is ↦ is | inr (in_over, (q, c)) ↦ absurd (none q (among k q c)) ] in
          (narrowed k).1 (reaches k k_in_rest alike, alike),
    )
