-- What a chain of states reaches and accepts.
use Rattle.std.proofs.Common.{◌≡◌, ◌≢◌, eqb, ℕ, zero, suc, ◌+◌, ◌<◌, ◌≤◌, ◌↔◌, Bool, true, false, List, [], ◌∷◌, ◌++◌, length, get_or, map, take, Option, None, Some, refl, sym, ap, ◌∙◌, subst, inl, inr, arith, length-append, zero-add, add-one}
use Rattle.std.specs.List.{All, AllZip, range_with_len}
use Rattle.std.specs.Option.{option_to_list}
use Rattle.std.specs.Prelude.{replicate}
use Rattle.std.proofs.lemmas.Bool.{cases_lt, cases_eq, eqb-true, eq-eqb, ne_eqb}
use Rattle.std.proofs.lemmas.List.{get_or_append_left, get_or_at, get_or_past, get_or-replicate, length-replicate, take_more, take_all, get_or-map, length-map, take-map, ext_get_or}
use Rattle.std.proofs.lemmas.List.Elements.{All-nil, All-cons, All-append, All-map, All-head, All-tail, All-take}
use Rattle.std.proofs.lemmas.List.FromFn.{get_or-map-range_with_len, length-map-range_with_len, get_or-range_with_len, length-range_with_len, map-range_with_len_more}
use Rattle.rela_labels.specs.Letters.{has}
use Rattle.rela_nfa.specs.Automaton.{Automaton, Move, IsMove, IsAutomaton, IsFinal, moves_of, states}
use Rattle.rela_nfa.specs.Languages.{IsLetterOf}
use Rattle.rela_nfa.specs.Runs.{StepIn, HasStep, Reach, Accepts}
use Rattle.rela_nfa.specs.Construction.{link, links, single, IsChain}
use Rattle.rela_nfa.proofs.Moves.{Contains-cons_cases, Contains-nil, no_step}
use Rattle.rela_nfa.proofs.Reaching.{reach_start, reach_step, reach_each}

-- the word is one letter of each set in turn
abbrev pub Spelled : List (List Bool) → List ℕ → Type 0
Spelled sets word = AllZip (λ set k. has set k ≡ true) sets word

spelled_none : (word : List ℕ) → Spelled [] word → word ≡ []
spelled_none [] each = refl
spelled_none (k ∷ word) each = absurd each

spelled_push : (sets : List (List Bool)) (set : List Bool) (word : List ℕ) (k : ℕ) → Spelled sets word → has set k ≡ true → Spelled (sets ++ set ∷ []) (word ++ k ∷ [])
spelled_push [] set [] k each here = (here, tt)
spelled_push [] set (j ∷ word) k each here = absurd each
spelled_push (first ∷ sets) set [] k each here = absurd each
spelled_push (first ∷ sets) set (j ∷ word) k each here = (each.0, spelled_push sets set word k each.1 here)

spelled_last : (sets : List (List Bool)) (set : List Bool) (word : List ℕ) → Spelled (sets ++ set ∷ []) word
    → (front : List ℕ) × (k : ℕ) × (front ++ k ∷ [] ≡ word) × Spelled sets front × (has set k ≡ true)
spelled_last [] set [] each = absurd each
spelled_last [] set (k ∷ []) each = ([], k, refl, tt, each.0)
spelled_last [] set (k ∷ j ∷ word) each = absurd each.1
spelled_last (first ∷ sets) set [] each = absurd each
spelled_last (first ∷ sets) set (k ∷ word) each =
    let last = spelled_last sets set word each.1 in
    (k ∷ last.0, last.1, ap (λ l. k ∷ l) last.2, (each.0, last.3), last.4)

module _ (sets : List (List Bool)) (final : Bool) (r : Automaton) (built : IsChain sets final r) where
  abbrev link_move : ℕ → Move
  link_move i = record { label = Some (get_or sets i []); to = i + 1 }

  abbrev front : List (List Move)
  front = map (link sets) (range_with_len 0 (length sets))

  front_length : length front ≡ length sets
  front_length = length-map-range_with_len (link sets) 0 (length sets)

  moves_within : (i : ℕ) → i < length sets → moves_of r i ≡ link sets i
  moves_within i below =
      ap (λ l. get_or l i []) built.edges ∙ get_or_append_left front ([] ∷ []) [] i (omega (arith, front_length)) ∙ get_or-map-range_with_len (link sets) 0 (length sets) i i [] below (omega arith)

  no_moves_past : (i : ℕ) → length sets ≤ i → moves_of r i ≡ []
  no_moves_past i past = ap (λ l. get_or l i []) built.edges ∙ elim (cases_lt (length sets) i) [
    | inl above ↦ get_or_past (links sets) i [] (omega (arith, length-append front ([] ∷ []), front_length))
    | inr below ↦ get_or_at front [] [] [] i (omega (arith, front_length))
  ]

  pub chain_states : states r ≡ length sets + 1
  chain_states = omega (arith, ap length built.finals, length-append (replicate (length sets) false) (final ∷ []), length-replicate (length sets) false)

  pub chain_ok : IsAutomaton r
  chain_ok = record {
    each = omega (arith, ap length built.edges, length-append front ([] ∷ []), front_length, chain_states);
    starts = omega (arith, built.start, chain_states);
    moves =
        let Fits' : List Move → Type 0 = All (IsMove r.letters (states r)) in
        let linked : All Fits' front =
        All-map Fits' (link sets) (range_with_len 0 (length sets)) (λ k d below.
        let at = get_or-range_with_len 0 (length sets) k d (omega (arith, below, length-range_with_len 0 (length sets))) in
        All-cons (IsMove r.letters (states r)) _ [] (record {
          sized = λ set is.
              let within : k < length sets = omega (arith, below, length-range_with_len 0 (length sets)) in
              let same : get_or sets k [] ≡ set = ap (λ n. get_or sets n []) (sym (at ∙ zero-add k)) ∙ Some-inside is in
              subst (λ l. length l ≡ r.letters) same (built.sized k [] within);
          leads = omega (arith, at, below, length-range_with_len 0 (length sets), chain_states);
        }) (All-nil (IsMove r.letters (states r)))) in
        subst (λ l. All Fits' l) (sym built.edges) (All-append Fits' front ([] ∷ []) linked (All-cons Fits' [] [] (All-nil (IsMove r.letters (states r))) (All-nil Fits')));
  }
    where
      Some-inside : {X : Type 0} {x y : X} → Some x ≡ Some y → x ≡ y
      Some-inside e = cc

  -- what reaches a state
  abbrev At : ℕ → List ℕ → Type 0
  At q w = (q ≤ length sets) × Spelled (take q sets) w

  one_link : (i q : ℕ) (letter : Option ℕ) → StepIn (link sets i) letter q → (k : ℕ) × (letter ≡ Some k) × (q ≡ i + 1) × (has (get_or sets i []) k ≡ true)
  one_link i q None step = elim (Contains-cons_cases (link_move i) [] _ step) [
    | inl same ↦ let never = ap (λ (move : Move). move.label) same in cc
    | inr none ↦ absurd (Contains-nil _ none)
  ]
  one_link i q (Some k) step = elim (Contains-cons_cases (link_move i) [] _ step.1) [
    | inl same ↦
        let labels = ap (λ (move : Move). move.label) same in
        let set : get_or sets i [] ≡ step.0 = cc in
        (k, refl, sym (ap (λ (move : Move). move.to) same), subst (λ l. has l k ≡ true) (sym set) step.2)
    | inr none ↦ absurd (Contains-nil _ none)
  ]

  kept : (p q : ℕ) (letter : Option ℕ) (w : List ℕ) → Reach r p w → At p w → HasStep r p letter q → At q (w ++ option_to_list letter)
  kept p q letter w reach at step = elim (cases_lt p (length sets)) [
    | inl below ↦
        let next = one_link p q letter (subst (λ l. StepIn l letter q) (moves_within p below) step) in
        subst (λ n. At n (w ++ option_to_list letter)) (sym next.2) (
          omega arith,
          subst (λ l. Spelled l (w ++ option_to_list letter)) (sym (take_more sets p [] below))
              (subst (λ o. Spelled (take p sets ++ get_or sets p [] ∷ []) (w ++ option_to_list o)) (sym next.1) (spelled_push (take p sets) (get_or sets p []) w next.0 at.1 next.3)),
        )
    | inr past ↦ absurd (no_step letter q (subst (λ l. StepIn l letter q) (no_moves_past p past) step))
  ]

  only : (q : ℕ) (w : List ℕ) → Reach r q w → At q w
  only = reach_each r At kept (subst (λ n. At n []) (sym built.start) (omega arith, tt))

  reached : (q : ℕ) (w : List ℕ) → q ≤ length sets → Spelled (take q sets) w → Reach r q w
  reached zero [] within each = subst (λ n. Reach r n []) built.start (reach_start r)
  reached zero (k ∷ w) within each = absurd each
  reached (suc q) w within each =
      let below : q < length sets = omega (arith, within) in
      let last = spelled_last (take q sets) (get_or sets q []) w (subst (λ l. Spelled l w) (take_more sets q [] below) (subst (λ n. Spelled (take n sets) w) (sym (add-one q)) each)) in
      let step : HasStep r q (Some last.1) (suc q) =
      subst (λ l. StepIn l (Some last.1) (suc q)) (sym (moves_within q below))
      (subst (λ n. StepIn (link sets q) (Some last.1) n) (add-one q) (get_or sets q [], (0, omega arith, refl), last.4)) in
      subst (λ v. Reach r (suc q) v) last.2 (reach_step r q (suc q) (Some last.1) last.0 (reached q last.0 (omega (arith, within)) last.3) step)

  pub chain_reach : (q : ℕ) (w : List ℕ) → Reach r q w ↔ ((q ≤ length sets) × Spelled (take q sets) w)
  chain_reach q w = (only q w, λ (within, each). reached q w within each)

  last_final : get_or r.finals (length sets) false ≡ final
  last_final = ap (λ l. get_or l (length sets) false) built.finals ∙ get_or_at (replicate (length sets) false) final [] false (length sets) (length-replicate (length sets) false)

  only_last : (q : ℕ) → q ≤ length sets → IsFinal r q → q ≡ length sets
  only_last q within ends = elim (cases_lt q (length sets)) [
    | inl below ↦
        let never =
        sym ends ∙ ap (λ l. get_or l q false) built.finals ∙ get_or_append_left (replicate (length sets) false) (final ∷ []) false q (omega (arith, below, length-replicate (length sets) false))
        ∙ get_or-replicate (length sets) q false false below in
        absurd (true≢false never)
    | inr past ↦ omega arith
  ]
    where
      true≢false : true ≡ false → ⊥
      true≢false e = cc

  accepted : (w : List ℕ) → Accepts r w → (final ≡ true) × Spelled sets w
  accepted w (q, reach, ends) =
      let at = only q w reach in
      let last = only_last q at.0 ends in (
        sym last_final ∙ ap (λ n. get_or r.finals n false) (sym last) ∙ ends,
        subst (λ l. Spelled l w) (take_all (length sets) sets (omega arith)) (subst (λ n. Spelled (take n sets) w) last at.1),
      )

  accepts : (w : List ℕ) → (final ≡ true) × Spelled sets w → Accepts r w
  accepts w (ends, each) =
      (length sets, reached (length sets) w (omega arith) (subst (λ l. Spelled l w) (sym (take_all (length sets) sets (omega arith))) each), last_final ∙ ends)

  pub chain_language : (w : List ℕ) → Accepts r w ↔ ((final ≡ true) × Spelled sets w)
  chain_language w = (accepted w, accepts w)

  pub chain_start : (w : List ℕ) → Reach r 0 w ↔ (w ≡ [])
  chain_start w = (λ reach. spelled_none w (only 0 w reach).1, λ empty. subst (λ v. Reach r 0 v) (sym empty) (reached 0 [] (omega arith) tt))

-- a chain of one state
pub none_accepted : (r : Automaton) → IsChain [] false r → (w : List ℕ) → Accepts r w → ⊥
none_accepted r built w accepts = let never = ((chain_language [] false r built w).0 accepts).0 in cc

pub empty_accepted : (r : Automaton) → IsChain [] true r → (w : List ℕ) → Accepts r w ↔ (w ≡ [])
empty_accepted r built w =
    (λ accepts. spelled_none w ((chain_language [] true r built w).0 accepts).1, λ empty. subst (λ v. Accepts r v) (sym empty) ((chain_language [] true r built []).1 (refl, tt)))

-- a chain of two states
spelled_letter : (set : List Bool) (w : List ℕ) → Spelled (set ∷ []) w → IsLetterOf set w
spelled_letter set [] each = absurd each
spelled_letter set (k ∷ []) each = (k, each.0, refl)
spelled_letter set (k ∷ j ∷ w) each = absurd each.1

letter_spelled : (set : List Bool) (w : List ℕ) → IsLetterOf set w → Spelled (set ∷ []) w
letter_spelled set w (k, among, is) = subst (λ v. Spelled (set ∷ []) v) (sym is) (among, tt)

pub letter_reached : (set : List Bool) (r : Automaton) → IsChain (set ∷ []) true r → (w : List ℕ) → Reach r 1 w ↔ IsLetterOf set w
letter_reached set r built w = (
  λ reach. spelled_letter set w ((chain_reach (set ∷ []) true r built 1 w).0 reach).1,
  λ letter. (chain_reach (set ∷ []) true r built 1 w).1 (omega arith, letter_spelled set w letter),
)

pub letter_accepted : (set : List Bool) (r : Automaton) → IsChain (set ∷ []) true r → (w : List ℕ) → Accepts r w ↔ IsLetterOf set w
letter_accepted set r built w = (
  λ accepts. spelled_letter set w ((chain_language (set ∷ []) true r built w).0 accepts).1,
  λ letter. (chain_language (set ∷ []) true r built w).1 (refl, letter_spelled set w letter),
)

-- a chain of sets of one letter
single_within : (n k j : ℕ) → j < n → has (single n k) j ≡ eqb j k
single_within n k j below = get_or-map-range_with_len (λ i. eqb i k) 0 n j j false below (omega arith)

pub single_only : (n k j : ℕ) → has (single n k) j ≡ true → j ≡ k
single_only n k j among = elim (cases_lt j n) [
  | inl below ↦ eqb-true j k (sym (single_within n k j below) ∙ among)
  | inr past ↦
      let never = sym among ∙ get_or_past (single n k) j false (omega (arith, past, length-map-range_with_len (λ i. eqb i k) 0 n)) in
      absurd (true≢false never)
]
  where
    true≢false : true ≡ false → ⊥
    true≢false e = cc

pub single_has : (n k : ℕ) → k < n → has (single n k) k ≡ true
single_has n k below = single_within n k k below ∙ eq-eqb k k refl

spelled_word : (n : ℕ) (xs w : List ℕ) → Spelled (map (single n) xs) w → w ≡ xs
spelled_word n [] w each = spelled_none w each
spelled_word n (x ∷ xs) [] each = absurd each
spelled_word n (x ∷ xs) (k ∷ w) each = let head = single_only n x k each.0 in let tail = spelled_word n xs w each.1 in cc

word_spelled : (n : ℕ) (xs : List ℕ) → All (λ k. k < n) xs → Spelled (map (single n) xs) xs
word_spelled n [] each = tt
word_spelled n (x ∷ xs) each = (single_has n x (All-head (λ k. k < n) x xs each), word_spelled n xs (All-tail (λ k. k < n) x xs each))

module _ (n : ℕ) (word : List ℕ) (below : All (λ k. k < n) word) (r : Automaton) (built : IsChain (map (single n) word) true r) where
  pub word_reached : (q : ℕ) (w : List ℕ) → Reach r q w ↔ ((q ≤ length word) × (w ≡ take q word))
  word_reached q w = (
    λ reach. let at = (chain_reach (map (single n) word) true r built q w).0 reach in
        (omega (arith, at.0, length-map word (single n)), spelled_word n (take q word) w (subst (λ l. Spelled l w) (take-map (single n) q word) at.1)),
    λ at. (chain_reach (map (single n) word) true r built q w).1 (
      omega (arith, at.0, length-map word (single n)),
      subst (λ l. Spelled l w) (sym (take-map (single n) q word))
          (subst (λ v. Spelled (map (single n) (take q word)) v) (sym at.1) (word_spelled n (take q word) (All-take (λ k. k < n) q word below))),
    ),
  )

  pub word_accepted : (w : List ℕ) → Accepts r w ↔ (w ≡ word)
  word_accepted w = (
    λ accepts. spelled_word n word w ((chain_language (map (single n) word) true r built w).0 accepts).1,
    λ same. (chain_language (map (single n) word) true r built w).1 (refl, subst (λ v. Spelled (map (single n) word) v) (sym same) (word_spelled n word below)),
  )

-- the set that one letter was put into
pub letters_single : (n k : ℕ) (letters : List Bool) → length letters ≡ n → k < n → has letters k ≡ true → ((j : ℕ) → j ≢ k → has letters j ≡ false) → letters ≡ single n k
letters_single n k letters len below here others =
    ext_get_or false letters (single n k) (len ∙ sym (length-map-range_with_len (λ i. eqb i k) 0 n)) (λ j within. elim (cases_eq j k) [
      | inl same ↦ ap (λ i. has letters i) same ∙ here ∙ sym (ap (λ i. has (single n k) i) same ∙ single_has n k below)
      | inr apart ↦ others j apart ∙ sym (single_within n k j (omega arith) ∙ ne_eqb j k apart)
    ])

-- the edges for a word so far
pub links_more : (n : ℕ) (word : List ℕ) (i : ℕ) → i < length word → map (link (map (single n) word)) (range_with_len 0 i) ++ (record { label = Some (single n (get_or word i 0)); to = i + 1 } ∷ []) ∷ []
    ≡ map (link (map (single n) word)) (range_with_len 0 (i + 1))
links_more n word i below =
    ap (λ set. map (link (map (single n) word)) (range_with_len 0 i) ++ (record { label = Some set; to = i + 1 } ∷ []) ∷ []) (sym (get_or-map (single n) word i 0 [] below))
    ∙ sym (map-range_with_len_more (link (map (single n) word)) 0 i i (omega arith))

pub singles_sized : (n : ℕ) (word : List ℕ) → All (λ set. length set ≡ n) (map (single n) word)
singles_sized n word = All-map (λ set. length set ≡ n) (single n) word (λ i d below. length-map-range_with_len (λ j. eqb j (get_or word i d)) 0 n)

pub links_all : (n : ℕ) (word : List ℕ) (i : ℕ) → i ≤ length word → length word ≤ i → map (link (map (single n) word)) (range_with_len 0 i) ++ [] ∷ [] ≡ links (map (single n) word)
links_all n word i within over =
    ap (λ k. map (link (map (single n) word)) (range_with_len 0 k) ++ [] ∷ []) (omega (arith, within, over, length-map word (single n)))
