-- Edges that are put among others, or joined to one of them.
use Rattle.std.proofs.Common.{◌≡◌, ℕ, zero, suc, ◌+◌, ◌<◌, ◌≤◌, Bool, true, false, cond, ◌||◌, List, [], ◌∷◌, ◌++◌, length, get_or, set, map, take, None, Some, refl, sym, ap, ◌∙◌, subst, inl, inr, arith}
use Rattle.std.specs.List.{All, Contains, count_by}
use Rattle.std.specs.Option.{IsSome, option_map, option_map_or}
use Rattle.std.proofs.lemmas.Bool.{cases_Bool, cases_lt}
use Rattle.std.proofs.lemmas.List.{get_or-map, get_or_append_left, get_or_push, length-map, map_push, take_more}
use Rattle.std.proofs.lemmas.List.Elements.{All-get_or, All-nil, All-push, All-set, Contains-get_or}
use Rattle.std.proofs.lemmas.List.Sums.{get_or-le-sum_by, sum_by-cons, sum_by-set, sum_by_more_le, sum_by_push}
use Rattle.rela_labels.specs.Letters.{has}
use Rattle.rela_nfa.specs.Automaton.{IsMove, Move}
use Rattle.rela_nfa.specs.Stored.{move_of}
use Rattle.rela_nfa.specs.declared.edge.Edge.{Edge}
use Rattle.rela_subset.specs.Deterministic.{Deterministic, IsDeterministic, moves_of, states, takes, target}
use Rattle.rela_subset.specs.Expansion.{IsPutIn}
use Rattle.rela_minimise.specs.Classes.{onto}
use Rattle.rela_minimise.specs.Joining.{AreOnto, HasSize, IsPut}
use Rattle.rela_minimise.proofs.LetterTargets.{moves_at, split_at}

-- the edge with this label and end
abbrev pub edge_of : List Bool → ℕ → Move
edge_of label to = record { label = Some label; to = to }

abbrev digit : Bool → ℕ
digit b = cond b 1 0

abbrev takes_one : ℕ → Move → ℕ
takes_one k move = digit (takes k move)

count_first : (k : ℕ) (first : Move) (others : List Move) → count_by (takes k) (first ∷ others) ≡ takes_one k first + count_by (takes k) others
count_first k first others = sum_by-cons (takes_one k) first others

or_false : (a b : Bool) → b ≡ false → (a || b) ≡ a
or_false true b e = refl
or_false false b e = e

or_true : (a b : Bool) → b ≡ true → (a || b) ≡ true
or_true true b e = refl
or_true false b e = e

-- where nothing takes the letter, the first edge doesn't, nor the others
none_first : (k : ℕ) (first : Move) (others : List Move) → count_by (takes k) (first ∷ others) ≡ 0 → (takes k first ≡ false) × (count_by (takes k) others ≡ 0)
none_first k first others none = elim (cases_Bool (takes k first)) [
  | inl yes' ↦ let counted = count_first k first others in let one : takes_one k first ≡ 1 = ap digit yes' in absurd (omega arith)
  | inr no' ↦ let counted = count_first k first others in (no', omega arith)
]

-- an edge behind the others
pub target_push : (moves : List Move) (move : Move) (k : ℕ) → (takes k move ≡ true → count_by (takes k) moves ≡ 0) → target (moves ++ move ∷ []) k ≡ cond (takes k move) (Some move.to) (target moves k)
target_push [] move k free = refl
target_push (first ∷ others) move k free = elim (cases_Bool (takes k move)) [
  | inl yes' ↦
      let none = none_first k first others (free yes') in
      ap (λ b. cond b (Some first.to) (target (others ++ move ∷ []) k)) none.0
      ∙ target_push others move k (λ _. none.1)
      ∙ ap (λ b. cond b (Some move.to) (target others k)) yes'
      ∙ sym (ap (λ b. cond b (Some move.to) (target (first ∷ others) k)) yes')
  | inr no' ↦
      ap (λ t. cond (takes k first) (Some first.to) t) (target_push others move k (λ taken. absurd (let never : true ≡ false = sym taken ∙ no' in cc)) ∙ ap (λ b. cond b (Some move.to) (target others k)) no')
      ∙ sym (ap (λ b. cond b (Some move.to) (target (first ∷ others) k)) no')
]

-- an edge in the place of one to the same end
target_set : (moves : List Move) (i : ℕ) (move : Move) (k : ℕ) → takes k move ≡ takes k (get_or moves i move) → move.to ≡ (get_or moves i move).to → target (set moves i move) k ≡ target moves k
target_set [] i move k same at = refl
target_set (first ∷ others) zero move k same at =
    ap (λ b. cond b (Some move.to) (target others k)) same ∙ ap (λ to. cond (takes k first) (Some to) (target others k)) at
target_set (first ∷ others) (suc i) move k same at = ap (λ t. cond (takes k first) (Some first.to) t) (target_set others i move k same at)

-- an edge by which a letter leads that led nowhere
target_new : (moves : List Move) (i : ℕ) (move : Move) (k : ℕ) → i < length moves → takes k move ≡ true → count_by (takes k) moves ≡ 0 → target (set moves i move) k ≡ Some move.to
target_new [] i move k within taken none = absurd (omega arith)
target_new (first ∷ others) zero move k within taken none = ap (λ b. cond b (Some move.to) (target others k)) taken
target_new (first ∷ others) (suc i) move k within taken none =
    let nones = none_first k first others none in
    ap (λ b. cond b (Some first.to) (target (set others i move) k)) nones.0 ∙ target_new others i move k (omega arith) taken nones.1

module _ (label : List Bool) (to : ℕ) (old : List Move) (sizes : All (HasSize (length label)) old) (free : (k : ℕ) → has label k ≡ true → count_by (takes k) old ≡ 0) where
  has_size : (both : List Bool) → length both ≡ length label → HasSize (length label) (edge_of both to)
  has_size both size x e = let same : both ≡ x = cc in sym (ap length same) ∙ size

  put_behind : IsPut label to old (old ++ edge_of label to ∷ [])
  put_behind = record {
    counts = λ k. sum_by_push (takes_one k) old (edge_of label to);
    leads = λ k. target_push old (edge_of label to) k (free k);
    sized = All-push (HasSize (length label)) old (edge_of label to) sizes (has_size label refl);
    labelled = λ are. All-push (λ (move : Move). IsSome move.label) old (edge_of label to) are refl;
    within = λ classes here are. All-push (λ (move : Move). Contains classes move.to) old (edge_of label to) are here;
  }

  module _ (i : ℕ) (below : i < length old) (both : List Bool) (size : length both ≡ length label) (leads : (get_or old i (edge_of both to)).to ≡ to)
      (either : (k : ℕ) → has both k ≡ (takes k (get_or old i (edge_of both to)) || has label k)) where
    abbrev before : Move
    before = get_or old i (edge_of both to)

    joined_count : (k : ℕ) → count_by (takes k) (set old i (edge_of both to)) ≡ count_by (takes k) old + digit (has label k)
    joined_count k =
        let sums : count_by (takes k) (set old i (edge_of both to)) + takes_one k before ≡ count_by (takes k) old + takes_one k (edge_of both to) = sum_by-set (takes_one k) old i (edge_of both to) (edge_of both to) below in
        elim (cases_Bool (has label k)) [
          | inl yes' ↦
              let none = free k yes' in
              let least : takes_one k before ≤ count_by (takes k) old = get_or-le-sum_by (takes_one k) old i (edge_of both to) below in
              let one : takes_one k (edge_of both to) ≡ 1 = ap digit (either k ∙ or_true (takes k before) (has label k) yes') in
              let new_one : digit (has label k) ≡ 1 = ap digit yes' in
              omega (arith, sums, none, least, one, new_one)
          | inr no' ↦
              let same : takes_one k (edge_of both to) ≡ takes_one k before = ap digit (either k ∙ or_false (takes k before) (has label k) no') in
              let zero' : digit (has label k) ≡ 0 = ap digit no' in
              omega (arith, sums, same, zero')
        ]

    joined_target : (k : ℕ) → target (set old i (edge_of both to)) k ≡ cond (has label k) (Some to) (target old k)
    joined_target k = elim (cases_Bool (has label k)) [
      | inl yes' ↦
          target_new old i (edge_of both to) k below (either k ∙ or_true (takes k before) (has label k) yes') (free k yes')
          ∙ sym (ap (λ b. cond b (Some to) (target old k)) yes')
      | inr no' ↦
          target_set old i (edge_of both to) k (either k ∙ or_false (takes k before) (has label k) no') (sym leads)
          ∙ sym (ap (λ b. cond b (Some to) (target old k)) no')
    ]

    put_joined : IsPut label to old (set old i (edge_of both to))
    put_joined = record {
      counts = joined_count;
      leads = joined_target;
      sized = All-set (HasSize (length label)) old i (edge_of both to) (has_size both size) sizes;
      labelled = λ are. All-set (λ (move : Move). IsSome move.label) old i (edge_of both to) refl are;
      within = λ classes here are. All-set (λ (move : Move). Contains classes move.to) old i (edge_of both to) here are;
    }

  pub put_in : (new : List Move) → IsPutIn label to old new → IsPut label to old new
  put_in new put = elim put [
    | inl pushed ↦ subst (IsPut label to old) (sym pushed) put_behind
    | inr joined ↦
        let move = edge_of joined.1 to in
        subst (IsPut label to old) (sym joined.3) (put_joined joined.0 joined.2 joined.1 joined.5 (joined.4 move) (λ k. joined.6 k move))
  ]

-- edges to classes have the same labels
pub count_onto : (classes : List ℕ) (k : ℕ) (moves : List Move) → count_by (takes k) (map (onto classes) moves) ≡ count_by (takes k) moves
count_onto classes k [] = refl
count_onto classes k (move ∷ others) =
    sum_by-cons (takes_one k) (onto classes move) (map (onto classes) others)
    ∙ ap (λ n. takes_one k move + n) (count_onto classes k others)
    ∙ sym (sum_by-cons (takes_one k) move others)

-- one edge more, to its class
module _ (size : ℕ) (classes : List ℕ) (moves joined : List Move) (are : AreOnto size classes moves joined) where
  target_more : (move : Move) (k : ℕ) → (takes k move ≡ true → count_by (takes k) moves ≡ 0)
      → target (map (onto classes) (moves ++ move ∷ [])) k ≡ cond (takes k move) (Some (get_or classes move.to 0)) (target joined k)
  target_more move k free =
      ap (λ l. target l k) (map_push (onto classes) moves move)
      ∙ target_push (map (onto classes) moves) (onto classes move) k (λ taken. count_onto classes k moves ∙ free taken)
      ∙ ap (cond (takes k move) (Some (get_or classes move.to 0))) (sym (are.leads k))

  pub onto_silent : (move : Move) → move.label ≡ None → AreOnto size classes (moves ++ move ∷ []) joined
  onto_silent move silent = record {
    split = λ k. are.split k ∙ sym (sum_by_push (takes_one k) moves move ∙ ap (λ b. count_by (takes k) moves + digit b) (not_taken k) ∙ omega arith);
    leads = λ k. sym (target_more move k (λ taken. absurd (let never : true ≡ false = sym taken ∙ not_taken k in cc)) ∙ ap (λ b. cond b (Some (get_or classes move.to 0)) (target joined k)) (not_taken k));
    sized = are.sized;
    labelled = are.labelled;
    within = are.within;
  }
    where
      not_taken : (k : ℕ) → takes k move ≡ false
      not_taken k = ap (λ l. option_map_or (λ s. has s k) l false) silent

  pub onto_more : (label : List Bool) (to : ℕ) (joined' : List Move) → length label ≡ size → Contains classes (get_or classes to 0) → ((k : ℕ) → has label k ≡ true → count_by (takes k) moves ≡ 0)
      → IsPut label (get_or classes to 0) joined joined' → AreOnto size classes (moves ++ edge_of label to ∷ []) joined'
  onto_more label to joined' same here free put = record {
    split = λ k. put.counts k ∙ ap (λ n. n + digit (has label k)) (are.split k) ∙ sym (sum_by_push (takes_one k) moves (edge_of label to));
    leads = λ k. put.leads k ∙ sym (target_more (edge_of label to) k (free k));
    sized = subst (λ n. All (HasSize n) joined') same put.sized;
    labelled = put.labelled are.labelled;
    within = put.within classes here are.within;
  }

pub onto_none : (size : ℕ) (classes : List ℕ) → AreOnto size classes [] []
onto_none size classes = record {
  split = λ k. refl;
  leads = λ k. refl;
  sized = All-nil (HasSize size);
  labelled = All-nil (λ (move : Move). IsSome move.label);
  within = All-nil (λ (move : Move). Contains classes move.to);
}

-- a letter is in no label before the only one that has it
pub free_before : (moves : List Move) (i k : ℕ) (d : Move) → i < length moves → count_by (takes k) moves ≤ 1 → takes k (get_or moves i d) ≡ true → count_by (takes k) (take i moves) ≡ 0
free_before moves i k d below one taken =
    let within : count_by (takes k) (take i moves) + takes_one k (get_or moves i d) ≤ count_by (takes k) moves = sum_by_more_le (takes_one k) moves i d below in
    let counted : takes_one k (get_or moves i d) ≡ 1 = ap digit taken in
    omega arith

pub one_label : (d : Deterministic) → IsDeterministic d → (q : ℕ) → q < states d → (k : ℕ) → count_by (takes k) (moves_of d q) ≤ 1
one_label d ok q below k = elim (cases_Bool (has d.over k)) [
  | inl over ↦ let is = split_at d ok q below k in let one : digit (has d.over k) ≡ 1 = ap digit over in omega arith
  | inr other ↦ let is = split_at d ok q below k in let none : digit (has d.over k) ≡ 0 = ap digit other in omega arith
]

-- the edges of a state, of which the first i have been put
module _ (d : Deterministic) (ok : IsDeterministic d) (q : ℕ) (below : q < states d) (classes : List ℕ) (each : length classes ≡ states d) {L : Type 0} (letters : L → List Bool) (edges : List (Edge L))
    (are : map (move_of letters) edges ≡ moves_of d q) (i : ℕ) (within : i < length edges) (edge : Edge L) (at : edge ≡ get_or edges i edge) (joined : List Move)
    (so_far : AreOnto (length d.over) classes (take i (moves_of d q)) joined) where
  moves_len : i < length (moves_of d q)
  moves_len = let same = ap length are in let len = length-map edges (move_of letters) in omega arith

  move_at : (move : Move) → get_or (moves_of d q) i move ≡ move_of letters edge
  move_at move = sym (ap (λ ms. get_or ms i move) are) ∙ get_or-map (move_of letters) edges i edge move within ∙ ap (move_of letters) (sym at)

  one_more : take (i + 1) (moves_of d q) ≡ take i (moves_of d q) ++ move_of letters edge ∷ []
  one_more = take_more (moves_of d q) i (move_of letters edge) moves_len ∙ ap (λ move. take i (moves_of d q) ++ move ∷ []) (move_at (move_of letters edge))

  is_move : IsMove (length d.over) (states d) (move_of letters edge)
  is_move = subst (IsMove (length d.over) (states d)) (move_at (move_of letters edge)) (All-get_or (IsMove (length d.over) (states d)) (moves_of d q) i (move_of letters edge) moves_len (moves_at d ok q below))

  pub edge_within : edge.to < length classes
  edge_within = let leads = is_move.leads in omega arith

  pub all_silent : edge.label ≡ None → AreOnto (length d.over) classes (take (i + 1) (moves_of d q)) joined
  all_silent silent =
      subst (λ ms. AreOnto (length d.over) classes ms joined) (sym one_more)
      (onto_silent (length d.over) classes (take i (moves_of d q)) joined so_far (move_of letters edge) (ap (option_map letters) silent))

  module _ (label : L) (has_label : edge.label ≡ Some label) where
    label_is : (move_of letters edge).label ≡ Some (letters label)
    label_is = ap (option_map letters) has_label

    label_size : length (letters label) ≡ length d.over
    label_size = is_move.sized (letters label) label_is

    free : (k : ℕ) → has (letters label) k ≡ true → count_by (takes k) (take i (moves_of d q)) ≡ 0
    free k yes' = free_before (moves_of d q) i k (move_of letters edge) moves_len (one_label d ok q below k)
        (ap (takes k) (move_at (move_of letters edge)) ∙ ap (λ l. option_map_or (λ s. has s k) l false) label_is ∙ yes')

    pub put_free : (k : ℕ) → has (letters label) k ≡ true → count_by (takes k) joined ≡ 0
    put_free k yes' = so_far.split k ∙ free k yes'

    pub put_sized : All (HasSize (length (letters label))) joined
    put_sized = subst (λ n. All (HasSize n) joined) (sym label_size) so_far.sized

    pub all_more : (joined' : List Move) → IsPut (letters label) (get_or classes edge.to 0) joined joined' → AreOnto (length d.over) classes (take (i + 1) (moves_of d q)) joined'
    all_more joined' put =
        let label_at : edge_of (letters label) edge.to ≡ move_of letters edge = ap (λ l. record { label = l; to = edge.to }) (sym label_is) in
        subst (λ ms. AreOnto (length d.over) classes ms joined') (sym one_more)
        (subst (λ move. AreOnto (length d.over) classes (take i (moves_of d q) ++ move ∷ []) joined') label_at
        (onto_more (length d.over) classes (take i (moves_of d q)) joined so_far (letters label) edge.to joined' label_size (Contains-get_or classes edge.to 0 edge_within) free put))

-- the edges of one class more
pub have_more : (d : Deterministic) (classes heads : List ℕ) (i : ℕ) (edges edges' : List (List Move)) (joined : List Move) → length edges ≡ i → edges' ≡ edges ++ joined ∷ []
    → AreOnto (length d.over) classes (moves_of d (get_or heads i 0)) joined
    → ((c : ℕ) → c < i → AreOnto (length d.over) classes (moves_of d (get_or heads c 0)) (get_or edges c []))
    → (c : ℕ) → c < i + 1 → AreOnto (length d.over) classes (moves_of d (get_or heads c 0)) (get_or edges' c [])
have_more d classes heads i edges edges' joined each pushed last before c below = elim (cases_lt c i) [
  | inl earlier ↦
      subst (AreOnto (length d.over) classes (moves_of d (get_or heads c 0))) (sym (ap (λ es. get_or es c []) pushed ∙ get_or_append_left edges (joined ∷ []) [] c (omega arith)))
      (before c earlier)
  | inr not_earlier ↦
      let here : i ≡ c = omega arith in
      subst (λ n. AreOnto (length d.over) classes (moves_of d (get_or heads n 0)) (get_or edges' n [])) here
      (subst (AreOnto (length d.over) classes (moves_of d (get_or heads i 0))) (sym (ap (λ es. get_or es i []) pushed ∙ get_or_push edges joined [] i each)) last)
]
