-- An automaton that reads each letter as another, and words of its letters.
use Rattle.std.proofs.Common.{◌≡◌, ◌∙◌, ℕ, zero, suc, ◌<◌, ◌↔◌, Bool, true, false, List, [], ◌∷◌, ◌++◌, length, map, get_or, Option, None, Some, refl, sym, ap, subst, inl, inr, arith}
use Rattle.std.specs.List.{All, Contains}
use Rattle.std.specs.Option.{option_map, option_to_list}
use Rattle.std.proofs.lemmas.Bool.{cases_lt, false≢true}
use Rattle.std.proofs.lemmas.List.{get_or-map, get_or_past, length-map}
use Rattle.std.proofs.lemmas.List.Elements.{All-nil, All-cons, All-head, All-map, All-tail, All-weaker}
use Rattle.rela_labels.specs.Letters.{has}
use Rattle.rela_labels.specs.Partition.{block_of}
use Rattle.rela_nfa.specs.Automaton.{Automaton, Move, IsAutomaton, IsMove, moves_of, states}
use Rattle.rela_nfa.specs.Relabelling.{IsRelabelled, relabelled, relabelled_move}
use Rattle.rela_nfa.specs.Runs.{Step, HasStep, Follow, spelled, Reach, Accepts}

-- each letter of the word is below the number
abbrev pub Below : ℕ → List ℕ → Type 0
Below n w = All (λ k. k < n) w

-- each letter of the word is in the set
abbrev pub IsOver : List Bool → List ℕ → Type 0
IsOver set w = All (λ k. has set k ≡ true) w

has_below : (set : List Bool) (k : ℕ) → has set k ≡ true → k < length set
has_below set k among = elim (cases_lt k (length set)) [
  | inl below ↦ below
  | inr past ↦ absurd (false≢true (sym (get_or_past set k false past) ∙ among))
]

-- ---- lists that are mapped

Contains-nil : {X : Type 0} (x : X) → Contains [] x → ⊥
Contains-nil x c = omega (arith, c.1)

Contains-map : {X Y : Type 0} (f : X → Y) (xs : List X) (x : X) → Contains xs x → Contains (map f xs) (f x)
Contains-map f xs x c = (c.0, omega (arith, c.1, length-map xs f), get_or-map f xs c.0 x (f x) c.1 ∙ ap f c.2)

Contains-map_back : {X Y : Type 0} (f : X → Y) (xs : List X) (y : Y) → Contains (map f xs) y → (x : X) × (f x ≡ y) × Contains xs x
Contains-map_back f [] y c = absurd (Contains-nil y c)
Contains-map_back f (x ∷ xs) y (zero, below, at) = (x, at, (0, omega arith, refl))
Contains-map_back f (x ∷ xs) y (suc k, below, at) =
    let found = Contains-map_back f xs y (k, omega (arith, below), at) in
    (found.0, found.1, (suc found.2.0, omega (arith, found.2.1), found.2.2))

get_or-map_nil : {X Y : Type 0} (f : X → Y) (xs : List (List X)) (k : ℕ) → get_or (map (map f) xs) k [] ≡ map f (get_or xs k [])
get_or-map_nil f [] k = refl
get_or-map_nil f (x ∷ xs) zero = refl
get_or-map_nil f (x ∷ xs) (suc k) = get_or-map_nil f xs k

-- ---- edges and words of the one that reads each letter as another

silent_label : (letters : List ℕ) (label : Option (List Bool)) → option_map (relabelled letters) label ≡ None → label ≡ None
silent_label letters None e = refl
silent_label letters (Some set) e = absurd cc

old_label : (letters : List ℕ) (label : Option (List Bool)) (set : List Bool) → option_map (relabelled letters) label ≡ Some set
    → (old : List Bool) × (label ≡ Some old) × (relabelled letters old ≡ set)
old_label letters None set e = absurd cc
old_label letters (Some old) set e = let same : relabelled letters old ≡ set = cc in (old, refl, same)

module _ (letters : List ℕ) (a r : Automaton) (built : IsRelabelled letters a r) where
  same_moves : (p : ℕ) → moves_of r p ≡ map (relabelled_move letters) (moves_of a p)
  same_moves p = ap (λ l. get_or l p []) built.edges ∙ get_or-map_nil (relabelled_move letters) a.edges p

  old_move : (p : ℕ) (move : Move) → Contains (moves_of r p) move → (old : Move) × (relabelled_move letters old ≡ move) × Contains (moves_of a p) old
  old_move p move among =
      Contains-map_back (relabelled_move letters) (moves_of a p) move (subst (λ (l : List Move). Contains l move) (same_moves p) among)

  new_move : (p : ℕ) (old : Move) → Contains (moves_of a p) old → Contains (moves_of r p) (relabelled_move letters old)
  new_move p old among =
      subst (λ (l : List Move). Contains l (relabelled_move letters old)) (sym (same_moves p)) (Contains-map (relabelled_move letters) (moves_of a p) old among)

  silent_back : (p q : ℕ) → HasStep r p None q → HasStep a p None q
  silent_back p q step =
      let (old, is, among) = old_move p _ step in
      let label = silent_label letters old.label (ap (λ (m : Move). m.label) is) in
      let to = ap (λ (m : Move). m.to) is in
      subst (λ (m : Move). Contains (moves_of a p) m) (λ i. record { label = label i; to = to i }) among

  -- the set of a label that reads the letter, before
  letter_old : (p q k : ℕ) → HasStep r p (Some k) q → (old : List Bool) × Contains (moves_of a p) (record { label = Some old; to = q }) × (has (relabelled letters old) k ≡ true)
  letter_old p q k (set, step, reads) =
      let (move, is, among) = old_move p _ step in
      let (old, label, same) = old_label letters move.label set (ap (λ (m : Move). m.label) is) in
      let to = ap (λ (m : Move). m.to) is in (
        old,
        subst (λ (m : Move). Contains (moves_of a p) m) (λ i. record { label = label i; to = to i }) among,
        subst (λ (s : List Bool). has s k ≡ true) (sym same) reads,
      )

  letter_below : (p q k : ℕ) → HasStep r p (Some k) q → k < length letters
  letter_below p q k step =
      let (old, among, reads) = letter_old p q k step in
      omega (arith, has_below (relabelled letters old) k reads, length-map letters (has old))

  letter_back : (p q k : ℕ) → HasStep r p (Some k) q → HasStep a p (Some (block_of letters k)) q
  letter_back p q k step =
      let (old, among, reads) = letter_old p q k step in
      (old, among, sym (get_or-map (has old) letters k 0 false (letter_below p q k step)) ∙ reads)

  letter_on : (p q k : ℕ) → k < length letters → HasStep a p (Some (block_of letters k)) q → HasStep r p (Some k) q
  letter_on p q k below (old, among, reads) = (relabelled letters old, new_move p _ among, get_or-map (has old) letters k 0 false below ∙ reads)

  -- steps from p to q that spell the word
  abbrev Spells : Automaton → ℕ → ℕ → List ℕ → Type 0
  Spells b p q word = (steps : List Step) × Follow b p steps q × (spelled steps ≡ word)

  abbrev f : List ℕ → List ℕ
  f w = map (block_of letters) w

  back_one : (letter : Option ℕ) (p to q : ℕ) (rest : List ℕ) → HasStep r p letter to → Below (length letters) rest × Spells a to q (f rest)
      → Below (length letters) (option_to_list letter ++ rest) × Spells a p q (f (option_to_list letter ++ rest))
  back_one None p to q rest step (below, (steps, follows, spells)) = (below, (record { letter = None; to = to } ∷ steps, (silent_back p to step, follows), spells))
  back_one (Some k) p to q rest step (below, (steps, follows, spells)) = (
    All-cons (λ j. j < length letters) k rest (letter_below p to k step) below,
    (
      record { letter = Some (block_of letters k); to = to } ∷ steps,
      (letter_back p to k step, follows),
      ap (λ (w : List ℕ). block_of letters k ∷ w) spells,
    ),
  )

  back : (steps : List Step) (p q : ℕ) → Follow r p steps q → Below (length letters) (spelled steps) × Spells a p q (f (spelled steps))
  back [] p q here = (All-nil (λ j. j < length letters), ([], here, refl))
  back (step ∷ steps) p q follows = back_one step.letter p step.to q (spelled steps) follows.0 (back steps step.to q follows.1)

  on_one : (letter : Option ℕ) (p to q : ℕ) (rest w : List ℕ) → HasStep a p letter to → Below (length letters) w → option_to_list letter ++ rest ≡ f w
      → ((v : List ℕ) → Below (length letters) v → rest ≡ f v → Spells r to q v) → Spells r p q w
  on_one None p to q rest w step below e later = let (steps, follows, spells) = later w below e in
      (record { letter = None; to = to } ∷ steps, (new_move p _ step, follows), spells)
  on_one (Some j) p to q rest [] step below e later = absurd cc
  on_one (Some j) p to q rest (k ∷ w) step below e later =
      let head : j ≡ block_of letters k = cc in
      let tail : rest ≡ f w = cc in
      let (steps, follows, spells) = later w (All-tail (λ i. i < length letters) k w below) tail in (
        record { letter = Some k; to = to } ∷ steps,
        (letter_on p to k (All-head (λ i. i < length letters) k w below) (subst (λ (i : ℕ). HasStep a p (Some i) to) head step), follows),
        ap (λ (v : List ℕ). k ∷ v) spells,
      )

  on : (steps : List Step) (p q : ℕ) (w : List ℕ) → Below (length letters) w → Follow a p steps q → spelled steps ≡ f w → Spells r p q w
  on [] p q [] below here e = ([], here, refl)
  on [] p q (k ∷ w) below here e = absurd cc
  on (step ∷ steps) p q w below follows e = on_one step.letter p step.to q (spelled steps) w follows.0 below e (λ v low same. on steps step.to q v low follows.1 same)

  -- it reads no letter that has none to be read as
  pub reached_below : (q : ℕ) (w : List ℕ) → Reach r q w → Below (length letters) w
  reached_below q w (steps, follows, spells) = subst (Below (length letters)) spells (back steps r.start q follows).0

  pub reach_by : (q : ℕ) (w : List ℕ) → Below (length letters) w → Reach r q w ↔ Reach a q (f w)
  reach_by q w below = (
    λ (steps, follows, spells).
        subst (λ (v : List ℕ). Reach a q (f v)) spells (subst (λ (n : ℕ). Spells a n q (f (spelled steps))) built.start (back steps r.start q follows).1),
    λ (steps, follows, spells). subst (λ (n : ℕ). Spells r n q w) (sym built.start) (on steps a.start q w below follows spells),
  )

  pub accepts_by : (w : List ℕ) → Below (length letters) w → Accepts r w ↔ Accepts a (f w)
  accepts_by w below = (
    λ (q, reach, final). (q, (reach_by q w below).0 reach, ap (λ l. get_or l q false) (sym built.finals) ∙ final),
    λ (q, reach, final). (q, (reach_by q w below).1 reach, ap (λ l. get_or l q false) built.finals ∙ final),
  )

  pub relabelled_ok : IsAutomaton a → IsAutomaton r
  relabelled_ok ok = record {
    each = ap length built.edges ∙ length-map a.edges (map (relabelled_move letters)) ∙ ok.each ∙ sym (ap length built.finals);
    starts = omega (arith, ok.starts, ap length built.finals, built.start);
    moves =
        subst (λ l. All (All (IsMove r.letters (states r))) l) (sym built.edges)
        (All-map (All (IsMove r.letters (states r))) (map (relabelled_move letters)) a.edges
        (All-weaker (All (IsMove a.letters (states a))) (λ l. All (IsMove r.letters (states r)) (map (relabelled_move letters) l))
        (λ l each. All-map (IsMove r.letters (states r)) (relabelled_move letters) l
        (All-weaker (IsMove a.letters (states a)) (λ m. IsMove r.letters (states r) (relabelled_move letters m)) (λ m is. record {
          sized = λ set e.
              let old = old_label letters m.label set e in ap length (sym old.2) ∙ length-map letters (has old.0) ∙ sym built.letters;
          leads = omega (arith, is.leads, ap length built.finals);
        }) l each)) a.edges ok.moves));
  }

module _ (letters : List ℕ) (set : List Bool) where
  pub has_by : (k : ℕ) → k < length letters → has (relabelled letters set) k ≡ has set (block_of letters k)
  has_by k below = get_or-map (has set) letters k 0 false below

  pub over_on : (w : List ℕ) → IsOver (relabelled letters set) w → IsOver set (map (block_of letters) w)
  over_on [] each = All-nil (λ j. has set j ≡ true)
  over_on (k ∷ w) each =
      let among : has (relabelled letters set) k ≡ true = All-head (λ j. has (relabelled letters set) j ≡ true) k w each in
      let below : k < length letters = omega (arith, has_below (relabelled letters set) k among, length-map letters (has set)) in
      All-cons (λ j. has set j ≡ true) (block_of letters k) (map (block_of letters) w) (sym (has_by k below) ∙ among)
      (over_on w (All-tail (λ j. has (relabelled letters set) j ≡ true) k w each))

  pub over_back : (w : List ℕ) → Below (length letters) w → IsOver set (map (block_of letters) w) → IsOver (relabelled letters set) w
  over_back [] below each = All-nil (λ j. has (relabelled letters set) j ≡ true)
  over_back (k ∷ w) below each =
      All-cons (λ j. has (relabelled letters set) j ≡ true) k w
      (has_by k (All-head (λ j. j < length letters) k w below) ∙ All-head (λ j. has set j ≡ true) (block_of letters k) (map (block_of letters) w) each)
      (over_back w (All-tail (λ j. j < length letters) k w below) (All-tail (λ j. has set j ≡ true) (block_of letters k) (map (block_of letters) w) each))

  pub over_below : (w : List ℕ) → IsOver (relabelled letters set) w → Below (length letters) w
  over_below w each =
      All-weaker (λ j. has (relabelled letters set) j ≡ true) (λ j. j < length letters)
      (λ j among. omega (arith, has_below (relabelled letters set) j among, length-map letters (has set))) w each
