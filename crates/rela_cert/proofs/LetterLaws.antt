-- What the definitions of the layers below say of letters, of symbols, and of the machines that read them.
use Rattle.std.proofs.Common.{◌≡◌, ℕ, zero, suc, ◌+◌, ◌<◌, ◌≤◌, Bool, true, false, List, [], ◌∷◌, length, get_or, map, Option, None, Some, refl, sym, ◌∙◌, subst, inl, inr, arith}
use Rattle.std.specs.List.{All, Contains}
use Rattle.std.specs.Option.{option_to_list}
use Rattle.std.proofs.lemmas.Bool.{both_ways, cases_lt}
use Rattle.std.proofs.lemmas.List.{get_or_default, get_or-map, get_or_past, length-map}
use Rattle.std.proofs.lemmas.List.Elements.{All-append, All-cons, All-contains, All-head, All-nil, All-tail, All-weaker}
use Rattle.rela_build.specs.Reading.{read_by}
use Rattle.rela_labels.specs.Letters.{has}
use Rattle.rela_labels.specs.Partition.{IsPartition, block_count, block_of}
use Rattle.rela_nfa.specs.Automaton.{Automaton, IsAutomaton, IsMove as IsEdge, Move as Edge, moves_of as edges_of, states}
use Rattle.rela_nfa.specs.Relabelling.{blocks_of}
use Rattle.rela_nfa.specs.Runs.{Follow, HasStep, Reach, Step, spelled}
use Rattle.rela_trans.specs.Composition.{Covers}
use Rattle.rela_trans.specs.Machine.{IsMachine, IsMove, Machine, machine_states, moves_of}

-- ---- sets of letters

-- no number past the last is in a set
pub has_below : (set : List Bool) (k : ℕ) → has set k ≡ true → k < length set
has_below set k among = elim (cases_lt k (length set)) [
  | inl below ↦ below
  | inr past ↦ absurd (both_ways (has set k) (get_or_past set k false past) among)
]

-- what holds of each of a mapped list holds of what each is mapped to
unmapped : {X Y : Type 0} (P : Y → Type 0) (f : X → Y) (xs : List X) → All P (map f xs) → All (λ x. P (f x)) xs
unmapped P f xs each k d within = subst P (get_or-map f xs k d (f d) within) (each k (f d) (omega (arith, within, length-map xs f)))

-- ---- symbols and their letters

-- the letter of a symbol is its block
pub read_symbol : (blocks : List ℕ) (s : ℕ) → s < length blocks → read_by blocks s ≡ block_of blocks s
read_symbol blocks s below = get_or_default blocks s (block_count blocks) 0 below

-- so the letters of a word of symbols are its blocks
pub read_word : (blocks w : List ℕ) → All (λ s. s < length blocks) w → map (read_by blocks) w ≡ blocks_of blocks w
read_word blocks [] each = refl
read_word blocks (s ∷ w) each =
    let first = read_symbol blocks s (All-head (λ r. r < length blocks) s w each) in
    let rest = read_word blocks w (All-tail (λ r. r < length blocks) s w each) in
    (λ i. first i ∷ rest i)

-- the block of a symbol is one of the blocks
block_below : (blocks : List ℕ) (s d : ℕ) → s < length blocks → get_or blocks s d < block_count blocks
unfolding block_count
block_below [] s d within = absurd (omega arith)
block_below (b ∷ others) zero d within = omega arith
block_below (b ∷ others) (suc s) d within = let rest = block_below others s d (omega arith) in omega arith

pub read_below : (blocks : List ℕ) (s : ℕ) → s < length blocks → read_by blocks s < block_count blocks
read_below blocks s below = block_below blocks s (block_count blocks) below

-- only a symbol has a letter
pub is_symbol : (blocks : List ℕ) (s : ℕ) → read_by blocks s < block_count blocks → s < length blocks
is_symbol blocks s letter = elim (cases_lt s (length blocks)) [
  | inl below ↦ below
  | inr past ↦ absurd (omega (arith, letter, get_or_past blocks s (block_count blocks) past))
]

-- as where a set of letters has its letter
pub is_symbol_of : (blocks : List ℕ) (set : List Bool) (s : ℕ) → length set ≡ block_count blocks → has set (read_by blocks s) ≡ true → s < length blocks
is_symbol_of blocks set s size among = let letter = has_below set (read_by blocks s) among in is_symbol blocks s (omega (arith, letter, size))

some_block_from : (blocks : List ℕ) (k : ℕ) → k < block_count blocks → (s : ℕ) × (s < length blocks) × (k ≤ get_or blocks s 0)
unfolding block_count
some_block_from [] k below = absurd (omega arith)
some_block_from (b ∷ others) k below = elim (cases_lt k (b + 1)) [
  | inl first ↦ (0, omega arith, omega arith)
  | inr rest ↦ let found = some_block_from others k (omega arith) in (suc found.0, omega (arith, found.1), found.2)
]

-- each letter is that of a symbol
pub covered : (blocks : List ℕ) → IsPartition blocks → Covers (read_by blocks) (block_count blocks)
covered blocks is k below =
    let found = some_block_from blocks k below in
    elim (cases_lt k (block_of blocks found.0)) [
      | inl less ↦
          let earlier = is.by_least found.0 k found.1 less in
          (earlier.0, read_symbol blocks earlier.0 (omega (arith, earlier.1, found.1)) ∙ earlier.2)
      | inr same ↦ (found.0, read_symbol blocks found.0 found.1 ∙ omega (arith, found.2, same))
    ]

-- ---- words of letters

abbrev pub Below : ℕ → List ℕ → Type 0
Below n w = All (λ k. k < n) w

-- a word that is read as letters is one of symbols
pub word_of_symbols : (blocks w : List ℕ) → Below (block_count blocks) (map (read_by blocks) w) → Below (length blocks) w
word_of_symbols blocks w letters =
    All-weaker (λ s. read_by blocks s < block_count blocks) (λ s. s < length blocks) (is_symbol blocks) w
    (unmapped (λ k. k < block_count blocks) (read_by blocks) w letters)

-- each of them is what some word of symbols is read as
pub word_for : (blocks : List ℕ) → IsPartition blocks → (letters : List ℕ) → Below (block_count blocks) letters → (w : List ℕ) × (map (read_by blocks) w ≡ letters)
word_for blocks is [] below = ([], refl)
word_for blocks is (k ∷ letters) below =
    let first = covered blocks is k (All-head (λ j. j < block_count blocks) k letters below) in
    let rest = word_for blocks is letters (All-tail (λ j. j < block_count blocks) k letters below) in
    (first.0 ∷ rest.0, λ i. first.1 i ∷ rest.1 i)

module _ (a : Automaton) (ok : IsAutomaton a) where
  edges_ok : (p : ℕ) → All (IsEdge a.letters (states a)) (edges_of a p)
  edges_ok p = elim (cases_lt p (length a.edges)) [
    | inl below ↦ ok.moves p [] below
    | inr past ↦ subst (All (IsEdge a.letters (states a))) (sym (get_or_past a.edges p [] past)) (All-nil (IsEdge a.letters (states a)))
  ]

  edge_is : (p : ℕ) (edge : Edge) → Contains (edges_of a p) edge → IsEdge a.letters (states a) edge
  edge_is p edge among = All-contains (IsEdge a.letters (states a)) (edges_of a p) edge (edges_ok p) among

  -- an edge leads to a state, by a letter of the automaton if by one
  step_is : (p q : ℕ) (letter : Option ℕ) → HasStep a p letter q → (q < states a) × Below a.letters (option_to_list letter)
  step_is p q None among = ((edge_is p (record { label = None; to = q }) among).leads, All-nil (λ k. k < a.letters))
  step_is p q (Some k) (set, among, reads) =
      let edge = edge_is p (record { label = Some set; to = q }) among in
      let size : length set ≡ a.letters = edge.sized set refl in
      (edge.leads, All-cons (λ j. j < a.letters) k [] (omega (arith, has_below set k reads, size)) (All-nil (λ j. j < a.letters)))

  run_is : (steps : List Step) (p q : ℕ) → p < states a → Follow a p steps q → (q < states a) × Below a.letters (spelled steps)
  run_is [] p q below here = (subst (λ n. n < states a) here below, All-nil (λ k. k < a.letters))
  run_is (step ∷ rest) p q below follows =
      let first = step_is p step.to step.letter follows.0 in
      let later = run_is rest step.to q first.0 follows.1 in
      (later.0, All-append (λ k. k < a.letters) (option_to_list step.letter) (spelled rest) first.1 later.1)

  -- only states are reached
  pub state_of_reach : (q : ℕ) (word : List ℕ) → Reach a q word → q < states a
  state_of_reach q word (steps, follows, spells) = (run_is steps a.start q ok.starts follows).0

  -- and only by letters of the automaton
  pub reached_letters : (q : ℕ) (word : List ℕ) → Reach a q word → Below a.letters word
  reached_letters q word (steps, follows, spells) = subst (Below a.letters) spells (run_is steps a.start q ok.starts follows).1

-- ---- transducers

-- the moves of a state are moves of the transducer
pub moves_ok : (t : Machine) → IsMachine t → (p : ℕ) → All (IsMove t.letters (machine_states t)) (moves_of t p)
moves_ok t ok p = elim (cases_lt p (length t.moves)) [
  | inl below ↦ ok.moves p [] below
  | inr past ↦ subst (All (IsMove t.letters (machine_states t))) (sym (get_or_past t.moves p [] past)) (All-nil (IsMove t.letters (machine_states t)))
]
