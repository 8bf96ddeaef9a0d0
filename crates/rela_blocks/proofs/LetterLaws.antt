-- What the definitions of the layers below say of letters, of symbols, and of the automata that read them.
use Rattle.std.proofs.Common.{◌≡◌, ℕ, ◌<◌, Bool, true, false, List, [], ◌∷◌, length, map, Option, None, Some, refl, sym, subst, inl, inr, arith}
use Rattle.std.specs.List.{All, Contains}
use Rattle.std.specs.Option.{option_to_list}
use Rattle.std.proofs.lemmas.Bool.{both_ways, cases_lt}
use Rattle.std.proofs.lemmas.List.{get_or_default, get_or-map, get_or_past, length-map}
use Rattle.std.proofs.lemmas.List.Elements.{All-append, All-cons, All-contains, All-nil}
use Rattle.rela_build.specs.Reading.{read_by}
use Rattle.rela_labels.specs.Letters.{has}
use Rattle.rela_labels.specs.Partition.{block_count, block_of}
use Rattle.rela_nfa.specs.Automaton.{Automaton, IsAutomaton, IsMove as IsEdge, Move as Edge, moves_of as edges_of, states}
use Rattle.rela_nfa.specs.Runs.{Follow, HasStep, Reach, Step, spelled}

-- ---- sets of letters

-- no number past the last is in a set
pub has_below : (set : List Bool) (k : ℕ) → has set k ≡ true → k < length set
has_below set k among = elim (cases_lt k (length set)) [
  | inl below ↦ below
  | inr past ↦ absurd (both_ways (has set k) (get_or_past set k false past) among)
]

-- what holds of each of a mapped list holds of what each is mapped to
pub unmapped : {X Y : Type 0} (P : Y → Type 0) (f : X → Y) (xs : List X) → All P (map f xs) → All (λ x. P (f x)) xs
unmapped P f xs each k d within = subst P (get_or-map f xs k d (f d) within) (each k (f d) (omega (arith, within, length-map xs f)))

-- ---- symbols and their letters

-- the letter of a symbol is its block
pub read_symbol : (blocks : List ℕ) (s : ℕ) → s < length blocks → read_by blocks s ≡ block_of blocks s
read_symbol blocks s below = get_or_default blocks s (block_count blocks) 0 below

-- only a symbol has a letter
pub is_symbol : (blocks : List ℕ) (s : ℕ) → read_by blocks s < block_count blocks → s < length blocks
is_symbol blocks s letter = elim (cases_lt s (length blocks)) [
  | inl below ↦ below
  | inr past ↦ absurd (omega (arith, letter, get_or_past blocks s (block_count blocks) past))
]

-- ---- words of letters

abbrev Below : ℕ → List ℕ → Type 0
Below n w = All (λ k. k < n) w

module _ (a : Automaton) (ok : IsAutomaton a) where
  edges_ok : (p : ℕ) → All (IsEdge a.letters (states a)) (edges_of a p)
  edges_ok p = elim (cases_lt p (length a.edges)) [
    | inl below ↦ ok.moves p [] below
    | inr past ↦ subst (All (IsEdge a.letters (states a))) (sym (get_or_past a.edges p [] past)) (All-nil (IsEdge a.letters (states a)))
  ]

  edge_is : (p : ℕ) (edge : Edge) → Contains (edges_of a p) edge → IsEdge a.letters (states a) edge
  edge_is p edge among = All-contains (IsEdge a.letters (states a)) (edges_of a p) edge (edges_ok p) among

  -- an edge leads to a state, by a letter of the automaton if by one
  step_is : (p q : ℕ) (letter : Option ℕ) → HasStep a p letter q → (q < states a) × Below a.letters (option_to_list letter)
  step_is p q None among = ((edge_is p (record { label = None; to = q }) among).leads, All-nil (λ k. k < a.letters))
  step_is p q (Some k) (set, among, reads) =
      let edge = edge_is p (record { label = Some set; to = q }) among in
      let size : length set ≡ a.letters = edge.sized set refl in
      (edge.leads, All-cons (λ j. j < a.letters) k [] (omega (arith, has_below set k reads, size)) (All-nil (λ j. j < a.letters)))

  run_is : (steps : List Step) (p q : ℕ) → p < states a → Follow a p steps q → (q < states a) × Below a.letters (spelled steps)
  run_is [] p q below here = (subst (λ n. n < states a) here below, All-nil (λ k. k < a.letters))
  run_is (step ∷ rest) p q below follows =
      let first = step_is p step.to step.letter follows.0 in
      let later = run_is rest step.to q first.0 follows.1 in
      (later.0, All-append (λ k. k < a.letters) (option_to_list step.letter) (spelled rest) first.1 later.1)

  -- only states are reached
  pub state_of_reach : (q : ℕ) (word : List ℕ) → Reach a q word → q < states a
  state_of_reach q word (steps, follows, spells) = (run_is steps a.start q ok.starts follows).0

  -- and only by letters of the automaton
  pub reached_letters : (q : ℕ) (word : List ℕ) → Reach a q word → Below a.letters word
  reached_letters q word (steps, follows, spells) = subst (Below a.letters) spells (run_is steps a.start q ok.starts follows).1
