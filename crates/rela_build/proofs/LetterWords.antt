-- Words of letters that automata and transducers read, and words of symbols that are read as them.
use Rattle.std.proofs.Common.{◌≡◌, ℕ, ◌<◌, List, [], ◌∷◌, ◌++◌, Bool, length, map, Option, None, Some, refl, sym, subst, inl, inr, arith}
use Rattle.std.specs.List.{All}
use Rattle.std.specs.Option.{option_to_list}
use Rattle.std.proofs.lemmas.Bool.{cases_lt}
use Rattle.std.proofs.lemmas.List.{get_or_past}
use Rattle.std.proofs.lemmas.List.Elements.{All-nil, All-cons, All-head, All-tail, All-append, All-contains}
use Rattle.rela_labels.specs.Partition.{block_count}
use Rattle.rela_nfa.specs.Automaton.{Automaton, IsAutomaton, IsMove as IsEdge, moves_of as edges_of, states}
use Rattle.rela_nfa.specs.Runs.{Reach, Follow, HasStep as HasEdge, Step, spelled}
use Rattle.rela_trans.specs.Composition.{Covers}
use Rattle.rela_trans.specs.Machine.{Machine, Kind, IsMachine, IsSized}
use Rattle.rela_trans.specs.Runs.{Step as MachineStep, Follow as FollowMoves, inputs, outputs, IsSymbolOf, Does, ReachR}
use Rattle.rela_trans.specs.declared.moves.MoveKind.TheVariants.{Silent, In, Out, Same}
use Rattle.rela_build.specs.Reading.{read_by}
use Rattle.rela_build.proofs.Readings.{has_below, is_symbol}
use Rattle.rela_build.proofs.TransducerRuns.{move_ok}

abbrev pub Below : ℕ → List ℕ → Type 0
Below n w = All (λ k. k < n) w

-- ---- automata

module _ (a : Automaton) (ok : IsAutomaton a) where
  edges_ok : (p : ℕ) → All (IsEdge a.letters (states a)) (edges_of a p)
  edges_ok p = elim (cases_lt p (states a)) [
    | inl below ↦ ok.moves p [] (omega (arith, below, ok.each))
    | inr past ↦ subst (All (IsEdge a.letters (states a))) (sym (get_or_past a.edges p [] (omega (arith, past, ok.each)))) (All-nil (IsEdge a.letters (states a)))
  ]

  edge_leads : (p q : ℕ) (letter : Option ℕ) → HasEdge a p letter q → q < states a
  edge_leads p q None among = (All-contains (IsEdge a.letters (states a)) (edges_of a p) (record { label = None; to = q }) (edges_ok p) among).leads
  edge_leads p q (Some k) (set, among, reads) = (All-contains (IsEdge a.letters (states a)) (edges_of a p) (record { label = Some set; to = q }) (edges_ok p) among).leads

  run_leads : (steps : List Step) (p q : ℕ) → p < states a → Follow a p steps q → q < states a
  run_leads [] p q below here = subst (λ n. n < states a) here below
  run_leads (step ∷ rest) p q below follows = run_leads rest step.to q (edge_leads p step.to step.letter follows.0) follows.1

  -- a word leads to states alone
  pub state_reached : (q : ℕ) (word : List ℕ) → Reach a q word → q < states a
  state_reached q word (steps, follows, spells) = run_leads steps a.start q ok.starts follows

  edge_letter : (p q k : ℕ) → HasEdge a p (Some k) q → k < a.letters
  edge_letter p q k (set, among, reads) =
      let sized = (All-contains (IsEdge a.letters (states a)) (edges_of a p) (record { label = Some set; to = q }) (edges_ok p) among).sized set refl in
      let within = has_below set k reads in
      omega arith

  with_letter : (p q : ℕ) (letter : Option ℕ) (word : List ℕ) → HasEdge a p letter q → Below a.letters word → Below a.letters (option_to_list letter ++ word)
  with_letter p q None word step below = below
  with_letter p q (Some k) word step below = All-cons (λ k. k < a.letters) k word (edge_letter p q k step) below

  run_letters : (steps : List Step) (p q : ℕ) → Follow a p steps q → Below a.letters (spelled steps)
  run_letters [] p q here = All-nil (λ k. k < a.letters)
  run_letters (step ∷ rest) p q follows = with_letter p step.to step.letter (spelled rest) follows.0 (run_letters rest step.to q follows.1)

  -- each letter of a word that leads to a state is one of the automaton's
  pub reached_letters : (q : ℕ) (word : List ℕ) → Reach a q word → Below a.letters word
  reached_letters q word (steps, follows, spells) = subst (Below a.letters) spells (run_letters steps a.start q follows)

-- ---- transducers

module _ (letters : ℕ) where
  no_letter : (w : List ℕ) → w ≡ [] → Below letters w
  no_letter w e = subst (Below letters) (sym e) (All-nil (λ k. k < letters))

  one_letter : (set : List Bool) (w : List ℕ) → length set ≡ letters → IsSymbolOf (λ k. k) set w → Below letters w
  one_letter set w size (s, among, e) =
      subst (Below letters) (sym e) (All-cons (λ k. k < letters) s [] (omega (arith, has_below set s among, size)) (All-nil (λ k. k < letters)))

  made_letters : (kind : Kind) (input output : List ℕ) → IsSized letters kind → Does (λ k. k) kind input output → Below letters input × Below letters output
  made_letters Silent input output size does = (no_letter input does.0, no_letter output does.1)
  made_letters (In set) input output size does = (one_letter set input size does.0, no_letter output does.1)
  made_letters (Out set) input output size does = (no_letter input does.0, one_letter set output size does.1)
  made_letters (Same set) input output size does =
      let below = one_letter set input size does.0 in (below, subst (Below letters) (sym does.1) below)

module _ (t : Machine) (ok : IsMachine t) where
  moved_letters : (steps : List MachineStep) (p q : ℕ) → FollowMoves (λ k. k) t p steps q → Below t.letters (inputs steps) × Below t.letters (outputs steps)
  moved_letters [] p q here = (All-nil (λ k. k < t.letters), All-nil (λ k. k < t.letters))
  moved_letters (step ∷ rest) p q follows =
      let sized = (move_ok (λ k. k) t ok p step.to step.input step.output follows.0).sized in
      let made = made_letters t.letters follows.0.0 step.input step.output sized follows.0.2 in
      let later = moved_letters rest step.to q follows.1 in
      (All-append (λ k. k < t.letters) step.input (inputs rest) made.0 later.0, All-append (λ k. k < t.letters) step.output (outputs rest) made.1 later.1)

  -- the letters of words that lead to a state of a transducer
  pub reached_letters_r : (q : ℕ) (u v : List ℕ) → ReachR (λ k. k) t q u v → Below t.letters u × Below t.letters v
  reached_letters_r q u v reach =
      let both = moved_letters reach.0 t.start q reach.1 in
      (subst (Below t.letters) reach.2 both.0, subst (Below t.letters) reach.3 both.1)

-- ---- words of symbols

module _ (blocks : List ℕ) where
  abbrev f : ℕ → ℕ
  f = read_by blocks

  -- a word that is read as letters is one of symbols
  pub symbols_of : (v w : List ℕ) → map f v ≡ w → Below (block_count blocks) w → Below (length blocks) v
  symbols_of [] w e below = All-nil (λ s. s < length blocks)
  symbols_of (s ∷ v) [] e below = absurd cc
  symbols_of (s ∷ v) (k ∷ w) e below =
      let here : f s ≡ k = cc in
      let later : map f v ≡ w = cc in
      let low = All-head (λ k. k < block_count blocks) k w below in
      All-cons (λ s. s < length blocks) s v (is_symbol blocks s (omega (arith, low, here))) (symbols_of v w later (All-tail (λ k. k < block_count blocks) k w below))

  -- each word of letters is what some word of symbols is read as
  pub word_for : Covers f (block_count blocks) → (w : List ℕ) → Below (block_count blocks) w → (v : List ℕ) × (map f v ≡ w)
  word_for covers [] below = ([], refl)
  word_for covers (k ∷ w) below =
      let s = covers k (All-head (λ k. k < block_count blocks) k w below) in
      let rest = word_for covers w (All-tail (λ k. k < block_count blocks) k w below) in
      (s.0 ∷ rest.0, λ i. s.1 i ∷ rest.1 i)
