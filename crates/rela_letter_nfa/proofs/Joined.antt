-- Two automata as one.
use Rattle.std.proofs.Common.{◌≡◌, ℕ, ◌+◌, ◌-◌, ◌<◌, ◌≤◌, List, [], ◌∷◌, ◌++◌, length, map, get_or, refl, ap, ◌∙◌, arith, length-append}
use Rattle.std.specs.List.{All}
use Rattle.std.proofs.lemmas.List.{get_or-map, get_or_append_left, get_or-append_right, length-map}
use Rattle.std.proofs.lemmas.List.Elements.{All-append, All-map, All-weaker}
use Rattle.rela_letter_nfa.specs.LetterAutomaton.{IsLetterAutomaton, edges_of, silents_of, states}
use Rattle.rela_letter_nfa.specs.Pair.{ArePaired, Pair, edge_behind, joined}
use Rattle.rela_letter_nfa.specs.declared.edge.LetterEdge.{LetterEdge}

pub behind_none : (l : List ℕ) → map (λ q. 0 + q) l ≡ l
behind_none [] = refl
behind_none (x ∷ xs) = let first : 0 + x ≡ x = omega arith in (λ i. first i ∷ behind_none xs i)

pub edges_behind_none : (l : List LetterEdge) → map (edge_behind 0) l ≡ l
edges_behind_none [] = refl
edges_behind_none (x ∷ xs) =
    let to : 0 + x.to ≡ x.to = omega arith in
    let first : edge_behind 0 x ≡ x = ap (λ (n : ℕ). let edge : LetterEdge = record { letter = x.letter; to = n } in edge) to in (λ i. first i ∷ edges_behind_none xs i)

-- lists that stand behind others
list_before : {X : Type 0} (f : X → X) (xs ys : List (List X)) (n q : ℕ) → length xs ≡ n → q < n → get_or (xs ++ map (map f) ys) q [] ≡ get_or xs q []
list_before f xs ys n q long below = get_or_append_left xs (map (map f) ys) [] q (omega (arith, long, below))

list_behind : {X : Type 0} (f : X → X) (xs ys : List (List X)) (n q : ℕ) → length xs ≡ n → n ≤ q → q - n < length ys → get_or (xs ++ map (map f) ys) q [] ≡ map f (get_or ys (q - n) [])
list_behind f xs ys n q long above within =
    get_or-append_right xs (map (map f) ys) n q [] long above ∙ get_or-map (map f) ys (q - n) [] [] within

module _ (pair : Pair) (are : ArePaired pair) where
  abbrev n : ℕ
  n = states pair.first

  pub joined_states : states (joined pair) ≡ states pair.first + states pair.second
  joined_states = length-append pair.first.finals pair.second.finals

  pub silents_first : (q : ℕ) → q < states pair.first → silents_of (joined pair) q ≡ silents_of pair.first q
  silents_first q below = list_before (λ p. n + p) pair.first.silents pair.second.silents n q are.first.each_silents below

  pub edges_first : (q : ℕ) → q < states pair.first → edges_of (joined pair) q ≡ edges_of pair.first q
  edges_first q below = list_before (edge_behind n) pair.first.edges pair.second.edges n q are.first.each_edges below

  pub silents_second : (q : ℕ) → n ≤ q → q < states (joined pair) → silents_of (joined pair) q ≡ map (λ p. states pair.first + p) (silents_of pair.second (q - states pair.first))
  silents_second q above below =
      list_behind (λ p. n + p) pair.first.silents pair.second.silents n q are.first.each_silents above (omega (arith, below, above, joined_states, are.second.each_silents))

  pub edges_second : (q : ℕ) → n ≤ q → q < states (joined pair) → edges_of (joined pair) q ≡ map (edge_behind (states pair.first)) (edges_of pair.second (q - states pair.first))
  edges_second q above below =
      list_behind (edge_behind n) pair.first.edges pair.second.edges n q are.first.each_edges above (omega (arith, below, above, joined_states, are.second.each_edges))

  pub joined_is : IsLetterAutomaton (joined pair)
  joined_is =
      let count = joined_states in
      record {
        starts = omega (arith, count, are.first.starts);
        each_silents = length-append pair.first.silents (map (map (λ q. n + q)) pair.second.silents)
            ∙ omega (arith, count, are.first.each_silents, are.second.each_silents, length-map pair.second.silents (map (λ q. n + q)));
        each_edges = length-append pair.first.edges (map (map (edge_behind n)) pair.second.edges)
            ∙ omega (arith, count, are.first.each_edges, are.second.each_edges, length-map pair.second.edges (map (edge_behind n)));
        silents = All-append (All (λ q. q < states (joined pair))) pair.first.silents (map (map (λ q. n + q)) pair.second.silents)
            (All-weaker (All (λ q. q < states pair.first)) (All (λ q. q < states (joined pair)))
            (λ l. All-weaker (λ q. q < states pair.first) (λ q. q < states (joined pair)) (λ q below. omega (arith, below, count)) l) pair.first.silents are.first.silents)
            (All-map (All (λ q. q < states (joined pair))) (map (λ q. n + q)) pair.second.silents
            (All-weaker (All (λ q. q < states pair.second)) (λ l. All (λ q. q < states (joined pair)) (map (λ q. n + q) l))
            (λ l all. All-map (λ q. q < states (joined pair)) (λ q. n + q) l
            (All-weaker (λ q. q < states pair.second) (λ q. n + q < states (joined pair)) (λ q below. omega (arith, below, count)) l all)) pair.second.silents are.second.silents));
        edges = All-append (All (λ edge. edge.to < states (joined pair))) pair.first.edges (map (map (edge_behind n)) pair.second.edges)
            (All-weaker (All (λ (edge : LetterEdge). edge.to < states pair.first)) (All (λ (edge : LetterEdge). edge.to < states (joined pair)))
            (λ l. All-weaker (λ (edge : LetterEdge). edge.to < states pair.first) (λ (edge : LetterEdge). edge.to < states (joined pair)) (λ edge below. omega (arith, below, count)) l) pair.first.edges
            are.first.edges)
            (All-map (All (λ (edge : LetterEdge). edge.to < states (joined pair))) (map (edge_behind n)) pair.second.edges
            (All-weaker (All (λ (edge : LetterEdge). edge.to < states pair.second)) (λ l. All (λ (edge : LetterEdge). edge.to < states (joined pair)) (map (edge_behind n) l))
            (λ l all. All-map (λ (edge : LetterEdge). edge.to < states (joined pair)) (edge_behind n) l
            (All-weaker (λ (edge : LetterEdge). edge.to < states pair.second) (λ (edge : LetterEdge). n + edge.to < states (joined pair)) (λ edge below. omega (arith, below, count)) l all))
            pair.second.edges are.second.edges));
      }
