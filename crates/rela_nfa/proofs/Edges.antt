-- What holds of the edges that stand for those of an automaton.
use Rattle.std.proofs.Common.{◌≡◌, ℕ, ◌<◌, Bool, List, length, get_or, map, sym, ap, subst, arith}
use Rattle.std.specs.List.{All}
use Rattle.std.specs.Option.{ForSome, option_map}
use Rattle.std.proofs.lemmas.List.{get_or-map, length-map}
use Rattle.rela_nfa.specs.Automaton.{Automaton, IsAutomaton, IsMove, moves_of, states}
use Rattle.rela_nfa.specs.Stored.{move_of}
use Rattle.rela_nfa.specs.declared.edge.Edge.{Edge}
use Rattle.rela_nfa.proofs.Parts.{moves_ok}

module _ {L : Type 0} (letters : L → List Bool) (a : Automaton) (ok : IsAutomaton a) (p : ℕ) (edges : List (Edge L)) (same : map (move_of letters) edges ≡ moves_of a p) where
  edge_ok : (k : ℕ) (d : Edge L) → k < length edges → IsMove a.letters (states a) (move_of letters (get_or edges k d))
  edge_ok k d below =
      subst (IsMove a.letters (states a)) (get_or-map (move_of letters) edges k d (move_of letters d) below)
      (subst (λ l. All (IsMove a.letters (states a)) l) (sym same) (moves_ok a ok p) k (move_of letters d) (omega (arith, below, length-map edges (move_of letters))))

  pub edges_lead : All (λ edge. edge.to < states a) edges
  edges_lead k d below = (edge_ok k d below).leads

  pub edges_sized : All (λ edge. ForSome edge.label (λ set. length (letters set) ≡ a.letters)) edges
  edges_sized k d below = λ set is. (edge_ok k d below).sized (letters set) (ap (option_map letters) is)
