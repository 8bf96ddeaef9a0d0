-- The edges of an automaton by other letters are still those of its states.
use Rattle.std.proofs.Common.{ℕ, ◌<◌, length, map}
use Rattle.std.specs.List.{All}
use Rattle.std.proofs.lemmas.List.Elements.{All-map, All-weaker}
use Rattle.rela_letter_nfa.specs.LetterAutomaton.{AreEdgesOf, IsLetterAutomaton, LetterAutomaton, states}
use Rattle.rela_letter_nfa.specs.declared.edge.LetterEdge.{LetterEdge}
use Rattle.rela_letter_paths.specs.Letters.{renamed_edge}

module _ (read : ℕ → ℕ) (a : LetterAutomaton) (ok : IsLetterAutomaton a) where
  pub renamed_lead : AreEdgesOf (states a) (map (map (renamed_edge read)) a.edges)
  renamed_lead =
      All-map (All (λ (edge : LetterEdge). edge.to < length a.finals)) (map (renamed_edge read)) a.edges
      (All-weaker (All (λ (edge : LetterEdge). edge.to < length a.finals)) (λ l. All (λ (edge : LetterEdge). edge.to < length a.finals) (map (renamed_edge read) l))
      (λ l all. All-map (λ (edge : LetterEdge). edge.to < length a.finals) (renamed_edge read) l all) a.edges ok.edges)
