-- The words of an automaton in which letters were renamed are those of the automaton, each letter renamed.
use Rattle.std.proofs.Common.{◌≡◌, ℕ, ◌<◌, ◌↔◌, List, [], ◌∷◌, ◌++◌, length, map, get_or, Option, None, Some, refl, sym, ap, ◌∙◌, subst, inl, inr, arith}
use Rattle.std.specs.List.{Contains}
use Rattle.std.specs.Option.{option_map, option_to_list}
use Rattle.std.proofs.lemmas.Bool.{cases_lt}
use Rattle.std.proofs.lemmas.List.{get_or-map, get_or_default, get_or_past, length-map}
use Rattle.rela_letter_nfa.specs.LetterAutomaton.{LetterAutomaton, edges_of}
use Rattle.rela_letter_nfa.specs.Runs.{Accepts, Follow, HasStep, Step, spelled}
use Rattle.rela_letter_nfa.specs.declared.edge.LetterEdge.{LetterEdge}
use Rattle.rela_letter_paths.specs.Letters.{renamed, renamed_edge}

module _ (read : ℕ → ℕ) where
  abbrev no_edge : LetterEdge
  no_edge = record { letter = 0; to = 0 }

  renamed_in : (edges : List LetterEdge) (k q : ℕ) → Contains edges (record { letter = k; to = q })
      → Contains (map (renamed_edge read) edges) (record { letter = read k; to = q })
  renamed_in edges k q (i, below, here) = (
    i,
    omega (arith, below, length-map edges (renamed_edge read)),
    get_or-map (renamed_edge read) edges i (record { letter = k; to = q }) (record { letter = read k; to = q }) below ∙ ap (renamed_edge read) here,
  )

  renamed_from : (edges : List LetterEdge) (k q : ℕ) → Contains (map (renamed_edge read) edges) (record { letter = k; to = q })
      → (s : ℕ) × Contains edges (record { letter = s; to = q }) × (read s ≡ k)
  renamed_from edges k q (i, within, here) =
      let below : i < length edges = omega (arith, within, length-map edges (renamed_edge read)) in
      let edge : LetterEdge = get_or edges i no_edge in
      let is : renamed_edge read edge ≡ record { letter = k; to = q } =
      sym (get_or-map (renamed_edge read) edges i no_edge (record { letter = k; to = q }) below) ∙ here in
      let to : edge.to ≡ q = ap (λ (e : LetterEdge). e.to) is in (
        edge.letter,
        (i, below, get_or_default edges i (record { letter = edge.letter; to = q }) no_edge below ∙ ap (λ (n : ℕ). let e : LetterEdge = record { letter = edge.letter; to = n } in e) to),
        ap (λ (e : LetterEdge). e.letter) is,
      )

  module _ (a : LetterAutomaton) where
    edges_renamed : (p : ℕ) → edges_of (renamed read a) p ≡ map (renamed_edge read) (edges_of a p)
    edges_renamed p = elim (cases_lt p (length a.edges)) [
      | inl below ↦ get_or-map (map (renamed_edge read)) a.edges p [] [] below
      | inr past ↦
          get_or_past (map (map (renamed_edge read)) a.edges) p [] (omega (arith, past, length-map a.edges (map (renamed_edge read))))
          ∙ ap (map (renamed_edge read)) (sym (get_or_past a.edges p [] past))
    ]

    abbrev renamed_step : Step → Step
    renamed_step step = record { letter = option_map read step.letter; to = step.to }

    step_to : (p q : ℕ) (letter : Option ℕ) → HasStep a p letter q → HasStep (renamed read a) p (option_map read letter) q
    step_to p q None step = step
    step_to p q (Some k) step =
        subst (λ l. Contains l (record { letter = read k; to = q })) (sym (edges_renamed p)) (renamed_in (edges_of a p) k q step)

    step_from : (p q : ℕ) (letter : Option ℕ) → HasStep (renamed read a) p letter q
        → (old : Option ℕ) × HasStep a p old q × (option_map read old ≡ letter)
    step_from p q None step = (None, step, refl)
    step_from p q (Some k) step =
        let from = renamed_from (edges_of a p) k q (subst (λ l. Contains l (record { letter = k; to = q })) (edges_renamed p) step) in
        (Some from.0, from.1, ap (λ (n : ℕ). Some n) from.2)

    follow_to : (steps : List Step) (p q : ℕ) → Follow a p steps q → Follow (renamed read a) p (map renamed_step steps) q
    follow_to [] p q here = here
    follow_to (step ∷ rest) p q follows = (step_to p step.to step.letter follows.0, follow_to rest step.to q follows.1)

    spelled_one : (letter : Option ℕ) → option_to_list (option_map read letter) ≡ map read (option_to_list letter)
    spelled_one None = refl
    spelled_one (Some k) = refl

    spelled_more : (letter : Option ℕ) (u v : List ℕ) → map read u ≡ v → map read (option_to_list letter ++ u) ≡ option_to_list (option_map read letter) ++ v
    spelled_more None u v same = same
    spelled_more (Some k) u v same = ap (λ l. read k ∷ l) same

    spelled_to : (steps : List Step) → map read (spelled steps) ≡ spelled (map renamed_step steps)
    spelled_to [] = refl
    spelled_to (step ∷ rest) = spelled_more step.letter (spelled rest) (spelled (map renamed_step rest)) (spelled_to rest)

    follow_from : (steps : List Step) (p q : ℕ) → Follow (renamed read a) p steps q
        → (old : List Step) × Follow a p old q × (map read (spelled old) ≡ spelled steps)
    follow_from [] p q here = ([], here, refl)
    follow_from (step ∷ rest) p q follows =
        let first = step_from p step.to step.letter follows.0 in
        let later = follow_from rest step.to q follows.1 in (
          record { letter = first.0; to = step.to } ∷ later.0,
          (first.1, later.1),
          spelled_more first.0 (spelled later.0) (spelled rest) later.2 ∙ ap (λ l. option_to_list l ++ spelled rest) first.2,
        )

    pub renamed_words : (v : List ℕ) → Accepts (renamed read a) v ↔ ((u : List ℕ) × Accepts a u × (map read u ≡ v))
    renamed_words v = (
      λ (q, (steps, follows, spells), final).
          let from = follow_from steps a.start q follows in
          (spelled from.0, (q, (from.0, from.1, refl), final), from.2 ∙ spells),
      λ (u, (q, (steps, follows, spells), final), same). (
        q,
        (map renamed_step steps, follow_to steps a.start q follows, sym (spelled_to steps) ∙ ap (map read) spells ∙ same),
        final,
      ),
    )
