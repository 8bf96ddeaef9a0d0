-- An automaton with one letter on each edge as it is made of one whose edges have sets of letters.
use Rattle.std.proofs.Common.{◌≡◌, ℕ, ◌+◌, ◌<◌, ◌≤◌, ◌↔◌, ◌⊎◌, Bool, true, false, cond, if◌then◌else◌, List, [], ◌∷◌, ◌++◌, length, filter, get_or, map, take, Option, None, Some, refl, sym, ap, ◌∙◌, subst, inl, inr, arith, append_assoc}
use Rattle.std.specs.Prelude.{◌==◌}
use Rattle.std.specs.List.{Contains, range_with_len}
use Rattle.std.specs.Option.{option_map}
use Rattle.std.proofs.lemmas.Bool.{cases_lt, eq-eqb, eqb-true, false≢true}
use Rattle.std.proofs.lemmas.List.{append-nil, get_or_past, map-append, map_more}
use Rattle.std.proofs.lemmas.List.Elements.{All-contains, Contains-append_left, Contains-append_right, Contains-append_cases, filter-append, filter_passes}
use Rattle.rela_labels.specs.Letters.{has}
use Rattle.rela_letter_nfa.specs.LetterAutomaton.{LetterParts, with_edge, with_silent}
use Rattle.rela_letter_nfa.specs.declared.edge.LetterEdge.{LetterEdge}
use Rattle.rela_nfa.specs.Automaton.{Move}
use Rattle.rela_nfa.specs.Runs.{StepIn}
use Rattle.rela_nfa.specs.Stored.{move_of}
use Rattle.rela_nfa.specs.declared.edge.Edge.{Edge}
use Rattle.rela_letter_image.specs.ByLetters.{AddsMoves, AreSteps}
use Rattle.rela_letter_nfa.specs.Counted.{edge_to}
use Rattle.rela_letter_image.proofs.GrownSteps.{end_cases, end_left, end_right, map_cond, no_end, only_one, range_push}
use Rattle.rela_letter_image.proofs.StepsGo.{Contains-nil, Contains-map, Contains-map_back, first_in, in_filter, in_range}

-- ---- steps by the edges of two lists

module _ (xs ys : List Move) where
  step_left : (letter : Option ℕ) (q : ℕ) → StepIn xs letter q → StepIn (xs ++ ys) letter q
  step_left None q step = Contains-append_left xs ys _ step
  step_left (Some k) q step = (step.0, Contains-append_left xs ys _ step.1, step.2)

  step_right : (letter : Option ℕ) (q : ℕ) → StepIn ys letter q → StepIn (xs ++ ys) letter q
  step_right None q step = Contains-append_right xs ys _ step
  step_right (Some k) q step = (step.0, Contains-append_right xs ys _ step.1, step.2)

  step_cases : (letter : Option ℕ) (q : ℕ) → StepIn (xs ++ ys) letter q → StepIn xs letter q ⊎ StepIn ys letter q
  step_cases None q step = Contains-append_cases xs ys _ step
  step_cases (Some k) q step =
      elim (Contains-append_cases xs ys _ step.1) [ inl left ↦ inl (step.0, left, step.2) | inr right ↦ inr (step.0, right, step.2) ]

pub no_step : (letter : Option ℕ) (q : ℕ) → StepIn [] letter q → ⊥
no_step None q step = Contains-nil _ step
no_step (Some k) q step = Contains-nil _ step.1

-- ---- what is added

pub adds_none : (parts : LetterParts) → AddsMoves [] parts parts
adds_none parts = record {
  finals = refl;
  silents = refl;
  edges = refl;
  added = ([], [], sym (append-nil parts.next_silents), sym (append-nil parts.next_edges), λ letter q. (λ end. absurd (no_end letter q end), λ step. absurd (no_step letter q step)));
}

adds_both : (moves later : List Move) (g h i : LetterParts) → AddsMoves moves g h → AddsMoves later h i → AddsMoves (moves ++ later) g i
adds_both moves later g h i one two = record {
  finals = two.finals ∙ one.finals;
  silents = two.silents ∙ one.silents;
  edges = two.edges ∙ one.edges;
  added = (
    one.added.0 ++ two.added.0,
    one.added.1 ++ two.added.1,
    two.added.2 ∙ ap (λ l. l ++ two.added.0) one.added.2 ∙ append_assoc g.next_silents one.added.0 two.added.0,
    two.added.3 ∙ ap (λ l. l ++ two.added.1) one.added.3 ∙ append_assoc g.next_edges one.added.1 two.added.1,
    λ letter q. (
      λ end. elim (end_cases one.added.0 two.added.0 one.added.1 two.added.1 letter q end) [
        | inl left ↦ step_left moves later letter q ((one.added.4 letter q).0 left)
        | inr right ↦ step_right moves later letter q ((two.added.4 letter q).0 right)
      ],
      λ step. elim (step_cases moves later letter q step) [
        | inl left ↦ end_left one.added.0 two.added.0 one.added.1 two.added.1 letter q ((one.added.4 letter q).1 left)
        | inr right ↦ end_right one.added.0 two.added.0 one.added.1 two.added.1 letter q ((two.added.4 letter q).1 right)
      ],
    ),
  );
}

-- the edges of a loop
pub adds_more : {X : Type 0} (f : X → Move) (xs : List X) (i : ℕ) (x : X) → i < length xs → get_or xs i x ≡ x → (g h k : LetterParts) → AddsMoves (map f (take i xs)) g h → AddsMoves (f x ∷ []) h k
    → AddsMoves (map f (take (i + 1) xs)) g k
adds_more f xs i x below at g h k so_far one =
    subst (λ l. AddsMoves l g k) (sym (map_more f xs i x below ∙ ap (λ y. map f (take i xs) ++ f y ∷ []) at)) (adds_both (map f (take i xs)) (f x ∷ []) g h k so_far one)

-- a silent edge
pub adds_silent : (parts : LetterParts) (to : ℕ) → AddsMoves (record { label = None; to = to } ∷ []) parts (with_silent parts to)
adds_silent parts to = record { finals = refl; silents = refl; edges = refl; added = (to ∷ [], [], refl, sym (append-nil parts.next_edges), steps) }
  where
    steps : AreSteps (record { label = None; to = to } ∷ []) (to ∷ []) []
    steps None q = (
      λ end. subst (λ n. Contains {X = Move} (record { label = None; to = to } ∷ []) (record { label = None; to = n })) (only_one to q end) (first_in _ []),
      λ step. subst (λ n. Contains (to ∷ []) n) (ap (λ (m : Move). m.to) (only_one _ _ step)) (first_in to []),
    )
    steps (Some k) q = (λ end. absurd (Contains-nil _ end), λ step. absurd (none (ap (λ (m : Move). m.label) (only_one _ _ step.1))))
      where
        none : {set : List Bool} → None ≡ Some set → ⊥
        none e = cc

module _ (set : List Bool) (to : ℕ) where
  abbrev pub labelled : Move
  labelled = record { label = Some set; to = to }

  letters_are_steps : (edges : List LetterEdge) → ((k q : ℕ) → Contains edges (edge_to k q) ↔ ((has set k ≡ true) × (to ≡ q))) → AreSteps (labelled ∷ []) [] edges
  letters_are_steps edges each None q = (λ end. absurd (Contains-nil _ end), λ step. absurd (some (ap (λ (m : Move). m.label) (only_one _ _ step))))
    where
      some : {s : List Bool} → Some s ≡ None → ⊥
      some e = cc
  letters_are_steps edges each (Some k) q = (
    λ end. let both = (each k q).0 end in (set, subst (λ n. Contains {X = Move} (labelled ∷ []) (record { label = Some set; to = n })) both.1 (first_in labelled []), both.0),
    λ step.
        let same = only_one labelled _ step.1 in
        let sets : set ≡ step.0 = same_some (ap (λ (m : Move). m.label) same) in
        (each k q).1 (subst (λ s. has s k ≡ true) (sym sets) step.2, ap (λ (m : Move). m.to) same),
  )
    where
      same_some : {s : List Bool} → Some set ≡ Some s → set ≡ s
      same_some e = cc

  -- one, where it has one letter alone
  pub adds_only : (parts : LetterParts) (letter : ℕ) → ((k : ℕ) → has set k ≡ (letter == k)) → AddsMoves (labelled ∷ []) parts (with_edge parts (edge_to letter to))
  adds_only parts letter one = record {
    finals = refl;
    silents = refl;
    edges = refl;
    added = (
      [],
      edge_to letter to ∷ [],
      sym (append-nil parts.next_silents),
      refl,
      letters_are_steps (edge_to letter to ∷ []) (λ k q. (
        λ end.
            let same = only_one (edge_to letter to) (edge_to k q) end in
            (subst (λ n. has set n ≡ true) (ap (λ (e : LetterEdge). e.letter) same) (one letter ∙ eq-eqb letter letter refl), ap (λ (e : LetterEdge). e.to) same),
        λ both. subst (λ (e : LetterEdge). Contains (edge_to letter to ∷ []) e) (λ i. edge_to (eqb-true letter k (sym (one k) ∙ both.0) i) (both.1 i)) (first_in (edge_to letter to) []),
      )),
    );
  }

  -- the edges by the letters of the set below n
  abbrev pub letters_below : ℕ → List LetterEdge
  letters_below n = map (λ k. edge_to k to) (filter (has set) (range_with_len 0 n))

  -- the next state has them too
  pub record HasLetters (n : ℕ) (old new : LetterParts) : Type 0 where
    pub finals : new.finals ≡ old.finals
    pub silents : new.silents ≡ old.silents
    pub edges : new.edges ≡ old.edges
    pub next_silents : new.next_silents ≡ old.next_silents
    pub next_edges : new.next_edges ≡ old.next_edges ++ letters_below n

  pub letters_none : (parts : LetterParts) → HasLetters 0 parts parts
  letters_none parts = record { finals = refl; silents = refl; edges = refl; next_silents = refl; next_edges = sym (append-nil parts.next_edges) }

  letters_below_more : (n : ℕ) → letters_below (n + 1) ≡ letters_below n ++ (if has set n then edge_to n to ∷ [] else [])
  letters_below_more n =
      let f : ℕ → LetterEdge = λ k. edge_to k to in
      ap (λ l. map f (filter (has set) l)) (range_push n) ∙ ap (map f) (filter-append (has set) (range_with_len 0 n) (n ∷ []))
      ∙ map-append f (filter (has set) (range_with_len 0 n)) (cond (has set n) (n ∷ []) []) ∙ ap (λ l. letters_below n ++ l) (map_cond f (has set n) n)

  pub letters_more : (n : ℕ) (added : Bool) (g h k : LetterParts) → added ≡ has set n → HasLetters n g h → k ≡ (if added then with_edge h (edge_to n to) else h) → HasLetters (n + 1) g k
  letters_more n added g h k is so_far new = subst (HasLetters (n + 1) g) (sym new) (one added is)
    where
      one : (b : Bool) → b ≡ has set n → HasLetters (n + 1) g (if b then with_edge h (edge_to n to) else h)
      one true held = record {
        finals = so_far.finals;
        silents = so_far.silents;
        edges = so_far.edges;
        next_silents = so_far.next_silents;
        next_edges =
            ap (λ l. l ++ edge_to n to ∷ []) so_far.next_edges ∙ append_assoc g.next_edges (letters_below n) (edge_to n to ∷ [])
            ∙ ap (λ l. g.next_edges ++ l) (ap (λ b. letters_below n ++ (if b then edge_to n to ∷ [] else [])) held ∙ sym (letters_below_more n));
      }
      one false isnt = record {
        finals = so_far.finals;
        silents = so_far.silents;
        edges = so_far.edges;
        next_silents = so_far.next_silents;
        next_edges =
            so_far.next_edges
            ∙ ap (λ l. g.next_edges ++ l) (sym (append-nil (letters_below n)) ∙ ap (λ b. letters_below n ++ (if b then edge_to n to ∷ [] else [])) isnt ∙ sym (letters_below_more n));
      }

  -- those below the size are all
  pub letters_all : (n : ℕ) → length set ≤ n → (g h : LetterParts) → HasLetters n g h → AddsMoves (labelled ∷ []) g h
  letters_all n past g h has_letters = record {
    finals = has_letters.finals;
    silents = has_letters.silents;
    edges = has_letters.edges;
    added = ([], letters_below n, has_letters.next_silents ∙ sym (append-nil g.next_silents), has_letters.next_edges, letters_are_steps (letters_below n) each);
  }
    where
      below : (k : ℕ) → has set k ≡ true → k < n
      below k among = elim (cases_lt k n) [ inl less ↦ less | inr more ↦ absurd (false≢true (sym (get_or_past set k false (omega arith)) ∙ among)) ]

      each : (k q : ℕ) → Contains (letters_below n) (edge_to k q) ↔ ((has set k ≡ true) × (to ≡ q))
      each k q = (
        λ end.
            let found = Contains-map_back (λ j. edge_to j to) (filter (has set) (range_with_len 0 n)) (edge_to k q) end in
            let passes = All-contains (λ j. has set j ≡ true) (filter (has set) (range_with_len 0 n)) found.0 (filter_passes (has set) (range_with_len 0 n)) found.2 in
            (subst (λ j. has set j ≡ true) (ap (λ (e : LetterEdge). e.letter) found.1) passes, ap (λ (e : LetterEdge). e.to) found.1),
        λ both.
            subst (λ n'. Contains (letters_below n) (edge_to k n')) both.1
            (Contains-map (λ j. edge_to j to) (filter (has set) (range_with_len 0 n)) k (in_filter (has set) (range_with_len 0 n) k (in_range n k (below k both.0)) both.0)),
      )

-- the edge, by what its label is
pub label_is : {L : Type 0} (letters : L → List Bool) (edge : Edge L) (label : Option L) → edge.label ≡ label → record { label = option_map letters label; to = edge.to } ≡ move_of letters edge
label_is letters edge label e = λ i. record { label = option_map letters (sym e i); to = edge.to }
