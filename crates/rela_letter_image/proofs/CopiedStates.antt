-- The states of an automaton as they are built again, one after another, with one letter on each edge.
use Rattle.std.proofs.Common.{◌≡◌, ℕ, ◌+◌, ◌<◌, ◌≤◌, ◌↔◌, Bool, false, IsTrue, List, [], ◌∷◌, ◌++◌, length, get_or, Option, None, Some, refl, sym, ap, ◌∙◌, subst, inl, inr, arith}
use Rattle.std.specs.List.{All, Contains}
use Rattle.std.proofs.lemmas.Bool.{cases_lt}
use Rattle.std.proofs.lemmas.List.{get_or_append_left, get_or_default, get_or_past, get_or_push, length_push}
use Rattle.std.proofs.lemmas.List.Elements.{All-contains, Contains-get_or}
use Rattle.rela_letter_nfa.specs.LetterAutomaton.{IsLetterAutomaton, LetterAutomaton, LetterParts, IsFinal as IsFinalLetter, edges_of, from_parts, no_parts, silents_of, with_state}
use Rattle.rela_letter_nfa.specs.Runs.{HasStep as HasLetterStep}
use Rattle.rela_letter_nfa.specs.declared.edge.LetterEdge.{LetterEdge}
use Rattle.rela_nfa.specs.Automaton.{Automaton, IsAutomaton, IsFinal, IsMove, moves_of, states}
use Rattle.rela_nfa.specs.Runs.{HasStep, StepIn}
use Rattle.rela_letter_image.specs.ByLetters.{AddsCopy, AreSteps, IsByLetters}
use Rattle.rela_letter_image.specs.Growth.{HasEnd}
use Rattle.rela_letter_image.proofs.GrownSteps.{no_end}
use Rattle.rela_letter_image.proofs.Spelling.{no_step}

module _ (a : Automaton) where
  -- a state does what the state p does
  pub record IsCopy (p : ℕ) (final : Bool) (silents : List ℕ) (edges : List LetterEdge) : Type 0 where
    pub is_final : IsTrue final ↔ IsFinal a p
    pub steps : AreSteps (moves_of a p) silents edges

  -- the first n states were built
  pub record AreCopied (n : ℕ) (parts : LetterParts) : Type 0 where
    pub no_silents : parts.next_silents ≡ []
    pub no_edges : parts.next_edges ≡ []
    pub count : length parts.finals ≡ n
    pub each_silents : length parts.silents ≡ n
    pub each_edges : length parts.edges ≡ n
    pub copied : (p : ℕ) → p < n → IsCopy p (get_or parts.finals p false) (get_or parts.silents p []) (get_or parts.edges p [])

  pub copied_none : (parts : LetterParts) → parts ≡ no_parts → AreCopied 0 parts
  copied_none parts none = record {
    no_silents = ap (λ (p : LetterParts). p.next_silents) none;
    no_edges = ap (λ (p : LetterParts). p.next_edges) none;
    count = ap (λ (p : LetterParts). length p.finals) none;
    each_silents = ap (λ (p : LetterParts). length p.silents) none;
    each_edges = ap (λ (p : LetterParts). length p.edges) none;
    copied = λ p below. absurd (omega (arith, below));
  }

  -- what stands at a place of a list with one more
  before_push : {A : Type 0} (xs old : List A) (z d : A) (p n : ℕ) → xs ≡ old → length old ≡ n → p < n → get_or (xs ++ z ∷ []) p d ≡ get_or old p d
  before_push xs old z d p n same size below = ap (λ l. get_or (l ++ z ∷ []) p d) same ∙ get_or_append_left old (z ∷ []) d p (omega (arith, size))

  at_push : {A : Type 0} (xs old : List A) (z d : A) (p n : ℕ) → xs ≡ old → length old ≡ n → p ≡ n → get_or (xs ++ z ∷ []) p d ≡ z
  at_push xs old z d p n same size here = get_or_push xs z d p (ap (λ l. length l) same ∙ size ∙ sym here)

  copy_as : {final other : Bool} {silents ends : List ℕ} {edges arcs : List LetterEdge} (p : ℕ) → other ≡ final → ends ≡ silents → arcs ≡ edges → IsCopy p final silents edges → IsCopy p other ends arcs
  copy_as {final} {other} {silents} {ends} {edges} {arcs} p one two three copy =
      subst (λ l. IsCopy p other ends l) (sym three) (subst (λ l. IsCopy p other l edges) (sym two) (subst (λ b. IsCopy p b silents edges) (sym one) copy))

  module _ (n : ℕ) (g h : LetterParts) (so_far : AreCopied n g) (adds : AddsCopy a n g h) where
    abbrev mid : LetterParts
    mid = adds.between

    added : IsCopy n adds.is_final mid.next_silents mid.next_edges
    added = record {
      is_final = adds.final;
      steps =
          subst (λ l. AreSteps (moves_of a n) mid.next_silents l) (sym (adds.adds.added.3 ∙ ap (λ l. l ++ adds.adds.added.1) so_far.no_edges))
          (subst (λ l. AreSteps (moves_of a n) l adds.adds.added.1) (sym (adds.adds.added.2 ∙ ap (λ l. l ++ adds.adds.added.0) so_far.no_silents)) adds.adds.added.4);
    }

    abbrev ended : LetterParts
    ended = with_state mid adds.is_final

    each : (p : ℕ) → p < n + 1 → IsCopy p (get_or ended.finals p false) (get_or ended.silents p []) (get_or ended.edges p [])
    each p below = elim (cases_lt p n) [
      | inl less ↦
          copy_as p (before_push mid.finals g.finals adds.is_final false p n adds.adds.finals so_far.count less)
          (before_push mid.silents g.silents mid.next_silents [] p n adds.adds.silents so_far.each_silents less)
          (before_push mid.edges g.edges mid.next_edges [] p n adds.adds.edges so_far.each_edges less) (so_far.copied p less)
      | inr past ↦
          let here : p ≡ n = omega (arith, below, past) in
          copy_as p (at_push mid.finals g.finals adds.is_final false p n adds.adds.finals so_far.count here)
          (at_push mid.silents g.silents mid.next_silents [] p n adds.adds.silents so_far.each_silents here)
          (at_push mid.edges g.edges mid.next_edges [] p n adds.adds.edges so_far.each_edges here)
          (subst (λ m. IsCopy m adds.is_final mid.next_silents mid.next_edges) (sym here) added)
    ]

    pushed : {A : Type 0} (xs old : List A) (z : A) → xs ≡ old → length old ≡ n → length (xs ++ z ∷ []) ≡ n + 1
    pushed xs old z same size = length_push xs z ∙ ap (λ l. length l + 1) same ∙ ap (λ m. m + 1) size

    pub copied_more : AreCopied (n + 1) h
    copied_more = subst (AreCopied (n + 1)) (sym adds.ended) (record {
      no_silents = refl;
      no_edges = refl;
      count = pushed mid.finals g.finals adds.is_final adds.adds.finals so_far.count;
      each_silents = pushed mid.silents g.silents mid.next_silents adds.adds.silents so_far.each_silents;
      each_edges = pushed mid.edges g.edges mid.next_edges adds.adds.edges so_far.each_edges;
      copied = each;
    })

  -- ---- when all are built

  module _ (n start : ℕ) (parts : LetterParts) (all : AreCopied n parts) (done : n ≡ states a) (starts : start ≡ a.start) (ok : IsAutomaton a) where
    abbrev copy : LetterAutomaton
    copy = from_parts parts start

    end_step : (p q : ℕ) (letter : Option ℕ) → HasEnd (silents_of copy p) (edges_of copy p) letter q ↔ HasLetterStep copy p letter q
    end_step p q None = (λ end. end, λ step. step)
    end_step p q (Some k) = (λ end. end, λ step. step)

    ends_past : (p q : ℕ) (letter : Option ℕ) → n ≤ p → HasEnd (silents_of copy p) (edges_of copy p) letter q → HasEnd [] [] letter q
    ends_past p q letter past end =
        subst (λ l. HasEnd [] l letter q) (get_or_past parts.edges p [] (omega (arith, past, all.each_edges)))
        (subst (λ l. HasEnd l (edges_of copy p) letter q) (get_or_past parts.silents p [] (omega (arith, past, all.each_silents))) end)

    steps : (p q : ℕ) (letter : Option ℕ) → HasEnd (silents_of copy p) (edges_of copy p) letter q ↔ HasStep a p letter q
    steps p q letter = elim (cases_lt p n) [
      | inl below ↦ (all.copied p below).steps letter q
      | inr past ↦ (
        λ end. absurd (no_end letter q (ends_past p q letter past end)),
        λ step. absurd (no_step letter q (subst (λ l. StepIn l letter q) (get_or_past a.edges p [] (omega (arith, past, done, ok.each))) step)),
      )
    ]

    final : (p : ℕ) → IsFinalLetter copy p ↔ IsFinal a p
    final p = elim (cases_lt p n) [
      | inl below ↦ (all.copied p below).is_final
      | inr past ↦
          let none : get_or parts.finals p false ≡ get_or a.finals p false =
          get_or_past parts.finals p false (omega (arith, past, all.count)) ∙ sym (get_or_past a.finals p false (omega (arith, past, done))) in
          (λ yes. subst IsTrue none yes, λ yes. subst IsTrue (sym none) yes)
    ]

    pub all_by_letters : IsByLetters a copy
    all_by_letters = record {
      start = starts;
      final = final;
      steps = λ p q letter. (λ step. (steps p q letter).0 ((end_step p q letter).1 step), λ step. (end_step p q letter).0 ((steps p q letter).1 step));
    }

    -- edges lead to states
    moves_ok : (p : ℕ) → p < n → All (IsMove a.letters (states a)) (moves_of a p)
    moves_ok p below = ok.moves p [] (omega (arith, below, done, ok.each))

    step_below : (p q : ℕ) (letter : Option ℕ) → p < n → HasStep a p letter q → q < states a
    step_below p q None below step = (All-contains (IsMove a.letters (states a)) (moves_of a p) _ (moves_ok p below) step).leads
    step_below p q (Some k) below step = (All-contains (IsMove a.letters (states a)) (moves_of a p) _ (moves_ok p below) step.1).leads

    end_below : (p q : ℕ) (letter : Option ℕ) → p < n → HasEnd (silents_of copy p) (edges_of copy p) letter q → q < length parts.finals
    end_below p q letter below end = omega (arith, step_below p q letter below ((steps p q letter).0 end), done, all.count)

    pub copy_ok : IsLetterAutomaton copy
    copy_ok = record {
      starts = omega (arith, starts, ok.starts, done, all.count);
      each_silents = all.each_silents ∙ sym all.count;
      each_edges = all.each_edges ∙ sym all.count;
      silents = λ p d below j e within.
          let same = get_or_default parts.silents p d [] below in
          let here : Contains (silents_of copy p) (get_or (get_or parts.silents p d) j e) = subst (λ l. Contains l (get_or (get_or parts.silents p d) j e)) same (Contains-get_or (get_or parts.silents p d) j e within) in
          end_below p (get_or (get_or parts.silents p d) j e) None (omega (arith, below, all.each_silents)) here;
      edges = λ p d below j e within.
          let same = get_or_default parts.edges p d [] below in
          let edge : LetterEdge = get_or (get_or parts.edges p d) j e in
          let here : Contains (edges_of copy p) edge = subst (λ l. Contains l edge) same (Contains-get_or (get_or parts.edges p d) j e within) in
          end_below p edge.to (Some edge.letter) (omega (arith, below, all.each_edges)) here;
    }
