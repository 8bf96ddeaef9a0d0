-- The language of an automaton whose edges lead on at once.
use Rattle.std.proofs.Common.{◌≡◌, ℕ, zero, suc, ◌<◌, ◌≤◌, ◌⊎◌, ◌↔◌, ◌&&◌, Bool, true, false, not, if◌then◌else◌, List, [], ◌∷◌, ◌++◌, length, get_or, map, Option, None, Some, refl, sym, ap, ◌∙◌, subst, inl, inr, arith}
use Rattle.std.specs.List.{All, Contains, range_with_len}
use Rattle.std.specs.Option.{option_to_list}
use Rattle.std.proofs.lemmas.Bool.{and_parts, cases_Bool, cases_lt, false≢true}
use Rattle.std.proofs.lemmas.List.{get_or_past, length-map}
use Rattle.std.proofs.lemmas.List.Elements.{All-contains, All-map, Contains-get_or}
use Rattle.std.proofs.lemmas.List.FromFn.{get_or-map-range_with_len, length-map-range_with_len}
use Rattle.rela_nfa.specs.Automaton.{Automaton, Move, IsAutomaton, IsFinal, IsMove, moves_of, states}
use Rattle.rela_nfa.specs.Construction.{silent}
use Rattle.rela_nfa.specs.Detours.{ByDetours, Detours, IsDetour, IsDirect, IsEnd, direct, direct_moves, has_label, is_step, only_labelled, pulled}
use Rattle.rela_nfa.specs.Reading.{takes}
use Rattle.rela_nfa.specs.Runs.{Accepts, Follow, HasStep, Reach, Step, StepIn, spelled}
use Rattle.rela_nfa.proofs.Growing.{one_step}
use Rattle.rela_nfa.proofs.Joint.{edge_step, step_edge}
use Rattle.rela_nfa.proofs.Moves.{Contains-map, Contains-map_back}
use Rattle.rela_nfa.proofs.Parts.{moves_ok}

silently : (letter : Option ℕ) → takes None letter ≡ true → letter ≡ None
silently None taken = refl
silently (Some k) taken = absurd (false≢true taken)

first_of : (move : Move) → Contains (move ∷ []) move
first_of move = (0, omega arith, refl)

-- ---- runs over detours

module _ (a : Automaton) where
  only_edge : (p q : ℕ) (move : Move) (letter : Option ℕ) → moves_of a p ≡ move ∷ [] → HasStep a p letter q → (move.to ≡ q) × (takes move.label letter ≡ true)
  only_edge p q move letter only step = one_step move letter q (subst (λ l. StepIn l letter q) only step)

  -- what follows from a detour to a final state follows from where it leads
  skip_one : (p r q : ℕ) → IsDetour a p r → (steps : List Step) → Follow a p steps q → IsFinal a q → (rest : List Step) × Follow a r rest q × (spelled rest ≡ spelled steps) × (length rest ≤ length steps)
  skip_one p r q detour [] here final = absurd (detour.0 (subst (IsFinal a) (sym here) final))
  skip_one p r q detour (step ∷ rest) follows final =
      let only = only_edge p step.to (silent r) step.letter detour.1 follows.0 in
      (rest, subst (λ n. Follow a n rest q) (sym only.0) follows.1, ap (λ l. option_to_list l ++ spelled rest) (sym (silently step.letter only.1)), omega arith)

  skip : (path : List ℕ) (p r q : ℕ) → ByDetours a p path r → (steps : List Step) → Follow a p steps q → IsFinal a q → (rest : List Step) × Follow a r rest q × (spelled rest ≡ spelled steps) × (length rest ≤ length steps)
  skip [] p r q here steps follows final = (steps, subst (λ n. Follow a n steps q) here follows, refl, omega arith)
  skip (s ∷ path) p r q leads steps follows final =
      let one = skip_one p s q leads.0 steps follows final in
      let more = skip path s r q leads.1 one.0 one.1 final in
      (more.0, more.1, more.2 ∙ one.2, omega (arith, one.3, more.3))

  -- what follows from the end of detours follows from where they begin
  lead_in : (path : List ℕ) (p r q : ℕ) → ByDetours a p path r → (steps : List Step) → Follow a r steps q → (more : List Step) × Follow a p more q × (spelled more ≡ spelled steps)
  lead_in [] p r q here steps follows = (steps, subst (λ n. Follow a n steps q) (sym here) follows, refl)
  lead_in (s ∷ path) p r q leads steps follows =
      let on = lead_in path s r q leads.1 steps follows in
      (record { letter = None; to = s } ∷ on.0, (subst (λ l. Contains l (silent s)) (sym leads.0.1) (first_of (silent s)), on.1), on.2)

  -- ---- the edge of a step

  only_one : (moves : List Move) (other : Move) → only_labelled moves ≡ true → (moves ≡ get_or moves 0 other ∷ []) × (has_label (get_or moves 0 other).label ≡ true)
  only_one [] other one = absurd (false≢true one)
  only_one (move ∷ []) other one = (refl, one)
  only_one (move ∷ second ∷ rest) other one = absurd (false≢true one)

  no_label : (label : Option (List Bool)) → not (has_label label) ≡ true → label ≡ None
  no_label None lacking = refl
  no_label (Some set) lacking = absurd (false≢true lacking)

  -- the move leads silently to the end, which is a step by this edge
  pub record IsPulled (end : ℕ) (move new : Move) : Type 0 where
    pub silent : move.label ≡ None
    pub other : ¬ IsFinal a end
    pub only : moves_of a end ≡ new ∷ []
    pub labelled : has_label new.label ≡ true

  pub pulled_cases : (end : ℕ) (move : Move) → ((pulled a end move ≡ move) × (move.label ≡ None → is_step a end ≡ false)) ⊎ IsPulled end move (pulled a end move)
  pulled_cases end move = elim (cases_Bool (not (has_label move.label) && is_step a end)) [
    | inl taken ↦
        let parts = and_parts (not (has_label move.label)) (is_step a end) taken in
        let step = and_parts (not (get_or a.finals end false)) (only_labelled (moves_of a end)) parts.1 in
        let only = only_one (moves_of a end) move step.1 in
        let is : pulled a end move ≡ get_or (moves_of a end) 0 move = ap (λ b. if b then get_or (moves_of a end) 0 move else move) taken in
        inr (subst (IsPulled end move) (sym is) (record {
          silent = no_label move.label parts.0;
          other = λ final. false≢true (ap not (sym final) ∙ step.0);
          only = only.0;
          labelled = only.1;
        }))
    | inr not_taken ↦ inl (ap (λ b. if b then get_or (moves_of a end) 0 move else move) not_taken, λ lacking. ap (λ l. not (has_label l) && is_step a end) (sym lacking) ∙ not_taken)
  ]

  -- what the pulled edge and a run from its end do, the edge, detours and the run do
  hop : (p end q : ℕ) (move : Move) (letter : Option ℕ) → Contains (moves_of a p) move → Detours a move.to end → takes (pulled a end move).label letter ≡ true
      → (rest : List Step) → Follow a (pulled a end move).to rest q → (more : List Step) × Follow a p more q × (spelled more ≡ option_to_list letter ++ spelled rest)
  hop p end q move letter among led taken rest follows = elim (pulled_cases end move) [
    | inl same ↦ (
      record { letter = letter; to = move.to } ∷ rest,
      (edge_step (moves_of a p) letter move among (ap (λ (m : Move). takes m.label letter) (sym same.0) ∙ taken), subst (λ (m : Move). Follow a m.to rest q) same.0 follows),
      refl,
    )
    | inr is ↦
        let new = pulled a end move in
        let step = edge_step (moves_of a end) letter new (subst (λ l. Contains l new) (sym is.only) (first_of new)) taken in
        let on = lead_in led.0 move.to end q led.1 (record { letter = letter; to = new.to } ∷ rest) (step, follows) in
        (record { letter = None; to = move.to } ∷ on.0, (edge_step (moves_of a p) None move among (ap (λ l. takes l None) is.silent), on.1), on.2)
  ]

  -- what a run does from a step to a final state, its edge and a shorter run do
  past : (p q : ℕ) (new : Move) → ¬ IsFinal a p → moves_of a p ≡ new ∷ [] → (steps : List Step) → Follow a p steps q → IsFinal a q
      → (letter : Option ℕ) × (rest : List Step) × (takes new.label letter ≡ true) × Follow a new.to rest q × (option_to_list letter ++ spelled rest ≡ spelled steps) × (length rest < length steps)
  past p q new other only [] here final = absurd (other (subst (IsFinal a) (sym here) final))
  past p q new other only (step ∷ rest) follows final =
      let one = only_edge p step.to new step.letter only follows.0 in
      (step.letter, rest, one.1, subst (λ n. Follow a n rest q) (sym one.0) follows.1, refl, omega arith)

  -- what an edge and a run do, the pulled edge and a run that is no longer do
  unhop : (end q : ℕ) (move : Move) (letter : Option ℕ) → Detours a move.to end → takes move.label letter ≡ true → (steps : List Step) → Follow a move.to steps q → IsFinal a q
      → (read : Option ℕ) × (rest : List Step) × (takes (pulled a end move).label read ≡ true) × Follow a (pulled a end move).to rest q × (option_to_list read ++ spelled rest ≡ option_to_list letter ++ spelled steps)
      × (length rest ≤ length steps)
  unhop end q move letter led taken steps follows final = elim (pulled_cases end move) [
    | inl same ↦ (
      letter,
      steps,
      ap (λ (m : Move). takes m.label letter) same.0 ∙ taken,
      subst (λ (m : Move). Follow a m.to steps q) (sym same.0) follows,
      refl,
      omega arith,
    )
    | inr is ↦
        let skipped = skip led.0 move.to end q led.1 steps follows final in
        let on = past end q (pulled a end move) is.other is.only skipped.0 skipped.1 final in
        let silent : letter ≡ None = silently letter (ap (λ l. takes l letter) (sym is.silent) ∙ taken) in
        (on.0, on.1, on.2, on.3, on.4 ∙ skipped.2 ∙ ap (λ l. option_to_list l ++ spelled steps) (sym silent), omega (arith, on.5, skipped.3))
  ]

-- ---- the direct automaton

module _ (ends : List ℕ) (a r : Automaton) (ok : IsAutomaton a) (built : IsDirect a ends r) where
  same_moves : (p : ℕ) → moves_of r p ≡ direct_moves a ends p
  same_moves p = elim (cases_lt p (states a)) [
    | inl below ↦ ap (λ l. get_or l p []) built.edges ∙ get_or-map-range_with_len (direct_moves a ends) 0 (states a) p p [] below (omega arith)
    | inr past ↦
        get_or_past r.edges p [] (omega (arith, past, ap length built.edges, length-map-range_with_len (direct_moves a ends) 0 (states a)))
        ∙ ap (map (direct a ends)) (sym (get_or_past a.edges p [] (omega (arith, past, ok.each))))
  ]

  pub direct_states : states r ≡ states a
  direct_states = ap length built.finals

  pub direct_edges : (p : ℕ) → length (moves_of r p) ≡ length (moves_of a p)
  direct_edges p = ap length (same_moves p) ∙ length-map (moves_of a p) (direct a ends)

  is_move : (p : ℕ) (move : Move) → Contains (moves_of a p) move → IsMove a.letters (states a) move
  is_move p move among = All-contains (IsMove a.letters (states a)) (moves_of a p) move (moves_ok a ok p) among

  is_pulled_move : (p end : ℕ) (move : Move) → Contains (moves_of a p) move → IsMove a.letters (states a) (pulled a end move)
  is_pulled_move p end move among = elim (pulled_cases a end move) [
    | inl same ↦ subst (IsMove a.letters (states a)) (sym same.0) (is_move p move among)
    | inr is ↦ is_move end (pulled a end move) (subst (λ l. Contains l (pulled a end move)) (sym is.only) (first_of (pulled a end move)))
  ]

  pub direct_ok : All (λ end. end < states a) ends → length ends ≡ states a → IsAutomaton r
  direct_ok below count = record {
    each = ap length built.edges ∙ length-map-range_with_len (direct_moves a ends) 0 (states a) ∙ sym direct_states;
    starts = let end = end_below a.start ok.starts in omega (arith, end, built.start, direct_states);
    moves =
        subst (λ l. All (All (IsMove r.letters (states r))) l) (sym built.edges)
        (All-map (All (IsMove r.letters (states r))) (direct_moves a ends) (range_with_len 0 (states a)) (λ k d within. each_ok (get_or (range_with_len 0 (states a)) k d)));
  }
    where
      end_below : (q : ℕ) → q < states a → get_or ends q 0 < states a
      end_below q within = below q 0 (omega (arith, within, count))

      one_ok : (p : ℕ) (move : Move) → Contains (moves_of a p) move → IsMove r.letters (states r) (direct a ends move)
      one_ok p move among =
          let is = is_pulled_move p (get_or ends move.to 0) move among in
          subst (λ n. IsMove n (states r) (direct a ends move)) (sym built.letters)
          (subst (λ n. IsMove a.letters n (direct a ends move)) (sym direct_states) (record { sized = is.sized; leads = end_below (pulled a (get_or ends move.to 0) move).to is.leads }))

      each_ok : (p : ℕ) → All (IsMove r.letters (states r)) (direct_moves a ends p)
      each_ok p = All-map (IsMove r.letters (states r)) (direct a ends) (moves_of a p) (λ k d within. one_ok p (get_or (moves_of a p) k d) (Contains-get_or (moves_of a p) k d within))

  -- the edge here that an edge there stands for
  found_edge : (p : ℕ) (new : Move) → Contains (moves_of r p) new → (move : Move) × (direct a ends move ≡ new) × Contains (moves_of a p) move
  found_edge p new among = Contains-map_back (direct a ends) (moves_of a p) new (subst (λ l. Contains l new) (same_moves p) among)

  pub direct_pulled : (p q : ℕ) → HasStep r p None q → is_step a q ≡ false
  direct_pulled p q step =
      let found = found_edge p (silent q) step in
      let move : Move = found.0 in
      let end = get_or ends move.to 0 in
      let lacking : (pulled a end move).label ≡ None = ap (λ (m : Move). m.label) found.1 in
      elim (pulled_cases a end move) [
        | inl same ↦
            let to : end ≡ q = ap (λ (m : Move). get_or ends m.to 0) (sym same.0) ∙ ap (λ (m : Move). m.to) found.1 in
            subst (λ n. is_step a n ≡ false) to (same.1 (ap (λ (m : Move). m.label) (sym same.0) ∙ lacking))
        | inr is ↦ absurd (false≢true (ap has_label (sym lacking) ∙ is.labelled))
      ]

  module _ (led : (p : ℕ) → p < states a → Detours a p (get_or ends p 0)) (ended : (p : ℕ) → p < states a → IsEnd a (get_or ends p 0)) where
    pub direct_begins : IsEnd a r.start
    direct_begins = subst (IsEnd a) (sym built.start) (ended a.start ok.starts)

    pub direct_ends : (p : ℕ) (move : Move) → Contains (moves_of r p) move → IsEnd a move.to
    direct_ends p new among =
        let found = found_edge p new among in
        let move : Move = found.0 in
        let end = get_or ends move.to 0 in
        subst (IsEnd a) (ap (λ (m : Move). m.to) found.1) (ended (pulled a end move).to (is_pulled_move p end move found.2).leads)

    -- each step there is one here, and then detours
    back : (steps : List Step) (p q : ℕ) → Follow r p steps q → (more : List Step) × Follow a p more q × (spelled more ≡ spelled steps)
    back [] p q here = ([], here, refl)
    back (step ∷ rest) p q follows =
        let edge = step_edge (moves_of r p) step.letter step.to follows.0 in
        let found = found_edge p edge.0 edge.1 in
        let move : Move = found.0 in
        let end = get_or ends move.to 0 in
        let new : Move = pulled a end move in
        let later = back rest step.to q follows.1 in
        let path = led new.to (is_pulled_move p end move found.2).leads in
        let to : get_or ends new.to 0 ≡ step.to = ap (λ (m : Move). m.to) found.1 ∙ edge.2 in
        let on = lead_in a path.0 new.to step.to q (subst (λ n. ByDetours a new.to path.0 n) to path.1) later.0 later.1 in
        let hopped =
        hop a p end q move step.letter found.2 (led move.to (is_move p move found.2).leads) (ap (λ (m : Move). takes m.label step.letter) found.1 ∙ edge.3) on.0 on.1 in
        (hopped.0, hopped.1, hopped.2 ∙ ap (λ l. option_to_list step.letter ++ l) (on.2 ∙ later.2))

    -- each step here, and the edge of a step after it, is one there, after which the detours are skipped
    on_to : (n : ℕ) (steps : List Step) (p q : ℕ) → length steps ≤ n → Follow a p steps q → IsFinal a q → (more : List Step) × Follow r p more q × (spelled more ≡ spelled steps)
    on_to n [] p q few here final = ([], here, refl)
    on_to zero (step ∷ rest) p q few follows final = absurd (omega arith)
    on_to (suc n) (step ∷ rest) p q few follows final =
        let edge = step_edge (moves_of a p) step.letter step.to follows.0 in
        let move : Move = edge.0 in
        let end = get_or ends move.to 0 in
        let new : Move = pulled a end move in
        let hopped = unhop a end q move step.letter (led move.to (is_move p move edge.1).leads) edge.3 rest (subst (λ n. Follow a n rest q) (sym edge.2) follows.1) final in
        let path = led new.to (is_pulled_move p end move edge.1).leads in
        let skipped = skip a path.0 new.to (get_or ends new.to 0) q path.1 hopped.1 hopped.3 final in
        let later = on_to n skipped.0 (get_or ends new.to 0) q (omega (arith, skipped.3, hopped.5)) skipped.1 final in (
          record { letter = hopped.0; to = get_or ends new.to 0 } ∷ later.0,
          (edge_step (moves_of r p) hopped.0 (direct a ends move) (subst (λ l. Contains l (direct a ends move)) (sym (same_moves p)) (Contains-map (direct a ends) (moves_of a p) move edge.1)) hopped.2, later.1),
          ap (λ l. option_to_list hopped.0 ++ l) (later.2 ∙ skipped.2) ∙ hopped.4,
        )

    pub direct_reach : (q : ℕ) (word : List ℕ) → Reach r q word → Reach a q word
    direct_reach q word (steps, follows, is) =
        let path = led a.start ok.starts in
        let there = back steps r.start q follows in
        let on = lead_in a path.0 a.start r.start q (subst (λ n. ByDetours a a.start path.0 n) (sym built.start) path.1) there.0 there.1 in
        (on.0, on.1, on.2 ∙ there.2 ∙ is)

    pub direct_language : (word : List ℕ) → Accepts r word ↔ Accepts a word
    direct_language word = (
      λ (q, reach, final). (q, direct_reach q word reach, ap (λ l. get_or l q false) (sym built.finals) ∙ final),
      λ (q, (steps, follows, is), final).
          let path = led a.start ok.starts in
          let skipped = skip a path.0 a.start (get_or ends a.start 0) q path.1 steps follows final in
          let on = on_to (length skipped.0) skipped.0 (get_or ends a.start 0) q (omega arith) skipped.1 final in
          (q, (on.0, subst (λ n. Follow r n on.0 q) (sym built.start) on.1, on.2 ∙ skipped.2 ∙ is), ap (λ l. get_or l q false) built.finals ∙ final),
    )
