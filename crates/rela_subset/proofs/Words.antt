-- Where words lead.
use Rattle.std.proofs.Common.{◌≡◌, ℕ, ◌<◌, ◌↔◌, true, false, not, cond, List, [], ◌∷◌, ◌++◌, length, get_or, map, Option, None, Some, refl, sym, ap, ◌∙◌, subst, inl, inr, arith}
use Rattle.std.specs.List.{All, count_by}
use Rattle.std.specs.Option.{IsSome, unwrap_or, option_to_list}
use Rattle.std.proofs.lemmas.Bool.{cases_Bool, cases_lt, false≢true}
use Rattle.std.proofs.lemmas.List.{get_or_past, get_or-map}
use Rattle.std.proofs.lemmas.List.Elements.{All-nil, All-cons, All-head, All-tail, All-get_or}
use Rattle.rela_labels.specs.Letters.{has}
use Rattle.rela_nfa.specs.Automaton.{Move, IsMove}
use Rattle.rela_nfa.specs.Runs.{Step, StepIn, Follow, Reach, Accepts, spelled}
use Rattle.rela_subset.specs.Deterministic.{Deterministic, IsDeterministic, IsSplit, IsOver, IsAccepted, LeadsTo, automaton_of, led_from, moves_of, next, states, state_after, takes, target}
use Rattle.rela_subset.proofs.Targets.{Contains-nil, some_target, step_counts, step_target, step_within, target_step, labelled_step}

module _ (d : Deterministic) (ok : IsDeterministic d) where
  pub moves_at : (q : ℕ) → q < states d → All (IsMove (length d.over) (states d)) (moves_of d q)
  moves_at q below = All-get_or (All (IsMove (length d.over) (states d))) d.edges q [] (let each = ok.automaton.each in omega arith) ok.automaton.moves

  pub split_at : (q : ℕ) → q < states d → IsSplit d.over (moves_of d q)
  split_at q below = All-get_or (IsSplit d.over) d.edges q [] (let each = ok.automaton.each in omega arith) ok.split

  pub labelled_at : (q : ℕ) → q < states d → All (λ move. IsSome move.label) (moves_of d q)
  labelled_at q below = All-get_or (All (λ (move : Move). IsSome move.label)) d.edges q [] (let each = ok.automaton.each in omega arith) ok.labelled

  pub one_at : (q k : ℕ) → q < states d → has d.over k ≡ true → count_by (takes k) (moves_of d q) ≡ 1
  one_at q k below over = split_at q below k ∙ ap (λ b. cond b 1 0) over

  -- a letter that is read has a target
  pub target_at : (q k : ℕ) → q < states d → has d.over k ≡ true → target (moves_of d q) k ≡ Some (next d q k)
  target_at q k below over =
      let one = one_at q k below over in
      let found = some_target (moves_of d q) k (omega arith) in
      found.1 ∙ ap Some (sym (ap (λ o. unwrap_or o 0) found.1))

  pub next_within : (q k : ℕ) → q < states d → has d.over k ≡ true → next d q k < states d
  next_within q k below over =
      step_within (length d.over) (states d) (moves_of d q) (Some k) (next d q k) (moves_at q below)
      (target_step (moves_of d q) k (next d q k) (target_at q k below over))

  -- only states have edges
  from_state : (p q : ℕ) (letter : Option ℕ) → StepIn (moves_of d p) letter q → p < states d
  from_state p q letter step = elim (cases_lt p (states d)) [
    | inl below ↦ below
    | inr past ↦ absurd (no_step letter (subst (λ l. StepIn l letter q) (get_or_past d.edges p [] (let each = ok.automaton.each in omega arith)) step))
  ]
    where
      no_step : (letter : Option ℕ) → ¬ StepIn [] letter q
      no_step None step = Contains-nil _ step
      no_step (Some k) step = Contains-nil _ step.1

  -- a step is by a letter that is read, to the next state
  step_next : (p q k : ℕ) → StepIn (moves_of d p) (Some k) q → (has d.over k ≡ true) × (next d p k ≡ q)
  step_next p q k step =
      let below = from_state p q (Some k) step in
      let counted = step_counts (moves_of d p) k q step in
      let split = split_at p below k in
      elim (cases_Bool (has d.over k)) [
        | inl over ↦
            let one = one_at p k below over in
            (over, ap (λ o. unwrap_or o 0) (step_target (moves_of d p) k q (omega arith) step))
        | inr other ↦
            let none : count_by (takes k) (moves_of d p) ≡ 0 = split ∙ ap (λ b. cond b 1 0) other in
            absurd (omega arith)
      ]

  -- what edges that follow one another spell leads where they lead
  follow_leads : (steps : List Step) (p q : ℕ) → Follow (automaton_of d) p steps q → IsOver d.over (spelled steps) × (led_from d p (spelled steps) ≡ q)
  follow_leads [] p q here = (All-nil (λ k. has d.over k ≡ true), here)
  follow_leads (step ∷ rest) p q follows = first step.letter follows.0 (follow_leads rest step.to q follows.1)
    where
      first : (letter : Option ℕ) → StepIn (moves_of d p) letter step.to → IsOver d.over (spelled rest) × (led_from d step.to (spelled rest) ≡ q)
          → IsOver d.over (option_to_list letter ++ spelled rest) × (led_from d p (option_to_list letter ++ spelled rest) ≡ q)
      first None taken later = absurd (labelled_step (moves_of d p) step.to (labelled_at p (from_state p step.to None taken)) taken)
      first (Some k) taken later =
          let at = step_next p step.to k taken in
          (All-cons (λ j. has d.over j ≡ true) k (spelled rest) at.0 later.0, ap (λ n. led_from d n (spelled rest)) at.1 ∙ later.1)

  -- and a word over the letters is spelled by edges to where it leads
  leads_follow : (word : List ℕ) (p : ℕ) → p < states d → IsOver d.over word
      → (steps : List Step) × Follow (automaton_of d) p steps (led_from d p word) × (spelled steps ≡ word)
  leads_follow [] p below over = ([], refl, refl)
  leads_follow (k ∷ rest) p below over =
      let read : has d.over k ≡ true = All-head (λ j. has d.over j ≡ true) k rest over in
      let taken : StepIn (moves_of d p) (Some k) (next d p k) = target_step (moves_of d p) k (next d p k) (target_at p k below read) in
      let later = leads_follow rest (next d p k) (next_within p k below read) (All-tail (λ j. has d.over j ≡ true) k rest over) in
      (record { letter = Some k; to = next d p k } ∷ later.0, (taken, later.1), ap (λ w. k ∷ w) later.2)

  pub reach_leads : (q : ℕ) (word : List ℕ) → Reach (automaton_of d) q word ↔ LeadsTo d q word
  reach_leads q word = (
    λ reach.
        let leads = follow_leads reach.0 d.start q reach.1 in
        subst (λ w. IsOver d.over w × (state_after d w ≡ q)) reach.2 leads,
    λ leads.
        let found = leads_follow word d.start ok.automaton.starts leads.0 in
        (found.0, subst (λ n. Follow (automaton_of d) d.start found.0 n) leads.1 found.1, found.2),
  )

  pub accepts_accepted : (word : List ℕ) → Accepts (automaton_of d) word ↔ IsAccepted d word
  accepts_accepted word = (
    λ (q, reach, final).
        let leads = (reach_leads q word).0 reach in
        (leads.0, ap (λ n. get_or d.finals n false) leads.1 ∙ final),
    λ accepted. (state_after d word, (reach_leads (state_after d word) word).1 (accepted.0, refl), accepted.1),
  )

  -- a word leads to a state
  pub led_within : (word : List ℕ) (p : ℕ) → p < states d → IsOver d.over word → led_from d p word < states d
  led_within [] p below over = below
  led_within (k ∷ rest) p below over =
      led_within rest (next d p k) (next_within p k below (All-head (λ j. has d.over j ≡ true) k rest over)) (All-tail (λ j. has d.over j ≡ true) k rest over)

-- one letter more
pub led_push : (d : Deterministic) (word : List ℕ) (p k : ℕ) → led_from d p (word ++ k ∷ []) ≡ next d (led_from d p word) k
led_push d [] p k = refl
led_push d (j ∷ rest) p k = led_push d rest (next d p j) k

-- the same edges lead to the same states
pub led_same : (d e : Deterministic) → e.edges ≡ d.edges → (word : List ℕ) (p : ℕ) → led_from e p word ≡ led_from d p word
led_same d e same [] p = refl
led_same d e same (k ∷ rest) p =
    ap (λ es. led_from e (unwrap_or (target (get_or es p []) k) 0) rest) same ∙ led_same d e same rest (next d p k)

-- with the other states final, the other words are accepted
pub opposite_accepts : (d e : Deterministic) → IsDeterministic d → e.over ≡ d.over → e.start ≡ d.start → e.edges ≡ d.edges → e.finals ≡ map not d.finals
    → (word : List ℕ) → IsAccepted e word ↔ (IsOver d.over word × ¬ IsAccepted d word)
opposite_accepts d e ok over start edges finals word =
    let after : state_after e word ≡ state_after d word = led_same d e edges word e.start ∙ ap (λ p. led_from d p word) start in
    let opposite : IsOver d.over word → get_or e.finals (state_after e word) false ≡ not (get_or d.finals (state_after d word) false) = λ read.
    ap (λ q. get_or e.finals q false) after ∙ ap (λ fs. get_or fs (state_after d word) false) finals
    ∙ get_or-map not d.finals (state_after d word) false false (led_within d ok word d.start ok.automaton.starts read) in (
      λ accepted.
          let read : IsOver d.over word = subst (λ o. IsOver o word) over accepted.0 in
          (read, λ other. false≢true (sym (opposite read ∙ ap not other.1) ∙ accepted.1)),
      λ (read, other). (
        subst (λ o. IsOver o word) (sym over) read,
        elim (cases_Bool (get_or d.finals (state_after d word) false)) [
          | inl final ↦ absurd (other (read, final))
          | inr not_final ↦ opposite read ∙ ap not not_final
        ],
      ),
    )
