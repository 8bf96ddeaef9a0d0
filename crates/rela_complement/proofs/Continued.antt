-- What an automaton reaches by a word, and by words that go on with it.
use Rattle.std.proofs.Common.{◌≡◌, ◌∙◌, ℕ, List, [], ◌∷◌, ◌++◌, refl, sym, ap, subst, append_assoc}
use Rattle.std.specs.Option.{option_to_list}
use Rattle.std.specs.Prelude.{Option, Some, None}
use Rattle.rela_nfa.specs.Automaton.{Automaton}
use Rattle.rela_nfa.specs.Runs.{Step, HasStep, Follow, spelled, Reach, Accepts}

module _ (a : Automaton) where
  -- a state between two parts of a word, and the edges of the second part
  record Between (p : ℕ) (front rest : List ℕ) (q : ℕ) : Type 0 where
    state : ℕ
    first : List Step
    reaches : Follow a p first state
    spells : spelled first ≡ front
    second : List Step
    leads : Follow a state second q
    goes_on : spelled second ≡ rest

  -- the same past one more step, by what it reads
  past_step : (step : Step) (steps : List Step) (p q k : ℕ) (front rest : List ℕ) → HasStep a p step.letter step.to
      → (letter : Option ℕ) → step.letter ≡ letter → option_to_list letter ++ spelled steps ≡ k ∷ front ++ rest
      → (spelled steps ≡ k ∷ front ++ rest → Between step.to (k ∷ front) rest q) → (spelled steps ≡ front ++ rest → Between step.to front rest q)
      → Between p (k ∷ front) rest q
  past_step step steps p q k front rest has None is e silent reads =
      let later = silent e in record {
        state = later.state;
        first = step ∷ later.first;
        reaches = (has, later.reaches);
        spells = ap (λ (l : Option ℕ). option_to_list l ++ spelled later.first) is ∙ later.spells;
        second = later.second;
        leads = later.leads;
        goes_on = later.goes_on;
      }
  past_step step steps p q k front rest has (Some j) is e silent reads =
      let same : j ≡ k = cc in
      let spelled_on : spelled steps ≡ front ++ rest = cc in
      let later = reads spelled_on in record {
        state = later.state;
        first = step ∷ later.first;
        reaches = (has, later.reaches);
        spells = ap (λ (l : Option ℕ). option_to_list l ++ spelled later.first) is ∙ ap (λ (i : ℕ). i ∷ spelled later.first) same ∙ ap (λ (l : List ℕ). k ∷ l) later.spells;
        second = later.second;
        leads = later.leads;
        goes_on = later.goes_on;
      }

  between : (steps : List Step) (p q : ℕ) (front rest : List ℕ) → Follow a p steps q → spelled steps ≡ front ++ rest → Between p front rest q
  between steps p q [] rest follows e =
      record { state = p; first = []; reaches = refl; spells = refl; second = steps; leads = follows; goes_on = e }
  between [] p q (k ∷ front) rest follows e = absurd cc
  between (step ∷ steps) p q (k ∷ front) rest follows e =
      past_step step steps p q k front rest follows.0 step.letter refl e
      (λ later. between steps step.to q (k ∷ front) rest follows.1 later)
      (λ later. between steps step.to q front rest follows.1 later)

  follow_append : (first second : List Step) (p state q : ℕ) → Follow a p first state → Follow a state second q → Follow a p (first ++ second) q
  follow_append [] second p state q here leads = subst (λ (n : ℕ). Follow a n second q) (sym here) leads
  follow_append (step ∷ first) second p state q reaches leads = (reaches.0, follow_append first second step.to state q reaches.1 leads)

  spelled_append : (first second : List Step) → spelled (first ++ second) ≡ spelled first ++ spelled second
  spelled_append [] second = refl
  spelled_append (step ∷ first) second =
      ap (λ (l : List ℕ). option_to_list step.letter ++ l) (spelled_append first second)
      ∙ sym (append_assoc (option_to_list step.letter) (spelled first) (spelled second))

  reach_on : (steps : List Step) (p q : ℕ) (word : List ℕ) → Reach a p word → Follow a p steps q → Reach a q (word ++ spelled steps)
  reach_on steps p q word (first, reaches, spells) leads = (
    first ++ steps,
    follow_append first steps a.start p q reaches leads,
    spelled_append first steps ∙ ap (λ (l : List ℕ). l ++ spelled steps) spells,
  )

  -- a word that is accepted with this end, and another that isn't, are told apart by a state
  pub told_by_end : (v w rest : List ℕ) → Accepts a (v ++ rest) → (¬ Accepts a (w ++ rest)) → (q : ℕ) × (Reach a q v × (¬ Reach a q w))
  told_by_end v w rest (q, (steps, follows, spells), final) refused =
      let at = between steps a.start q v rest follows spells in (
        at.state,
        (
          (at.first, at.reaches, at.spells),
          λ reach. refused (q, subst (λ (l : List ℕ). Reach a q (w ++ l)) at.goes_on (reach_on at.second at.state q w reach at.leads), final),
        ),
      )
