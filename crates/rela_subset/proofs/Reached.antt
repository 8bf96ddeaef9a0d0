-- What words reach, one letter after the other.
use Rattle.std.proofs.Common.{◌≡◌, ℕ, ◌<◌, ◌↔◌, List, [], ◌∷◌, ◌++◌, get_or, Option, None, Some, refl, sym, ap, ◌∙◌, subst, inl, inr, arith, append_assoc}
use Rattle.std.specs.List.{All}
use Rattle.std.specs.Option.{option_to_list}
use Rattle.std.proofs.lemmas.Bool.{cases_lt}
use Rattle.std.proofs.lemmas.List.{get_or_past}
use Rattle.std.proofs.lemmas.List.Elements.{All-get_or, All-from_get_or, Contains-get_or}
use Rattle.rela_nfa.specs.Automaton.{Automaton, IsAutomaton, IsMove, moves_of, states}
use Rattle.rela_nfa.specs.Reading.{Silently}
use Rattle.rela_nfa.specs.Runs.{Step, StepIn, HasStep, Follow, Reach, spelled}
use Rattle.rela_nfa.specs.StateSet.{Lists}
use Rattle.rela_subset.specs.Sets.{NextFrom, ReachedBy}
use Rattle.rela_subset.proofs.Targets.{Contains-nil, step_within}

no_step : (letter : Option ℕ) (q : ℕ) → ¬ StepIn [] letter q
no_step None q step = Contains-nil _ step
no_step (Some k) q step = Contains-nil _ step.1

module _ (a : Automaton) (ok : IsAutomaton a) where
  -- an edge leads from a state to a state
  pub step_to_state : (p q : ℕ) (letter : Option ℕ) → HasStep a p letter q → q < states a
  step_to_state p q letter step = elim (cases_lt p (states a)) [
    | inl below ↦
        step_within a.letters (states a) (moves_of a p) letter q
        (All-get_or (All (IsMove a.letters (states a))) a.edges p [] (let each = ok.each in omega arith) ok.moves) step
    | inr past ↦ absurd (no_step letter q (subst (λ l. StepIn l letter q) (get_or_past a.edges p [] (let each = ok.each in omega arith)) step))
  ]

  pub follow_within : (steps : List Step) (p q : ℕ) → p < states a → Follow a p steps q → q < states a
  follow_within [] p q below here = subst (λ n. n < states a) here below
  follow_within (step ∷ rest) p q below follows = follow_within rest step.to q (step_to_state p step.to step.letter follows.0) follows.1

  pub reach_within : (q : ℕ) (word : List ℕ) → Reach a q word → q < states a
  reach_within q word reach = follow_within reach.0 a.start q ok.starts reach.1

module _ (a : Automaton) where
  pub follow_join : (first second : List Step) (p q r : ℕ) → Follow a p first q → Follow a q second r → Follow a p (first ++ second) r
  follow_join [] second p q r here follows = subst (λ n. Follow a n second r) (sym here) follows
  follow_join (step ∷ rest) second p q r before follows = (before.0, follow_join rest second step.to q r before.1 follows)

pub spelled_join : (first second : List Step) → spelled (first ++ second) ≡ spelled first ++ spelled second
spelled_join [] second = refl
spelled_join (step ∷ rest) second =
    ap (λ w. option_to_list step.letter ++ w) (spelled_join rest second) ∙ sym (append_assoc (option_to_list step.letter) (spelled rest) (spelled second))

-- a run that reads a word, then a last letter, and then silent edges
record IsPushed (a : Automaton) (p q k : ℕ) (word : List ℕ) : Type 0 where
  before : List Step
  at : ℕ
  to : ℕ
  reads : Follow a p before at
  spells : spelled before ≡ word
  step : HasStep a at (Some k) to
  silent : Silently a to q

follow_first : (a : Automaton) (p to q k : ℕ) (letter : Option ℕ) (rest : List Step) (word : List ℕ) → HasStep a p letter to → Follow a to rest q
    → option_to_list letter ++ spelled rest ≡ word ++ k ∷ [] → ((later : List ℕ) → spelled rest ≡ later ++ k ∷ [] → IsPushed a to q k later) → IsPushed a p q k word
follow_first a p to q k None rest word step follows spells later =
    let run = later word spells in
    record {
      before = record { letter = None; to = to } ∷ run.before;
      at = run.at;
      to = run.to;
      reads = (step, run.reads);
      spells = run.spells;
      step = run.step;
      silent = run.silent;
    }
follow_first a p to q k (Some j) rest [] step follows spells later =
    let same : j ≡ k = cc in
    let none : spelled rest ≡ [] = cc in
    record {
      before = [];
      at = p;
      to = to;
      reads = refl;
      spells = refl;
      step = subst (λ n. HasStep a p (Some n) to) same step;
      silent = (rest, follows, none);
    }
follow_first a p to q k (Some j) rest (i ∷ word) step follows spells later =
    let same : j ≡ i = cc in
    let others : spelled rest ≡ word ++ k ∷ [] = cc in
    let run = later word others in
    record {
      before = record { letter = Some j; to = to } ∷ run.before;
      at = run.at;
      to = run.to;
      reads = (step, run.reads);
      spells = ap (λ n. n ∷ spelled run.before) same ∙ ap (λ w. i ∷ w) run.spells;
      step = run.step;
      silent = run.silent;
    }

no_letter : (k : ℕ) (word : List ℕ) → [] ≡ word ++ k ∷ [] → ⊥
no_letter k [] e = cc
no_letter k (j ∷ word) e = cc

follow_split : (a : Automaton) (steps : List Step) (p q k : ℕ) (word : List ℕ) → Follow a p steps q → spelled steps ≡ word ++ k ∷ [] → IsPushed a p q k word
follow_split a [] p q k word here spells = absurd (no_letter k word spells)
follow_split a (step ∷ rest) p q k word follows spells =
    follow_first a p step.to q k step.letter rest word follows.0 follows.1 spells (λ later e. follow_split a rest step.to q k later follows.1 e)

module _ (a : Automaton) where
  -- what a word with a last letter reaches
  pub reach_push : (q k : ℕ) (word : List ℕ) → Reach a q (word ++ k ∷ []) ↔ ((to : ℕ) × ((at : ℕ) × Reach a at word × HasStep a at (Some k) to) × Silently a to q)
  reach_push q k word = (
    λ reach.
        let run = follow_split a reach.0 a.start q k word reach.1 reach.2 in
        (run.to, (run.at, (run.before, run.reads, run.spells), run.step), run.silent),
    λ (to, (at, reach, step), silent).
        let last : List Step = record { letter = Some k; to = to } ∷ [] in
        let tail : Follow a at (last ++ silent.0) q = follow_join a last silent.0 at to q (step, refl) silent.1 in (
          reach.0 ++ (last ++ silent.0),
          follow_join a reach.0 (last ++ silent.0) a.start at q reach.1 tail,
          spelled_join reach.0 (last ++ silent.0) ∙ ap (λ w. spelled reach.0 ++ (k ∷ w)) silent.2 ∙ ap (λ w. w ++ k ∷ []) reach.2,
        ),
  )

  -- the set that a word reaches, and the set that follows it
  pub reached_next : (set next : List ℕ) (k : ℕ) (word : List ℕ) → Lists (ReachedBy a word) set → Lists (NextFrom a set k) next → Lists (ReachedBy a (word ++ k ∷ [])) next
  reached_next set next k word is follows = record {
    ordered = follows.ordered;
    members = λ q. (
      λ c. let (to, (p, among, step), silent) = (follows.members q).0 c in (reach_push q k word).1 (to, (p, (is.members p).0 among, step), silent),
      λ reach. let (to, (p, before, step), silent) = (reach_push q k word).0 reach in (follows.members q).1 (to, (p, (is.members p).1 before, step), silent),
    );
  }

  pub reached_within : IsAutomaton a → (set : List ℕ) (word : List ℕ) → Lists (ReachedBy a word) set → All (λ q. q < states a) set
  reached_within ok set word is = All-from_get_or (λ q. q < states a) set 0 (λ i below. reach_within a ok (get_or set i 0) word ((is.members (get_or set i 0)).0 (Contains-get_or set i 0 below)))
