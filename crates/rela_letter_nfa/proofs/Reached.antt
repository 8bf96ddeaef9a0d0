-- What words reach, one letter after the other.
use Rattle.std.proofs.Common.{◌≡◌, ℕ, ◌↔◌, List, [], ◌∷◌, ◌++◌, Option, None, Some, refl, sym, ap, ◌∙◌, subst, append_assoc}
use Rattle.std.specs.List.{Contains}
use Rattle.std.specs.Option.{option_to_list}
use Rattle.rela_letter_nfa.specs.LetterAutomaton.{LetterAutomaton}
use Rattle.rela_letter_nfa.specs.Runs.{Step, HasStep, Follow, spelled}
use Rattle.rela_letter_nfa.specs.Sets.{Leads, LeadsFrom, Lists, NextFrom}

module _ (a : LetterAutomaton) where
  pub follow_join : (first second : List Step) (p q r : ℕ) → Follow a p first q → Follow a q second r → Follow a p (first ++ second) r
  follow_join [] second p q r here follows = subst (λ n. Follow a n second r) (sym here) follows
  follow_join (step ∷ rest) second p q r before follows = (before.0, follow_join rest second step.to q r before.1 follows)

pub spelled_join : (first second : List Step) → spelled (first ++ second) ≡ spelled first ++ spelled second
spelled_join [] second = refl
spelled_join (step ∷ rest) second =
    ap (λ w. option_to_list step.letter ++ w) (spelled_join rest second) ∙ sym (append_assoc (option_to_list step.letter) (spelled rest) (spelled second))

module _ (a : LetterAutomaton) where
  -- one silent step more
  pub silently_more : (p q r : ℕ) → Leads a p [] q → HasStep a q None r → Leads a p [] r
  silently_more p q r silently step =
      let last : List Step = record { letter = None; to = r } ∷ [] in
      (silently.0 ++ last, follow_join a silently.0 last p q r silently.1 (step, refl), spelled_join silently.0 last ∙ ap (λ w. w ++ []) silently.2)

-- steps that read a word, then a last letter, and then nothing
record IsPushed (a : LetterAutomaton) (p q k : ℕ) (word : List ℕ) : Type 0 where
  before : List Step
  at : ℕ
  to : ℕ
  reads : Follow a p before at
  spells : spelled before ≡ word
  step : HasStep a at (Some k) to
  silent : Leads a to [] q

follow_first : (a : LetterAutomaton) (p to q k : ℕ) (letter : Option ℕ) (rest : List Step) (word : List ℕ) → HasStep a p letter to → Follow a to rest q
    → option_to_list letter ++ spelled rest ≡ word ++ k ∷ [] → ((later : List ℕ) → spelled rest ≡ later ++ k ∷ [] → IsPushed a to q k later) → IsPushed a p q k word
follow_first a p to q k None rest word step follows spells later =
    let run = later word spells in
    record {
      before = record { letter = None; to = to } ∷ run.before;
      at = run.at;
      to = run.to;
      reads = (step, run.reads);
      spells = run.spells;
      step = run.step;
      silent = run.silent;
    }
follow_first a p to q k (Some j) rest [] step follows spells later =
    let same : j ≡ k = cc in
    let none : spelled rest ≡ [] = cc in
    record {
      before = [];
      at = p;
      to = to;
      reads = refl;
      spells = refl;
      step = subst (λ n. HasStep a p (Some n) to) same step;
      silent = (rest, follows, none);
    }
follow_first a p to q k (Some j) rest (i ∷ word) step follows spells later =
    let same : j ≡ i = cc in
    let others : spelled rest ≡ word ++ k ∷ [] = cc in
    let run = later word others in
    record {
      before = record { letter = Some j; to = to } ∷ run.before;
      at = run.at;
      to = run.to;
      reads = (step, run.reads);
      spells = ap (λ n. n ∷ spelled run.before) same ∙ ap (λ w. i ∷ w) run.spells;
      step = run.step;
      silent = run.silent;
    }

no_letter : (k : ℕ) (word : List ℕ) → [] ≡ word ++ k ∷ [] → ⊥
no_letter k [] e = cc
no_letter k (j ∷ word) e = cc

follow_split : (a : LetterAutomaton) (steps : List Step) (p q k : ℕ) (word : List ℕ) → Follow a p steps q → spelled steps ≡ word ++ k ∷ [] → IsPushed a p q k word
follow_split a [] p q k word here spells = absurd (no_letter k word spells)
follow_split a (step ∷ rest) p q k word follows spells =
    follow_first a p step.to q k step.letter rest word follows.0 follows.1 spells (λ later e. follow_split a rest step.to q k later follows.1 e)

module _ (a : LetterAutomaton) (starts : List ℕ) where
  -- what follows the states that a word reaches is what the word reaches with a letter more
  pub next_reached : (set word : List ℕ) (k : ℕ) → ((q : ℕ) → Contains set q ↔ LeadsFrom a starts word q) → (q : ℕ) → NextFrom a set k q ↔ LeadsFrom a starts (word ++ k ∷ []) q
  next_reached set word k is q = (
    λ (to, (at, among, step), silent).
        let (p, start, (steps, reads, spells)) = (is at).0 among in
        let last : List Step = record { letter = Some k; to = to } ∷ [] in
        let tail : Follow a at (last ++ silent.0) q = follow_join a last silent.0 at to q (step, refl) silent.1 in (
          p,
          start,
          (
            steps ++ (last ++ silent.0),
            follow_join a steps (last ++ silent.0) p at q reads tail,
            spelled_join steps (last ++ silent.0) ∙ ap (λ w. spelled steps ++ (k ∷ w)) silent.2 ∙ ap (λ w. w ++ k ∷ []) spells,
          ),
        ),
    λ (p, start, (steps, reads, spells)).
        let run = follow_split a steps p q k word reads spells in
        (run.to, (run.at, (is run.at).1 (p, start, (run.before, run.reads, run.spells)), run.step), run.silent),
  )

-- the numbers of a set that is told in two ways
pub lists_same : (P Q : ℕ → Type 0) (set : List ℕ) → ((q : ℕ) → P q ↔ Q q) → Lists P set → Lists Q set
lists_same P Q set same is = record { ordered = is.ordered; members = λ q. (λ c. (same q).0 ((is.members q).0 c), λ holds. (is.members q).1 ((same q).1 holds)) }
