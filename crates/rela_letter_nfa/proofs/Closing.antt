-- The states to which silent steps lead, found from those that stand in a queue.
use Rattle.std.proofs.Common.{◌≡◌, ℕ, ◌+◌, ◌<◌, ◌≤◌, ◌↔◌, List, [], ◌∷◌, ◌++◌, length, get_or, Option, None, Some, sym, ap, ◌∙◌, subst, inl, inr, arith}
use Rattle.std.specs.List.{Contains}
use Rattle.std.specs.Option.{option_to_list}
use Rattle.std.proofs.lemmas.Bool.{cases_lt}
use Rattle.std.proofs.lemmas.List.{get_or_default}
use Rattle.rela_letter_nfa.specs.LetterAutomaton.{LetterAutomaton, silents_of}
use Rattle.rela_letter_nfa.specs.Runs.{Step, HasStep, Follow, spelled}
use Rattle.rela_letter_nfa.specs.Sets.{Adds, LeadsFrom}
use Rattle.rela_letter_nfa.proofs.Growing.{adds_at, adds_keeps}
use Rattle.rela_letter_nfa.proofs.Reached.{silently_more}

-- silent steps lead from the starts to just the states so far, of which the first `done` have been followed
pub record IsClosing (a : LetterAutomaton) (starts now : List ℕ) (done : ℕ) : Type 0 where
  pub started : (q : ℕ) → Contains starts q → Contains now q
  pub sound : (q : ℕ) → Contains now q → LeadsFrom a starts [] q
  pub followed : (k q : ℕ) → k < done → HasStep a (get_or now k 0) None q → Contains now q

module _ (a : LetterAutomaton) (starts : List ℕ) where
  pub closing_more : (done : ℕ) (before after : List ℕ) → IsClosing a starts before done → done < length before → Adds (Contains (silents_of a (get_or before done 0))) before after
      → IsClosing a starts after (done + 1)
  closing_more done before after so_far within adds =
      let p : ℕ = get_or before done 0 in
      record {
        started = λ q c. adds_keeps before after adds q (so_far.started q c);
        sound = λ q c. elim (adds.each q c) [
          | inl old ↦ so_far.sound q old
          | inr step ↦
              let from = so_far.sound p (done, within, get_or_default before done p 0 within) in
              (from.0, from.1, silently_more a from.0 p q from.2 step)
        ];
        followed = λ k q below step. elim (cases_lt k done) [
          | inl less ↦ adds_keeps before after adds q (so_far.followed k q less (subst (λ n. HasStep a n None q) (adds_at before after adds k (omega arith)) step))
          | inr more ↦
              let same : k ≡ done = omega arith in
              adds.all q (subst (λ n. HasStep a n None q) (ap (λ j. get_or after j 0) same ∙ adds_at before after adds done within) step)
        ];
      }

  module _ (now : List ℕ) (done : ℕ) (so_far : IsClosing a starts now done) (over : length now ≤ done) where
    led_by : (steps : List Step) (p q : ℕ) → Contains now p → Follow a p steps q → spelled steps ≡ [] → Contains now q
    led_by [] p q c here spells = subst (λ n. Contains now n) here c
    led_by (step ∷ rest) p q c follows spells = first step.letter follows.0 spells (λ next none. led_by rest step.to q next follows.1 none)
      where
        first : (letter : Option ℕ) → HasStep a p letter step.to → option_to_list letter ++ spelled rest ≡ [] → (Contains now step.to → spelled rest ≡ [] → Contains now q) → Contains now q
        first None taken none later =
            later (so_far.followed c.0 step.to (omega (arith, c.1, over)) (subst (λ n. HasStep a n None step.to) (sym (get_or_default now c.0 0 p c.1 ∙ c.2)) taken)) none
        first (Some k) taken none later = absurd (cc)

    -- where all have been followed, none is lacking
    pub closing_all : (q : ℕ) → Contains now q ↔ LeadsFrom a starts [] q
    closing_all q = (so_far.sound q, λ (p, start, (steps, follows, spells)). led_by steps p q (so_far.started p start) follows spells)
