-- The states that silent edges lead to, found from those that stand in a queue.
use Rattle.std.proofs.Common.{◌≡◌, ℕ, ◌+◌, ◌<◌, ◌≤◌, ◌↔◌, List, [], ◌∷◌, ◌++◌, length, get_or, Option, None, Some, refl, sym, ap, ◌∙◌, subst, inl, inr, arith}
use Rattle.std.specs.List.{Contains}
use Rattle.std.specs.Option.{option_to_list}
use Rattle.std.proofs.lemmas.Bool.{cases_lt}
use Rattle.std.proofs.lemmas.List.{get_or_default}
use Rattle.rela_nfa.specs.Automaton.{Automaton}
use Rattle.rela_nfa.specs.Reading.{Closes, Silently, SilentlyFrom}
use Rattle.rela_nfa.specs.Runs.{Step, HasStep, Follow, Reach, spelled}
use Rattle.rela_nfa.specs.StateSet.{Adds}
use Rattle.rela_nfa.proofs.Growing.{adds_at, adds_keeps}
use Rattle.rela_nfa.proofs.Reaching.{follow_push, reach_silent, spelled_push}

-- one silent edge more
silently_more : (a : Automaton) (p q r : ℕ) → Silently a p q → HasStep a q None r → Silently a p r
silently_more a p q r silently step =
    (silently.0 ++ record { letter = None; to = r } ∷ [], follow_push a p q r None silently.0 silently.1 step, spelled_push silently.0 None r ∙ ap (λ w. w ++ []) silently.2)

-- what silent edges keep holds of all that they lead to
silently_each : (a : Automaton) (P : ℕ → Type 0) → ((p q : ℕ) → P p → HasStep a p None q → P q) → (steps : List Step) (p q : ℕ) → P p → Follow a p steps q → spelled steps ≡ [] → P q
silently_each a P kept [] p q holds here spells = subst P here holds
silently_each a P kept (step ∷ rest) p q holds follows spells =
    first step.letter follows.0 spells (λ next none. silently_each a P kept rest step.to q next follows.1 none)
  where
    first : (letter : Option ℕ) → HasStep a p letter step.to → option_to_list letter ++ spelled rest ≡ [] → (P step.to → spelled rest ≡ [] → P q) → P q
    first None taken none later = later (kept p step.to holds taken) none
    first (Some k) taken none later = absurd (cc)

-- silent edges lead from the starts to just the states so far, of which the first `done` have been followed
pub record IsClosing (a : Automaton) (starts now : List ℕ) (done : ℕ) : Type 0 where
  pub started : (q : ℕ) → Contains starts q → Contains now q
  pub sound : (q : ℕ) → Contains now q → SilentlyFrom a starts q
  pub followed : (k q : ℕ) → k < done → HasStep a (get_or now k 0) None q → Contains now q

module _ (a : Automaton) (starts : List ℕ) where
  pub closing_none : IsClosing a starts starts 0
  closing_none = record { started = λ q c. c; sound = λ q c. (q, c, ([], refl, refl)); followed = λ k q below. absurd (omega arith) }

  pub closing_more : (done : ℕ) (before after : List ℕ) → IsClosing a starts before done → done < length before → Adds (HasStep a (get_or before done 0) None) before after
      → IsClosing a starts after (done + 1)
  closing_more done before after so_far within adds =
      let p : ℕ = get_or before done 0 in
      record {
        started = λ q c. adds_keeps before after adds q (so_far.started q c);
        sound = λ q c. elim (adds.each q c) [
          | inl old ↦ so_far.sound q old
          | inr step ↦
              let from = so_far.sound p (done, within, get_or_default before done p 0 within) in
              (from.0, from.1, silently_more a from.0 p q from.2 step)
        ];
        followed = λ k q below step. elim (cases_lt k done) [
          | inl less ↦ adds_keeps before after adds q (so_far.followed k q less (subst (λ n. HasStep a n None q) (adds_at before after adds k (omega arith)) step))
          | inr more ↦
              let same : k ≡ done = omega arith in
              adds.all q (subst (λ n. HasStep a n None q) (ap (λ j. get_or after j 0) same ∙ adds_at before after adds done within) step)
        ];
      }

  -- where all have been followed, none is lacking
  pub closing_all : (now : List ℕ) (done : ℕ) → IsClosing a starts now done → length now ≤ done → (q : ℕ) → Contains now q ↔ SilentlyFrom a starts q
  closing_all now done so_far over q = (
    so_far.sound q,
    λ (p, start, (steps, follows, spells)).
        silently_each a (Contains now)
        (λ m n c step. so_far.followed c.0 n (omega (arith, c.1, over)) (subst (λ i. HasStep a i None n) (sym (get_or_default now c.0 0 m c.1 ∙ c.2)) step)) steps p q
        (so_far.started p start) follows spells,
  )

  -- these have all that words reach by silent edges, and nothing else
  pub silently_closes : (now : List ℕ) → ((q : ℕ) → Contains now q ↔ SilentlyFrom a starts q) → Closes a starts now
  silently_closes now is = record {
    kept = λ q c. (is q).1 (q, c, ([], refl, refl));
    closed = λ p q c step. let from = (is p).0 c in (is q).1 (from.0, from.1, silently_more a from.0 p q from.2 step);
    only = λ word all q c.
        let from = (is q).0 c in
        silently_each a (λ n. Reach a n word) (λ m n reach step. reach_silent a m n word reach step) from.2.0 from.0 q (all from.0 from.1) from.2.1 from.2.2;
  }
