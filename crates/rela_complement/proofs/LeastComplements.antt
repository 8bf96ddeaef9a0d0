-- The complement by the minimal automaton of a part.
use Rattle.std.proofs.Common.{◌≡◌, ◌∙◌, ℕ, ◌↔◌, Bool, true, List, [], ◌∷◌, ◌++◌, length, refl, sym, ap, subst}
use Rattle.std.proofs.lemmas.List.Elements.{All-append}
use Rattle.rela_labels.specs.Letters.{has}
use Rattle.rela_nfa.specs.Automaton.{Automaton, IsAutomaton}
use Rattle.rela_nfa.specs.Runs.{Reach, Accepts}
use Rattle.rela_subset.specs.Deterministic.{Deterministic, IsAccepted, IsFinal, IsOver, LeadsTo, automaton_of, led_from, next, state_after}
use Rattle.rela_subset.specs.Subsets.{KeepsApart, ReachSame}
use Rattle.rela_minimise.specs.Classes.{AreAlike}
use Rattle.rela_build.specs.Complement.{IsComplement}
use Rattle.rela_complement.specs.Least.{IsLeast}

led_append : (d : Deterministic) (word rest : List ℕ) (p : ℕ) → led_from d p (word ++ rest) ≡ led_from d (led_from d p word) rest
led_append d [] rest p = refl
led_append d (k ∷ word) rest p = led_append d word rest (next d p k)

-- what follows words that lead to one state is accepted alike
accepted_on : (d : Deterministic) (v w rest : List ℕ) → IsOver d.over w → IsOver d.over rest → state_after d v ≡ state_after d w → IsAccepted d (v ++ rest) → IsAccepted d (w ++ rest)
accepted_on d v w rest w_over rest_over same accepted = (
  All-append (λ k. has d.over k ≡ true) w rest w_over rest_over,
  subst (IsFinal d) (led_append d v rest d.start ∙ ap (λ (q : ℕ). led_from d q rest) same ∙ sym (led_append d w rest d.start)) accepted.1,
)

alike_at : (d : Deterministic) (v w : List ℕ) → IsOver d.over v → IsOver d.over w → state_after d v ≡ state_after d w → AreAlike d v w
alike_at d v w v_over w_over same rest rest_over =
    (accepted_on d v w rest w_over rest_over same, accepted_on d w v rest v_over rest_over (sym same))

-- the least one of a deterministic automaton whose states are the sets that words reach
module _ (over : List Bool) (a : Automaton) (d m : Deterministic) (d_over : d.over ≡ over) (m_over : m.over ≡ d.over)
    (d_language : (w : List ℕ) → IsAccepted d w ↔ (IsOver over w × Accepts a w))
    (sets : (v w : List ℕ) → IsOver over v → IsOver over w → (state_after d v ≡ state_after d w) ↔ ReachSame a v w)
    (apart : KeepsApart a over d)
    (m_language : (w : List ℕ) → IsAccepted m w ↔ IsAccepted d w)
    (classes : (v w : List ℕ) → IsOver d.over v → IsOver d.over w → (state_after m v ≡ state_after m w) ↔ AreAlike d v w) where
  within : (w : List ℕ) → IsOver over w → IsOver d.over w
  within w is = subst (λ (s : List Bool). IsOver s w) (sym d_over) is

  -- words that lead to one state are told apart by no continuation
  one_state : (v w : List ℕ) → IsOver over v → IsOver over w → state_after d v ≡ state_after d w → state_after m v ≡ state_after m w
  one_state v w v_over w_over same =
      (classes v w (within v v_over) (within w w_over)).1 (alike_at d v w (within v v_over) (within w w_over) same)

  pub least : IsLeast over a m
  least = record {
    over_is = m_over ∙ d_over;
    language = λ w. (λ accepted. (d_language w).0 ((m_language w).0 accepted), λ both. (m_language w).1 ((d_language w).1 both));
    alike = λ v w v_over w_over same. one_state v w v_over w_over ((sets v w v_over w_over).1 same);
    told = λ v w v_over w_over differ. apart v w v_over w_over (λ same. differ (one_state v w v_over w_over same));
  }

-- the automaton of the words that a deterministic one with these states doesn't accept
module _ (over : List Bool) (a r : Automaton) (least other : Deterministic) (same_size : length over ≡ a.letters) (is : IsLeast over a least)
    (ok : IsAutomaton r) (other_over : other.over ≡ least.over) (r_is : r ≡ automaton_of other)
    (states_are : (w : List ℕ) → state_after other w ≡ state_after least w)
    (refuses : (w : List ℕ) → IsAccepted other w ↔ (IsOver least.over w × (¬ IsAccepted least w)))
    (reach : (q : ℕ) (w : List ℕ) → Reach r q w ↔ LeadsTo other q w)
    (language : (w : List ℕ) → Accepts r w ↔ IsAccepted other w) where
  whole_over : other.over ≡ over
  whole_over = other_over ∙ is.over_is

  pub complement : IsComplement a over r
  complement = record {
    automaton = ok;
    letters = ap (λ (b : Automaton). b.letters) r_is ∙ ap length whole_over ∙ same_size;
    after = state_after least;
    reached = λ q w. (
      λ reached.
          let leads = (reach q w).0 reached in (subst (λ (s : List Bool). IsOver s w) whole_over leads.0, sym (states_are w) ∙ leads.1),
      λ both. (reach q w).1 (subst (λ (s : List Bool). IsOver s w) (sym whole_over) both.0, states_are w ∙ both.1),
    );
    alike = is.alike;
    told = is.told;
    language = λ w. (
      λ accepted.
          let refused = (refuses w).0 ((language w).0 accepted) in
          let within = subst (λ (s : List Bool). IsOver s w) is.over_is refused.0 in
          (within, λ bad. refused.1 ((is.language w).1 (within, bad))),
      λ both.
          (language w).1 ((refuses w).1 (subst (λ (s : List Bool). IsOver s w) (sym is.over_is) both.0, λ bad. both.1 ((is.language w).0 bad).1)),
    );
  }
