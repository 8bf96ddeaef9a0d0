-- States from which the same words are accepted, and where they lead.
use Rattle.std.proofs.Common.{◌≡◌, ℕ, ◌↔◌, Bool, true, false, List, [], ◌∷◌, ◌++◌, refl, sym, ◌∙◌, subst}
use Rattle.std.specs.Bool.{IsTrue}
use Rattle.std.proofs.lemmas.Bool.{false≢true}
use Rattle.std.proofs.lemmas.List.Elements.{All-append, All-cons, All-nil}
use Rattle.rela_labels.specs.Letters.{has}
use Rattle.rela_subset.specs.Deterministic.{Deterministic, IsFinal, IsOver, IsReachable, led_from, next, state_after}
use Rattle.rela_minimise.specs.Classes.{AcceptSame, AreAlike, IsMinimal, finality}

-- two truths that follow from one another are the same
pub same_truth : (a b : Bool) → IsTrue a ↔ IsTrue b → a ≡ b
same_truth true true is = refl
same_truth true false is = absurd (false≢true (is.0 refl))
same_truth false true is = absurd (false≢true (is.1 refl))
same_truth false false is = refl

pub truth_same : (a b : Bool) → a ≡ b → IsTrue a ↔ IsTrue b
truth_same a b same = (λ t. sym same ∙ t, λ t. same ∙ t)

pub led_append : (d : Deterministic) (word rest : List ℕ) (p : ℕ) → led_from d p (word ++ rest) ≡ led_from d (led_from d p word) rest
led_append d [] rest p = refl
led_append d (k ∷ word) rest p = led_append d word rest (next d p k)

pub accept_final : (d : Deterministic) (p q : ℕ) → AcceptSame d p q → finality d p ≡ finality d q
accept_final d p q same = same_truth (finality d p) (finality d q) (same [] (All-nil (λ k. has d.over k ≡ true)))

pub accept_next : (d : Deterministic) (p q k : ℕ) → has d.over k ≡ true → AcceptSame d p q → AcceptSame d (next d p k) (next d q k)
accept_next d p q k over same word read = same (k ∷ word) (All-cons (λ j. has d.over j ≡ true) k word over read)

-- words over the letters are alike where the states to which they lead accept the same words
pub alike_states : (d : Deterministic) (v w : List ℕ) → IsOver d.over v → IsOver d.over w → AcceptSame d (state_after d v) (state_after d w) ↔ AreAlike d v w
alike_states d v w v_over w_over = (
  λ same rest over.
      let is = same rest over in
      let v_leads : led_from d d.start (v ++ rest) ≡ led_from d (state_after d v) rest = led_append d v rest d.start in
      let w_leads : led_from d d.start (w ++ rest) ≡ led_from d (state_after d w) rest = led_append d w rest d.start in (
        λ (_, final). (
          All-append (λ k. has d.over k ≡ true) w rest w_over over,
          subst (IsFinal d) (sym w_leads) (is.0 (subst (IsFinal d) v_leads final)),
        ),
        λ (_, final). (
          All-append (λ k. has d.over k ≡ true) v rest v_over over,
          subst (IsFinal d) (sym v_leads) (is.1 (subst (IsFinal d) w_leads final)),
        ),
      ),
  λ alike rest over.
      let is = alike rest over in
      let v_leads : led_from d d.start (v ++ rest) ≡ led_from d (state_after d v) rest = led_append d v rest d.start in
      let w_leads : led_from d d.start (w ++ rest) ≡ led_from d (state_after d w) rest = led_append d w rest d.start in (
        λ final.
            subst (IsFinal d) w_leads ((is.0 (All-append (λ k. has d.over k ≡ true) v rest v_over over, subst (IsFinal d) (sym v_leads) final)).1),
        λ final.
            subst (IsFinal d) v_leads ((is.1 (All-append (λ k. has d.over k ≡ true) w rest w_over over, subst (IsFinal d) (sym w_leads) final)).1),
      ),
)

-- where words that no continuation tells apart lead to one state, and each state is reached, no two states accept the same words
pub minimal : (d : Deterministic) → IsReachable d → ((v w : List ℕ) → IsOver d.over v → IsOver d.over w → AreAlike d v w → state_after d v ≡ state_after d w) → IsMinimal d
minimal d reach one p q p_in q_in same =
    let (v, (v_over, v_leads)) = reach p p_in in
    let (w, (w_over, w_leads)) = reach q q_in in
    let states_same : AcceptSame d (state_after d v) (state_after d w) = subst (λ n. AcceptSame d n (state_after d w)) (sym v_leads) (subst (AcceptSame d p) (sym w_leads) same) in
    sym v_leads ∙ one v w v_over w_over ((alike_states d v w v_over w_over).0 states_same) ∙ w_leads
