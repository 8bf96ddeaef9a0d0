-- An automaton with silent edges to what its states simulate.
use Rattle.std.proofs.Common.{◌≡◌, ℕ, ◌⊎◌, ◌↔◌, Bool, List, [], ◌∷◌, ◌++◌, Option, None, refl, sym, ap, ◌∙◌, subst, inl, inr, append_assoc}
use Rattle.std.specs.Option.{option_to_list}
use Rattle.std.proofs.lemmas.List.{append-nil}
use Rattle.rela_nfa.specs.Automaton.{Automaton, IsFinal}
use Rattle.rela_nfa.specs.Runs.{Step, HasStep, Follow, spelled, Reach, Accepts}
use Rattle.rela_reduce.specs.Apart.{AreApart, ReachSame}

pub follow_append : (a : Automaton) (first second : List Step) (p q t : ℕ) → Follow a p first q → Follow a q second t → Follow a p (first ++ second) t
follow_append a [] second p q t here follows = subst (λ (n : ℕ). Follow a n second t) (sym here) follows
follow_append a (step ∷ first) second p q t (has, leads) follows = (has, follow_append a first second step.to q t leads follows)

pub spelled_append : (first second : List Step) → spelled (first ++ second) ≡ spelled first ++ spelled second
spelled_append [] second = refl
spelled_append (step ∷ first) second =
    ap (λ (w : List ℕ). option_to_list step.letter ++ w) (spelled_append first second) ∙ sym (append_assoc (option_to_list step.letter) (spelled first) (spelled second))

-- a run from p that spells this word and ends at a state with P
abbrev pub RunsTo : Automaton → ℕ → List ℕ → (ℕ → Type 0) → Type 0
RunsTo a p word P = (u : ℕ) × (steps : List Step) × Follow a p steps u × (spelled steps ≡ word) × P u

module _ (a r : Automaton) (M : ℕ → ℕ → Type 0)
    (simulates : (p q t : ℕ) (letter : Option ℕ) → M p q → HasStep a q letter t → RunsTo a p (option_to_list letter) (λ u. M u t))
    (ends : (p q : ℕ) → M p q → IsFinal a q → RunsTo a p [] (IsFinal a))
    (same_start : r.start ≡ a.start) (same_finals : r.finals ≡ a.finals)
    (from : (p q : ℕ) (letter : Option ℕ) → HasStep r p letter q → HasStep a p letter q ⊎ ((letter ≡ None) × M p q))
    (into : (p q : ℕ) (letter : Option ℕ) → HasStep a p letter q → HasStep r p letter q)
    (lowers : (p q : ℕ) → M p q → (steps : List Step) × Follow r p steps q × (spelled steps ≡ [])) where
  -- p can go along with a run from what it simulates
  run_along : (steps : List Step) (p q t : ℕ) → M p q → Follow a q steps t → RunsTo a p (spelled steps) (λ u. M u t)
  run_along [] p q t m here = (p, [], refl, refl, subst (M p) here m)
  run_along (step ∷ rest) p q t m (has, follows) =
      let (u, first, leads, spells, m_first) = simulates p q step.to step.letter m has in
      let (v, later, leads_on, spells_on, m_later) = run_along rest u step.to t m_first follows in
      (v, first ++ later, follow_append a first later p u v leads leads_on, spelled_append first later ∙ ap (λ (w : List ℕ). w ++ spelled later) spells ∙ ap (λ (w : List ℕ). option_to_list step.letter ++ w) spells_on, m_later)

  -- each of the list is simulated by the one before it; it goes from p to q
  abbrev Chain : ℕ → List ℕ → ℕ → Type 0
  Chain p [] q = p ≡ q
  Chain p (x ∷ xs) q = M p x × Chain x xs q

  abbrev Lower : ℕ → ℕ → Type 0
  Lower p q = (path : List ℕ) × Chain p path q

  chain_push : (path : List ℕ) (p q t : ℕ) → Chain p path q → M q t → Chain p (path ++ t ∷ []) t
  chain_push [] p q t here m = (subst (λ (n : ℕ). M n t) (sym here) m, refl)
  chain_push (x ∷ path) p q t (first, rest) m = (first, chain_push path x q t rest m)

  chain_along : (path : List ℕ) (steps : List Step) (p q t : ℕ) → Chain p path q → Follow a q steps t → RunsTo a p (spelled steps) (λ u. Lower u t)
  chain_along [] steps p q t here follows = (t, steps, subst (λ (n : ℕ). Follow a n steps t) (sym here) follows, refl, ([], refl))
  chain_along (x ∷ path) steps p q t (first, rest) follows =
      let (u, steps_x, leads, spells, (below, chain)) = chain_along path steps x q t rest follows in
      let (v, steps_p, leads_on, spells_on, m) = run_along steps_x p x u first leads in
      (v, steps_p, leads_on, spells_on ∙ spells, (u ∷ below, (m, chain)))

  chain_final : (path : List ℕ) (p q : ℕ) → Chain p path q → IsFinal a q → RunsTo a p [] (IsFinal a)
  chain_final [] p q here final = (p, [], refl, refl, subst (IsFinal a) (sym here) final)
  chain_final (x ∷ path) p q (first, rest) final =
      let (f, steps_x, leads, spells, final_x) = chain_final path x q rest final in
      let (u, steps_p, leads_on, spells_on, m) = run_along steps_x p x f first leads in
      let (g, more, leads_more, spells_more, final_p) = ends u f m final_x in
      (g, steps_p ++ more, follow_append a steps_p more p u g leads_on leads_more, spelled_append steps_p more ∙ ap (λ (w : List ℕ). w ++ spelled more) (spells_on ∙ spells) ∙ spells_more, final_p)

  -- a run of r, as one of a that ends above
  back_along : (steps : List Step) (p c q : ℕ) → Lower p c → Follow r c steps q → RunsTo a p (spelled steps) (λ u. Lower u q)
  back_along [] p c q low here = (p, [], refl, refl, subst (Lower p) here low)
  back_along (step ∷ rest) p c q (path, chain) (has, follows) = elim (from c step.to step.letter has) [
    | inl own ↦
        let (u, first, leads, spells, low) = chain_along path (step ∷ []) p c step.to chain (own, refl) in
        let (v, later, leads_on, spells_on, low_on) = back_along rest u step.to q low follows in (
          v,
          first ++ later,
          follow_append a first later p u v leads leads_on,
          spelled_append first later ∙ ap (λ (w : List ℕ). w ++ spelled later) (spells ∙ append-nil (option_to_list step.letter)) ∙ ap (λ (w : List ℕ). option_to_list step.letter ++ w) spells_on,
          low_on,
        )
    | inr (silent, m) ↦
        let (v, later, leads_on, spells_on, low_on) = back_along rest p step.to q (path ++ step.to ∷ [], chain_push path p c step.to chain m) follows in
        (v, later, leads_on, spells_on ∙ sym (ap (λ (k : Option ℕ). option_to_list k ++ spelled rest) silent), low_on)
  ]

  follow_into : (steps : List Step) (p q : ℕ) → Follow a p steps q → Follow r p steps q
  follow_into [] p q here = here
  follow_into (step ∷ rest) p q (has, follows) = (into p step.to step.letter has, follow_into rest step.to q follows)

  reach_into : (q : ℕ) (w : List ℕ) → Reach a q w → Reach r q w
  reach_into q w (steps, follows, spells) = (steps, subst (λ (n : ℕ). Follow r n steps q) (sym same_start) (follow_into steps a.start q follows), spells)

  reach_chain : (path : List ℕ) (p q : ℕ) (w : List ℕ) → Chain p path q → Reach r p w → Reach r q w
  reach_chain [] p q w here reach = subst (λ (n : ℕ). Reach r n w) here reach
  reach_chain (x ∷ path) p q w (first, rest) reach =
      let (silent, leads, spells) = lowers p x first in
      reach_chain path x q w rest (
        reach.0 ++ silent,
        follow_append r reach.0 silent r.start p x reach.1 leads,
        spelled_append reach.0 silent ∙ ap (λ (s : List ℕ). spelled reach.0 ++ s) spells ∙ append-nil (spelled reach.0) ∙ reach.2,
      )

  -- what r reaches is what is below what a reaches
  back : (q : ℕ) (w : List ℕ) → Reach r q w → (p : ℕ) × Reach a p w × Lower p q
  back q w (steps, follows, spells) =
      let (p, own, leads, same, low) = back_along steps a.start r.start q ([], sym same_start) follows in (p, (own, leads, same ∙ spells), low)

  onward : (p q : ℕ) (w : List ℕ) → Reach a p w → Lower p q → Reach r q w
  onward p q w reach (path, chain) = reach_chain path p q w chain (reach_into p w reach)

  pub saturated_more : (q : ℕ) (w : List ℕ) → Reach a q w → Reach r q w
  saturated_more = reach_into

  pub saturated_same : (v w : List ℕ) → ReachSame a v w → ReachSame r v w
  saturated_same v w same q = (
    λ reach. let (p, own, low) = back q v reach in onward p q w ((same p).0 own) low,
    λ reach. let (p, own, low) = back q w reach in onward p q v ((same p).1 own) low,
  )

  pub saturated_apart : (v w : List ℕ) → AreApart r v w → AreApart a v w
  saturated_apart v w (q, inl (reach, never)) =
      let (p, own, low) = back q v reach in (p, inl (own, λ other. never (onward p q w other low)))
  saturated_apart v w (q, inr (reach, never)) =
      let (p, own, low) = back q w reach in (p, inr (own, λ other. never (onward p q v other low)))

  pub saturated_accepts : (w : List ℕ) → Accepts r w ↔ Accepts a w
  saturated_accepts w = (
    λ (q, reach, final).
        let (p, (steps, follows, spells), (path, chain)) = back q w reach in
        let (f, more, leads, silent, final_f) = chain_final path p q chain (subst (λ (fs : List Bool). IsFinal (record r { finals = fs }) q) same_finals final) in (
          f,
          (steps ++ more, follow_append a steps more a.start p f follows leads, spelled_append steps more ∙ ap (λ (s : List ℕ). spelled steps ++ s) silent ∙ append-nil (spelled steps) ∙ spells),
          final_f,
        ),
    λ (q, reach, final). (q, reach_into q w reach, subst (λ (fs : List Bool). IsFinal (record a { finals = fs }) q) (sym same_finals) final),
  )
