-- Words that reach the same states of some automata, and words that don't.
use Rattle.std.proofs.Common.{◌≡◌, ℕ, List, [], ◌∷◌, ◌++◌, length, get_or, Option, None, Some, refl, sym, ap, ◌∙◌, subst, inl, inr, arith, length-append}
use Rattle.std.specs.Option.{option_to_list}
use Rattle.std.proofs.lemmas.List.{append-nil, same_from_push}
use Rattle.std.proofs.lemmas.List.Elements.{All-contains}
use Rattle.rela_nfa.specs.Automaton.{Automaton}
use Rattle.rela_nfa.specs.Runs.{Accepts, HasStep, Reach}
use Rattle.rela_closed.specs.Closed.{AreApart, SameStates}
use Rattle.rela_build.specs.Complement.{ReachSame}
use Rattle.rela_closed.proofs.Reached.{reach_each, reach_silent, reach_step}

-- a letter more
push_one : (a : Automaton) (v w : List ℕ) (k : ℕ) → ((q : ℕ) → Reach a q v → Reach a q w) → (q : ℕ) → Reach a q (v ++ k ∷ []) → Reach a q (w ++ k ∷ [])
push_one a v w k some q reach =
    reach_each a (λ p u. u ≡ v ++ k ∷ [] → Reach a p (w ++ k ∷ [])) (λ p r letter u reads there step same. one letter p r u reads there step same)
    (λ same. absurd (omega (arith, ap length same, length-append v (k ∷ [])))) q (v ++ k ∷ []) reach refl
  where
    one : (letter : Option ℕ) (p r : ℕ) (u : List ℕ) → Reach a p u → (u ≡ v ++ k ∷ [] → Reach a p (w ++ k ∷ [])) → HasStep a p letter r → u ++ option_to_list letter ≡ v ++ k ∷ []
        → Reach a r (w ++ k ∷ [])
    one None p r u reads there step same = reach_silent a p r (w ++ k ∷ []) (there (sym (append-nil u) ∙ same)) step
    one (Some j) p r u reads there step same =
        let parts = same_from_push u v j k same in
        reach_step a p r (Some k) w (some p (subst (λ x. Reach a p x) parts.0 reads)) (subst (λ i. HasStep a p (Some i) r) parts.1 step)

pub reach_same_push : (a : Automaton) (v w : List ℕ) (k : ℕ) → ReachSame a v w → ReachSame a (v ++ k ∷ []) (w ++ k ∷ [])
reach_same_push a v w k same q = (push_one a v w k (λ p. (same p).0) q, push_one a w v k (λ p. (same p).1) q)

module _ (automata : List Automaton) where
  pub same_push : (v w : List ℕ) (k : ℕ) → SameStates automata v w → SameStates automata (v ++ k ∷ []) (w ++ k ∷ [])
  same_push v w k same i d below = reach_same_push (get_or automata i d) v w k (same i d below)

  pub same_refl : (v : List ℕ) → SameStates automata v v
  same_refl v i d below q = (λ r. r, λ r. r)

  pub same_sym : (v w : List ℕ) → SameStates automata v w → SameStates automata w v
  same_sym v w same i d below q = ((same i d below q).1, (same i d below q).0)

  pub same_trans : (u v w : List ℕ) → SameStates automata u v → SameStates automata v w → SameStates automata u w
  same_trans u v w first second i d below q =
      (λ r. (second i d below q).0 ((first i d below q).0 r), λ r. (first i d below q).1 ((second i d below q).1 r))

  pub apart_not_same : (v w : List ℕ) → AreApart automata v w → ¬ SameStates automata v w
  apart_not_same v w (a, among, (q, differ)) same =
      let alike = All-contains (λ a. ReachSame a v w) automata a same among in
      elim differ [
        | inl one ↦ one.1 ((alike q).0 one.0)
        | inr one ↦ one.1 ((alike q).1 one.0)
      ]

-- an automaton accepts both of two words that reach the same states, or neither
pub same_accepts : (a : Automaton) (v w : List ℕ) → ReachSame a v w → Accepts a v → Accepts a w
same_accepts a v w same (q, reach, final) = (q, (same q).0 reach, final)

pub reach_same_sym : (a : Automaton) (v w : List ℕ) → ReachSame a v w → ReachSame a w v
reach_same_sym a v w same q = ((same q).1, (same q).0)
