-- The pairs to which two automata go together, and their numbers.
use Rattle.std.proofs.Common.{◌≡◌, ℕ, ◌<◌, Option, None, Some, inl, inr, [], length, get_or, ap, subst}
use Rattle.std.specs.List.{All}
use Rattle.rela_pairs.specs.Exploration.{Exploration}
use Rattle.std.proofs.lemmas.List.{get_or-map}
use Rattle.std.proofs.lemmas.List.Elements.{All-map, Contains-get_or}
use Rattle.rela_pairs.specs.declared.pair.Pair.{Pair}
use Rattle.rela_nfa.specs.Automaton.{Automaton, IsAutomaton, states}
use Rattle.rela_nfa.specs.Meeting.{JointMove, joint_moves, next_pairs, numbered, product_moves_at}
use Rattle.rela_nfa.proofs.Joint.{JointStep, joint_some}
use Rattle.rela_nfa.proofs.Parts.{leads_to_state}

-- joint edges lead to pairs of states
pub next_lead : (a b : Automaton) → IsAutomaton a → IsAutomaton b → (x : Pair) → x.left < states a → x.right < states b → All (λ (y : Pair). (y.left < states a) × (y.right < states b)) (next_pairs a b x)
next_lead a b ok_a ok_b x left right =
    All-map (λ (y : Pair). (y.left < states a) × (y.right < states b)) (λ (j : JointMove). j.to) (joint_moves a b x)
    (λ k d below.
    let j : JointMove = get_or (joint_moves a b x) k d in
    let step = joint_some a b x j (Contains-get_or (joint_moves a b x) k d below) in
    within j.to step.0 step.1)
  where
    within : (y : Pair) (letter : Option ℕ) → JointStep a b x letter y → (y.left < states a) × (y.right < states b)
    within y letter step = elim step [
      | inl one ↦ (leads_to_state a ok_a x.left y.left None one.1, subst (λ n. n < states b) one.2 right)
      | inr others ↦ elim others [
        | inl two ↦ (subst (λ n. n < states a) two.1 left, leads_to_state b ok_b x.right y.right None two.2)
        | inr both ↦ (leads_to_state a ok_a x.left y.left (Some both.0) both.2, leads_to_state b ok_b x.right y.right (Some both.0) both.3)
      ]
    ]

module _ (a b : Automaton) (explored : Exploration) (number : ℕ) (below : number < length explored.pairs) (none : Pair) where
  pub product_moves_of : product_moves_at a b explored number ≡ numbered (joint_moves a b (get_or explored.pairs number none)) (get_or explored.targets number [])
  product_moves_of = ap (λ l. numbered l (get_or explored.targets number [])) (get_or-map (joint_moves a b) explored.pairs number none [] below)
