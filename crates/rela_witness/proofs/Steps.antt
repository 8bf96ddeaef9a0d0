-- The edges out of a state, and the steps that they allow.
use Rattle.std.proofs.Common.{◌≡◌, ℕ, zero, suc, not, ◌<◌, ◌⊎◌, ◌↔◌, Bool, true, false, List, [], ◌∷◌, length, map, Option, None, Some, refl, sym, ap, ◌∙◌, subst, inl, inr, arith}
use Rattle.std.specs.Prelude.{IsTrue}
use Rattle.std.specs.List.{Contains}
use Rattle.std.proofs.lemmas.Bool.{cases_lt, false≢true}
use Rattle.std.proofs.lemmas.List.{get_or_past}
use Rattle.rela_labels.specs.Letters.{has}
use Rattle.rela_nfa.specs.Automaton.{Automaton, IsAutomaton, Move, moves_of, states}
use Rattle.rela_nfa.specs.Reading.{takes}
use Rattle.rela_nfa.specs.Runs.{StepIn, HasStep}
use Rattle.rela_nfa.specs.Stored.{move_of}
use Rattle.rela_nfa.specs.declared.edge.Edge.{Edge}
use Rattle.rela_witness.specs.Labels.{IsOfKind, HasEdge}
use Rattle.rela_witness.specs.declared.sources.Kind.{Kind}
use Rattle.rela_witness.specs.declared.sources.Kind.TheVariants.{Silent, Lettered}
use Rattle.rela_witness.proofs.Members.{Contains-nil, Contains-map, Contains-map_back}

move_of_step : (moves : List Move) (letter : Option ℕ) (q : ℕ) → StepIn moves letter q → (m : Move) × Contains moves m × (takes m.label letter ≡ true) × (m.to ≡ q)
move_of_step moves None q step = (record { label = None; to = q }, step, refl, refl)
move_of_step moves (Some k) q (set, among, holds) = (record { label = Some set; to = q }, among, holds, refl)

taken_step : (moves : List Move) (label : Option (List Bool)) (to : ℕ) (letter : Option ℕ) → takes label letter ≡ true → Contains moves (record { label = label; to = to }) → StepIn moves letter to
taken_step moves None to None taken among = among
taken_step moves None to (Some k) taken among = absurd (false≢true taken)
taken_step moves (Some set) to None taken among = absurd (false≢true taken)
taken_step moves (Some set) to (Some k) taken among = (set, among, taken)

no_step : (letter : Option ℕ) (q : ℕ) → StepIn [] letter q → ⊥
no_step None q step = Contains-nil _ step
no_step (Some k) q step = Contains-nil _ step.1

-- edges leave states alone
pub step_within : (a : Automaton) → IsAutomaton a → (p q : ℕ) (letter : Option ℕ) → HasStep a p letter q → p < states a
step_within a ok p q letter step = elim (cases_lt p (length a.edges)) [
  | inl below ↦ omega (arith, ok.each, below)
  | inr past ↦ absurd (no_step letter q (subst (λ (l : List Move). StepIn l letter q) (get_or_past a.edges p [] past) step))
]

silent_taken : (label : Option (List Bool)) → takes label None ≡ true → IsOfKind Silent label
silent_taken None taken = tt
silent_taken (Some set) taken = absurd (false≢true taken)

silent_takes : (label : Option (List Bool)) → IsOfKind Silent label → takes label None ≡ true
silent_takes None of = refl
silent_takes (Some set) of = absurd of

lettered_taken : (label : Option (List Bool)) (k : ℕ) → takes label (Some k) ≡ true → IsOfKind Lettered label
lettered_taken None k taken = absurd (false≢true taken)
lettered_taken (Some set) k taken = (k, taken)

lettered_takes : (label : Option (List Bool)) → IsOfKind Lettered label → (k : ℕ) × (takes label (Some k) ≡ true)
lettered_takes None of = absurd of
lettered_takes (Some set) of = of

module _ {L : Type 0} (letters : L → List Bool) (edges : List (Edge L)) (a : Automaton) (p : ℕ) (same : map (move_of letters) edges ≡ moves_of a p) where
  pub edge_of_step : (letter : Option ℕ) (q : ℕ) → HasStep a p letter q → (edge : Edge L) × Contains edges edge × (takes (move_of letters edge).label letter ≡ true) × (edge.to ≡ q)
  edge_of_step letter q step =
      let found = move_of_step (moves_of a p) letter q step in
      let back = Contains-map_back (move_of letters) edges found.0 (subst (λ (l : List Move). Contains l found.0) (sym same) found.1) in
      (back.0, back.2, subst (λ (m : Move). takes m.label letter ≡ true) (sym back.1) found.2, ap (λ (m : Move). m.to) back.1 ∙ found.3)

  pub step_of_edge : (letter : Option ℕ) (edge : Edge L) → Contains edges edge → takes (move_of letters edge).label letter ≡ true → HasStep a p letter edge.to
  step_of_edge letter edge among taken =
      taken_step (moves_of a p) (move_of letters edge).label edge.to letter taken (subst (λ (l : List Move). Contains l (move_of letters edge)) same (Contains-map (move_of letters) edges edge among))

  pub edge_of_kind : (kind : Kind) (q : ℕ) → HasEdge a kind p q → (edge : Edge L) × Contains edges edge × IsOfKind kind (move_of letters edge).label × (edge.to ≡ q)
  edge_of_kind Silent q step = let found = edge_of_step None q step in (found.0, found.1, silent_taken (move_of letters found.0).label found.2, found.3)
  edge_of_kind Lettered q (k, step) = let found = edge_of_step (Some k) q step in (found.0, found.1, lettered_taken (move_of letters found.0).label k found.2, found.3)

  pub kind_of_edge : (kind : Kind) (edge : Edge L) → Contains edges edge → IsOfKind kind (move_of letters edge).label → HasEdge a kind p edge.to
  kind_of_edge Silent edge among of = step_of_edge None edge among (silent_takes (move_of letters edge).label of)
  kind_of_edge Lettered edge among of = let some = lettered_takes (move_of letters edge).label of in (some.0, step_of_edge (Some some.0) edge among some.1)

pub kind_within : (a : Automaton) → IsAutomaton a → (kind : Kind) (p q : ℕ) → HasEdge a kind p q → p < states a
kind_within a ok Silent p q edge = step_within a ok p q None edge
kind_within a ok Lettered p q (k, edge) = step_within a ok p q (Some k) edge

some_letter : (set : List Bool) → ((k : ℕ) → has set k ≡ false) ⊎ ((k : ℕ) × (has set k ≡ true))
some_letter [] = inl (λ k. refl)
some_letter (true ∷ set) = inr (0, refl)
some_letter (false ∷ set) = elim (some_letter set) [ inl none ↦ inl (no_more set none) | inr some ↦ inr (suc some.0, some.1) ]
  where
    no_more : (rest : List Bool) → ((k : ℕ) → has rest k ≡ false) → (k : ℕ) → has (false ∷ rest) k ≡ false
    no_more rest none zero = refl
    no_more rest none (suc k) = none k

pub lettered_unless_empty : (set : List Bool) (empty : Bool) → IsTrue empty ↔ ((k : ℕ) → has set k ≡ false) → IsTrue (not empty) ↔ IsOfKind Lettered (Some set)
lettered_unless_empty set true is = (λ no. absurd (false≢true no), λ (k, holds). absurd (false≢true (sym (is.0 refl k) ∙ holds)))
lettered_unless_empty set false is = (
  λ _. elim (some_letter set) [ inl none ↦ absurd (false≢true (is.1 none)) | inr some ↦ some ],
  λ _. refl,
)
