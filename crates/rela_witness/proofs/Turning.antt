-- Edges turned round: each is put on the list of the state to which it leads.
use Rattle.std.proofs.Common.{◌≡◌, ℕ, ◌+◌, ◌<◌, ◌≤◌, ◌⊎◌, ◌↔◌, Bool, List, length, get_or, map, take, sym, ap, ◌∙◌, subst, inl, inr, arith}
use Rattle.std.specs.List.{Contains}
use Rattle.std.proofs.lemmas.Bool.{cases_eq}
use Rattle.rela_nfa.specs.Automaton.{Automaton, IsAutomaton, moves_of, states}
use Rattle.rela_nfa.specs.Stored.{move_of}
use Rattle.rela_nfa.specs.declared.edge.Edge.{Edge}
use Rattle.rela_witness.specs.Labels.{IsOfKind, HasEdge}
use Rattle.rela_witness.specs.Linked.{IsLinked}
use Rattle.rela_witness.specs.declared.sources.Kind.{Kind}
use Rattle.rela_witness.proofs.Members.{Contains-nil, taken_cases, taken_before, taken_last, taken_all, taken_within}
use Rattle.rela_witness.proofs.Steps.{edge_of_kind, kind_of_edge, kind_within}

-- m is p, and one of the edges, of the kind, leads to q
abbrev pub Leaves : {L : Type 0} → (L → List Bool) → Kind → ℕ → List (Edge L) → ℕ → ℕ → Type 0
Leaves {L} letters kind p edges m q = (edge : Edge L) × (p ≡ m) × Contains edges edge × IsOfKind kind (move_of letters edge).label × (edge.to ≡ q)

-- the links are the old ones, and these
abbrev pub IsTurned : {L : Type 0} → (L → List Bool) → Kind → ℕ → List (Edge L) → List (List ℕ) → List (List ℕ) → Type 0
IsTurned letters kind p edges old now = (m q : ℕ) → IsLinked now q m ↔ (IsLinked old q m ⊎ Leaves letters kind p edges m q)

module _ {L : Type 0} (letters : L → List Bool) (kind : Kind) (p : ℕ) (edges : List (Edge L)) (old : List (List ℕ)) where
  pub turned_none : IsTurned letters kind p (take 0 edges) old old
  turned_none m q = (λ c. inl c, λ either. elim either [ inl c ↦ c | inr leaves ↦ absurd (Contains-nil leaves.0 leaves.2) ])

  module _ (now : List (List ℕ)) (i : ℕ) (edge : Edge L) (below : i < length edges) (is : edge ≡ get_or edges i edge) (so_far : IsTurned letters kind p (take i edges) old now) where
    before : (m q : ℕ) → Leaves letters kind p (take i edges) m q → Leaves letters kind p (take (i + 1) edges) m q
    before m q (e, same, among, of, to) = (e, same, taken_before edges i edge below is e among, of, to)

    pub turned_more : (new : List (List ℕ)) → IsOfKind kind (move_of letters edge).label → ((m n : ℕ) → IsLinked new m n ↔ (IsLinked now m n ⊎ ((edge.to ≡ m) × (p ≡ n))))
        → IsTurned letters kind p (take (i + 1) edges) old new
    turned_more new of added m q = (
      λ c. elim ((added q m).0 c) [
        | inl was ↦ elim ((so_far m q).0 was) [ inl older ↦ inl older | inr leaves ↦ inr (before m q leaves) ]
        | inr (to, same) ↦ inr (edge, same, taken_last edges i edge below is, of, to)
      ],
      λ either. (added q m).1 (elim either [
        | inl older ↦ inl ((so_far m q).1 (inl older))
        | inr (e, same, among, e_of, to) ↦ elim (taken_cases edges i edge below is e among) [
          | inl early ↦ inl ((so_far m q).1 (inr (e, same, early, e_of, to)))
          | inr here ↦ inr (ap (λ (x : Edge L). x.to) here ∙ to, same)
        ]
      ]),
    )

    pub turned_past : ¬ IsOfKind kind (move_of letters edge).label → IsTurned letters kind p (take (i + 1) edges) old now
    turned_past other m q = (
      λ c. elim ((so_far m q).0 c) [ inl older ↦ inl older | inr leaves ↦ inr (before m q leaves) ],
      λ either. elim either [
        | inl older ↦ (so_far m q).1 (inl older)
        | inr (e, same, among, of, to) ↦ elim (taken_cases edges i edge below is e among) [
          | inl early ↦ (so_far m q).1 (inr (e, same, early, of, to))
          | inr here ↦ absurd (other (subst (λ (x : Edge L). IsOfKind kind (move_of letters x).label) (sym here) of))
        ]
      ],
    )

  pub turned_all : (a : Automaton) (now : List (List ℕ)) (i : ℕ) → map (move_of letters) edges ≡ moves_of a p → length edges ≤ i → IsTurned letters kind p (take i edges) old now
      → (m q : ℕ) → IsLinked now q m ↔ (IsLinked old q m ⊎ ((p ≡ m) × HasEdge a kind p q))
  turned_all a now i are over so_far m q = (
    λ c. elim ((so_far m q).0 c) [
      | inl older ↦ inl older
      | inr (e, same, among, of, to) ↦ inr (same, subst (λ n. HasEdge a kind p n) to (kind_of_edge letters edges a p are kind e (taken_within edges i e over among) of))
    ],
    λ either. (so_far m q).1 (elim either [
      | inl older ↦ inl older
      | inr (same, has) ↦ let found = edge_of_kind letters edges a p are kind q has in inr (found.0, same, taken_all edges i found.0 over found.1, found.2, found.3)
    ]),
  )

-- the links are the edges of the kind out of the states below p
abbrev pub AreBelow : Automaton → Kind → ℕ → List (List ℕ) → Type 0
AreBelow a kind p links = (m q : ℕ) → IsLinked links q m ↔ ((m < p) × HasEdge a kind m q)

module _ (a : Automaton) (kind : Kind) where
  pub below_nothing : (links : List (List ℕ)) → ((p q : ℕ) → ¬ IsLinked links p q) → AreBelow a kind 0 links
  below_nothing links none m q = (λ c. absurd (none q m c), λ (less, has). absurd (omega arith))

  pub below_one_more : (p : ℕ) (old new : List (List ℕ)) → AreBelow a kind p old → ((m q : ℕ) → IsLinked new q m ↔ (IsLinked old q m ⊎ ((p ≡ m) × HasEdge a kind p q)))
      → AreBelow a kind (p + 1) new
  below_one_more p old new so_far added m q = (
    λ c. elim ((added m q).0 c) [
      | inl was ↦ let had = (so_far m q).0 was in (omega (arith, had.0), had.1)
      | inr (same, has) ↦ (omega arith, subst (λ n. HasEdge a kind n q) same has)
    ],
    λ (less, has). (added m q).1 (elim (cases_eq m p) [
      | inl same ↦ inr (sym same, subst (λ n. HasEdge a kind n q) same has)
      | inr apart ↦ inl ((so_far m q).1 (omega arith, has))
    ]),
  )

  pub below_all : IsAutomaton a → (p : ℕ) (links : List (List ℕ)) → states a ≤ p → AreBelow a kind p links → (m q : ℕ) → IsLinked links q m ↔ HasEdge a kind m q
  below_all ok p links over so_far m q = (
    λ c. ((so_far m q).0 c).1,
    λ has. (so_far m q).1 (omega (arith, kind_within a ok kind m q has, over), has),
  )
