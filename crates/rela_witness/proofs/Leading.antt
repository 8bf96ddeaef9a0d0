-- Edges that lead to a state of some distance.
use Rattle.std.proofs.Common.{◌≡◌, ℕ, ◌<◌, ◌≤◌, Bool, true, List, length, get_or, map, take, Option, Some, refl, sym, ap, ◌∙◌, subst}
use Rattle.std.specs.List.{All}
use Rattle.rela_nfa.specs.Automaton.{Automaton, moves_of}
use Rattle.rela_nfa.specs.Reading.{takes}
use Rattle.rela_nfa.specs.Stored.{move_of}
use Rattle.rela_nfa.specs.declared.edge.Edge.{Edge}
use Rattle.rela_witness.specs.Finishing.{LeadsTo}
use Rattle.rela_witness.specs.Labels.{IsLeast}
use Rattle.rela_witness.specs.Numbered.{number_of, HasNumber, Grows, After}
use Rattle.rela_witness.proofs.Growing.{Passing, passed_all, grows_weaker}
use Rattle.rela_witness.proofs.Leasts.{least_same, least_all}
use Rattle.rela_witness.proofs.Steps.{edge_of_step, step_of_edge}

-- the edge may be taken by the letter, or silently, and leads to a state of the distance
abbrev pub EdgeGoes : {L : Type 0} → (L → List Bool) → List (Option ℕ) → ℕ → Option ℕ → Edge L → Type 0
EdgeGoes letters distances distance letter edge = (takes (move_of letters edge).label letter ≡ true) × (number_of distances edge.to ≡ Some distance)

-- to the state q
abbrev pub EdgeLeads : {L : Type 0} → (L → List Bool) → List (Option ℕ) → ℕ → Option ℕ → Edge L → ℕ → Type 0
EdgeLeads letters distances distance letter edge q = (edge.to ≡ q) × EdgeGoes letters distances distance letter edge

pub edge_within : {L : Type 0} (edges : List (Edge L)) (count i : ℕ) (edge : Edge L) → All (λ e. e.to < count) edges → i < length edges → edge ≡ get_or edges i edge → edge.to < count
edge_within {L = L} edges count i edge all below is = subst (λ (e : Edge L). e.to < count) (sym is) (all i edge below)

module _ {L : Type 0} (letters : L → List Bool) (edges : List (Edge L)) (a : Automaton) (p : ℕ) (same : map (move_of letters) edges ≡ moves_of a p) (distances : List (Option ℕ)) (distance : ℕ) where
  leads_after : (letter : Option ℕ) (q : ℕ) → LeadsTo a distances distance letter p q → After (EdgeLeads letters distances distance letter) edges q
  leads_after letter q (step, at) =
      let found = edge_of_step letters edges a p same letter q step in
      (found.0, found.1, (found.3, (found.2, ap (number_of distances) found.3 ∙ at)))

  after_leads : (letter : Option ℕ) (q : ℕ) → After (EdgeLeads letters distances distance letter) edges q → LeadsTo a distances distance letter p q
  after_leads letter q (edge, among, (to, (taken, at))) =
      subst (λ n. LeadsTo a distances distance letter p n) to (step_of_edge letters edges a p same letter edge among taken, at)

  -- all that the edges lead to has been entered
  pub edges_entered : (letter : Option ℕ) (old now : List (Option ℕ)) (before layer : List ℕ) (i : ℕ) → length edges ≤ i
      → Passing (EdgeLeads letters distances distance letter) distance old now before layer edges i
      → Grows (LeadsTo a distances distance letter p) distance old now before layer × ((q : ℕ) → LeadsTo a distances distance letter p q → HasNumber now q)
  edges_entered letter old now before layer i over so_far =
      let all = passed_all (EdgeLeads letters distances distance letter) distance old before edges now layer i over so_far in (
        grows_weaker (After (EdgeLeads letters distances distance letter) edges) (LeadsTo a distances distance letter p) distance old now before layer all.0 (after_leads letter),
        λ q leads. let after = leads_after letter q leads in all.1 after.0 q after.1 after.2,
      )

  -- the least letter of the edges to the distance
  pub edges_least : (i : ℕ) (o : Option ℕ) → length edges ≤ i → IsLeast (After (λ (edge : Edge L) k. EdgeGoes letters distances distance (Some k) edge) (take i edges)) o
      → IsLeast (λ k. (q : ℕ) × LeadsTo a distances distance (Some k) p q) o
  edges_least i o over so_far =
      let Goes : Edge L → ℕ → Type 0 = λ edge k. EdgeGoes letters distances distance (Some k) edge in
      least_same (After Goes edges) (λ k. (q : ℕ) × LeadsTo a distances distance (Some k) p q) o
      (λ k (edge, among, goes). (edge.to, after_leads (Some k) edge.to (edge, among, (refl, goes))))
      (λ k (q, leads). let after = leads_after (Some k) q leads in (after.0, after.1, after.2.1))
      (least_all Goes edges i o over so_far)
