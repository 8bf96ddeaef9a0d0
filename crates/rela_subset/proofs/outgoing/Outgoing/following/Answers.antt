use Rattle.std.proofs.Common.{arith, Bor, ℕ, ◌↔◌, ◌<◌, List, Some, map, sym, ap, ◌∙◌, subst}
use Rattle.std.specs.List.{All}
use Rattle.rela_nfa.specs.Automaton.{states}
use Rattle.rela_nfa.specs.Runs.{StepIn}
use Rattle.rela_nfa.specs.StateSet.{Adds, Lists}
use Rattle.rela_nfa.specs.Stored.{move_of}
use Rattle.rela_nfa.specs.declared.edge.Edge.{Edge}
use Rattle.rela_subset.specs.Outgoing.{AreSortedOut, HasEnd, moves_from, Sorted}
use Rattle.rela_subset.specs.Sets.{NextFrom}
use Rattle.rela_subset.specs.declared.letter_edge.LetterEdge.{LetterEdge}
use Rattle.rela_subset.proofs.OutOfSets.{ends_below, followers, run_leads}
use Rattle.rela_subset.proofs.Silents.{silently_as}
use Rattle.rela_subset.proofs.outgoing.Outgoing.following.Goals as goal

pub insert_singles-requires : goal.insert_singles-requires
insert_singles-requires g c =
    subst (λ n. All (λ edge. edge.to < n) c.edges_by.result.now)
    (ap (λ (s : Sorted). states s.automaton) c.self.view_is ∙ sym c.requires.count ∙ sym c.clear.ensures.count)
    (run_leads (states c.self.inside.a.now) c.args.letter c.self.inside.singles.items c.edges_by.result.now c.self.invariant.0.lead
    (subst (λ (es : List LetterEdge). (q : ℕ) → HasEnd es c.args.letter q ↔ ((k : ℕ) × HasEnd c.edges_by.result.now k q)) c.deref.ensures.value c.edges_by.ensures))

pub insert_others-requires : goal.insert_others-requires
insert_others-requires g c =
    ends_below g.L.LabelSet.letters c.self.inside.others.items c.deref-2.result.now c.self.inside.a.now.letters (states c.self.inside.a.now) c.deref-2.ensures.value c.self.invariant.0.moves
    c.insert_singles.new.visited.count
    (ap (λ (s : Sorted). states s.automaton) c.self.view_is ∙ sym c.requires.count ∙ sym c.clear.ensures.count ∙ sym c.in_ok-insert_singles.ensures.count)

pub close-requires-clause-states : goal.close-requires-clause-states
close-requires-clause-states g c =
    subst (λ n. All (λ q. q < n) c.insert_others.new.visited.states)
    (c.in_ok-insert_others.ensures.count ∙ c.in_ok-insert_singles.ensures.count ∙ c.clear.ensures.count ∙ c.requires.count ∙ sym (ap (λ (s : Sorted). states s.automaton) c.self.view_is)
    ∙ sym c.self.invariant.1.count)
    c.states.ensures.below

pub close-requires-clause-room : goal.close-requires-clause-room
close-requires-clause-room g c =
    omega (
      arith,
      c.in_ok-insert_others.ensures.count,
      c.in_ok-insert_singles.ensures.count,
      c.clear.ensures.count,
      c.requires.count,
      ap (λ (s : Sorted). states s.automaton) c.self.view_is,
      c.self.invariant.1.count,
    )

pub returns-clause-following : goal.returns-clause-following
returns-clause-following g c =
    let letters = g.L.LabelSet.letters in
    subst (λ (s : Sorted). (set : List ℕ) → AreSortedOut (moves_from s.automaton set) s.singles s.others → Lists (NextFrom s.automaton set c.args.letter) c.sort.new.self.states) c.self.view_is
    (λ set sorted.
    followers c.self.inside.a.now set c.args.letter c.self.inside.singles.items c.edges_by.result.now (map (λ edge. move_of letters edge.now) c.self.inside.others.items)
    c.clear.new.self.states c.insert_singles.new.visited.states c.insert_others.new.visited.states c.close.new.set.states c.sort.new.self.states c.clear.ensures.empty
    (subst (λ (es : List LetterEdge). (q : ℕ) → HasEnd es c.args.letter q ↔ ((k : ℕ) × HasEnd c.edges_by.result.now k q)) c.deref.ensures.value c.edges_by.ensures)
    c.in_ok-insert_singles.ensures.adds
    (subst (λ (es : List (Bor (Edge g.row.L.Denot))). Adds (StepIn (map (λ edge. move_of letters edge.now) es) (Some c.args.letter)) c.insert_singles.new.visited.states c.insert_others.new.visited.states)
    c.deref-2.ensures.value c.in_ok-insert_others.ensures.adds)
    (λ q.
    let leads = silently_as c.self.inside.a.now c.self.inside.silent.now c.self.invariant.1 c.insert_others.new.visited.states q in
    let closed = c.in_ok-close.ensures.silently q in
    (λ among. leads.0 (closed.0 among), λ led. closed.1 (leads.1 led))) c.sort.ensures.sorted sorted)
