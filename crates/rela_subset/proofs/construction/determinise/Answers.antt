use Rattle.std.proofs.Common.{◌<◌, [], refl, subst, sym}
use Rattle.std.specs.List.{All}
use Rattle.std.proofs.lemmas.List.Elements.{All-from_get_or}
use Rattle.rela_nfa.specs.Automaton.{states}
use Rattle.rela_nfa.specs.Stored.{moves_in}
use Rattle.rela_subset.specs.Stored.{deterministic}
use Rattle.rela_subset.proofs.Determined.{IsDeterminised, determined, determinised}
use Rattle.rela_subset.proofs.Exploring.{explored_within}
use Rattle.rela_subset.proofs.construction.determinise.Goals as goal

pub finals-requires : goal.finals-requires
finals-requires g c =
    All-from_get_or (All (λ q. q < states c.args.a.now)) c.explore_from_start.new.sets [] (λ i below.
    explored_within c.args.a.now (g.L.LabelSet.letters c.args.over.now) c.explore_from_start.new.sets (moves_in g.L.LabelSet.letters c.in_ok-edges.edges.items)
    c.in_ok-edges.ensures.automaton c.in_ok-edges.ensures.explored i below)

pub new-dfa-requires : goal.new-dfa-requires
new-dfa-requires g c =
    determined c.shortlex_is_transitive.ensures c.args.a.now (g.L.LabelSet.letters c.args.over.now) c.explore_from_start.new.sets
    (deterministic g.L.LabelSet.letters (g.L.LabelSet.letters c.in_ok-over.over) 0 c.in_ok-finals.finals.items c.in_ok-edges.edges.items)
    c.in_ok-edges.ensures.explored c.in_ok-over.ensures.same refl c.in_ok-edges.ensures.each c.in_ok-finals.ensures.len c.in_ok-edges.ensures.distinct

module _ (g : Rattle.rela_subset.proofs.construction.determinise.Given.Over) (c : goal.After-drop-sets-inside-6 g) where
  done : IsDeterminised c.args.a.now (g.L.LabelSet.letters c.args.over.now) c.args.limit c.new-dfa.result
  done =
      subst (IsDeterminised c.args.a.now (g.L.LabelSet.letters c.args.over.now) c.args.limit) (sym c.new-dfa.ensures)
      (determinised c.shortlex_is_transitive.ensures c.args.a.now (g.L.LabelSet.letters c.args.over.now) c.explore_from_start.new.sets
      (deterministic g.L.LabelSet.letters (g.L.LabelSet.letters c.in_ok-over.over) 0 c.in_ok-finals.finals.items c.in_ok-edges.edges.items) c.args.limit
      c.in_ok-edges.ensures.explored c.in_ok-over.ensures.same refl c.in_ok-edges.ensures.each c.in_ok-finals.ensures.len c.in_ok-edges.ensures.distinct c.in_ok-edges.ensures.few
      c.in_ok-finals.ensures.each)

pub returns-clause-language : goal.returns-clause-language
returns-clause-language g c = (done g c).language

pub returns-clause-sets : goal.returns-clause-sets
returns-clause-sets g c = (done g c).same

pub returns-clause-apart : goal.returns-clause-apart
returns-clause-apart g c = (done g c).apart

pub returns-clause-reachable : goal.returns-clause-reachable
returns-clause-reachable g c = (done g c).reached

pub returns-clause-arrival : goal.returns-clause-arrival
returns-clause-arrival g c = (done g c).arrival

pub returns-clause-told_apart : goal.returns-clause-told_apart
returns-clause-told_apart g c = (done g c).few
