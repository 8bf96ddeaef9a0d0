use Rattle.std.proofs.Common.{ap, map, ◌∙◌}
use Rattle.rela_nfa.specs.Stored.{move_of}
use Rattle.rela_subset.proofs.OutOfSets.{none_held}
use Rattle.rela_subset.proofs.outgoing.Outgoing.gather.Goals as goal

pub invariant_of-self : goal.invariant_of-self
invariant_of-self g c = (
  none_held c.self.inside.a.now c.self.invariant.0.automaton c.replace-singles.new.dest.items (map (λ edge. move_of g.L.LabelSet.letters edge.now) c.replace-others.new.dest.items)
      (ap (λ v. v.items) c.replace-singles.ensures.after ∙ c.new.ensures.items)
      (ap (λ v. map (λ edge. move_of g.L.LabelSet.letters edge.now) v.items) c.replace-others.ensures.after ∙ ap (map (λ edge. move_of g.L.LabelSet.letters edge.now)) c.new-2.ensures.items),
  c.self.invariant.1,
)
