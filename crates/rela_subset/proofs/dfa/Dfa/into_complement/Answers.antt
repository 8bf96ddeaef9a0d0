use Rattle.std.proofs.Common.{map, not, ap, subst, ◌∙◌}
use Rattle.rela_subset.specs.Deterministic.{IsDeterministic}
use Rattle.rela_subset.proofs.Words.{opposite_accepts}
use Rattle.rela_subset.proofs.dfa.Dfa.into_complement.Goals as goal

pub returns-clause-language : goal.returns-clause-language
returns-clause-language g c =
    opposite_accepts c.args.self c.new.result (subst IsDeterministic c.self.view_is c.self.invariant)
    (ap (λ d. d.over) c.new.ensures ∙ ap (λ d. d.over) c.self.view_is)
    (ap (λ d. d.start) c.new.ensures ∙ ap (λ d. d.start) c.self.view_is)
    (ap (λ d. d.edges) c.new.ensures ∙ ap (λ d. d.edges) c.self.view_is)
    (ap (λ d. d.finals) c.new.ensures ∙ c.in_ok-finals.ensures ∙ ap (map not) c.deref.ensures.value ∙ ap (λ d. map not d.finals) c.self.view_is)
