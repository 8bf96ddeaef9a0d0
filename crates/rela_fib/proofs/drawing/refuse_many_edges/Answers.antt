use Rattle.std.proofs.Common.{◌∙◌, Bor, length, ltb-true, map, refl, sym}
use Rattle.rela_fib.specs.Steps.{graph_of}
use Rattle.rela_fib.specs.declared.step.Step.{Step}
use Rattle.rela_fib.proofs.Chains.{are_few}
use Rattle.rela_fib.proofs.drawing.refuse_many_edges.Goals as goal

pub returns-then-has_many_edges-clause-many : goal.returns-then-has_many_edges-clause-many
returns-then-has_many_edges-clause-many c =
    (refl, ltb-true 100000 (length (graph_of (map (λ (s : Bor Step). s.now) c.args.steps.now)).edges) (sym c.has_many_edges.ensures ∙ c.if-has_many_edges.true))

pub returns-clause-few : goal.returns-clause-few
returns-clause-few c = are_few (map (λ (s : Bor Step). s.now) c.args.steps.now) (sym c.has_many_edges.ensures ∙ c.if-has_many_edges.false)
