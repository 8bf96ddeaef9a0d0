use Rattle.std.proofs.Common.{◌<◌, ◌≤◌, Bor, List, length, map, subst}
use Rattle.rela_fib.specs.Steps.{graph_of}
use Rattle.rela_fib.specs.declared.step.Step.{Step}
use Rattle.rela_fib.proofs.drawing.few_steps.Goals as goal

pub returns-in_err-refuse_many_edges-clause-too_many : goal.returns-in_err-refuse_many_edges-clause-too_many
returns-in_err-refuse_many_edges-clause-too_many c = λ _. record {
  steps = map (λ (s : Bor Step). s.now) c.in_ok-steps.steps.items;
  steps_are = c.in_ok-steps.ensures;
  many = subst (λ (xs : List (Bor Step)). 100000 < length (graph_of (map (λ (s : Bor Step). s.now) xs)).edges) c.as_slice.ensures.value c.in_err-refuse_many_edges.ensures.many.1;
}

pub returns-clause-few : goal.returns-clause-few
returns-clause-few c =
    subst (λ (xs : List (Bor Step)). length (graph_of (map (λ (s : Bor Step). s.now) xs)).edges ≤ 100000) c.as_slice.ensures.value c.in_ok-refuse_many_edges.ensures.few
