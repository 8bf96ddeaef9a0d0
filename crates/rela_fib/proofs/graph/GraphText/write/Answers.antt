use Rattle.std.proofs.Common.{◌≡◌, ◌∙◌, ◌++◌, Bor, ap, arith, ℕ, List, length, map, take}
use Rattle.std.proofs.lemmas.List.{length-map, length-take}
use Rattle.rela_fib.specs.Graph.{edges_to}
use Rattle.rela_fib.specs.Text.{edge_data}
use Rattle.rela_fib.specs.Writing.{entries_text}
use Rattle.rela_fib.specs.declared.step.Step.{Step}
use Rattle.rela_fib.proofs.Arrays.{text_more}
use Rattle.rela_fib.proofs.Steps.{seen_more}
use Rattle.rela_fib.proofs.graph.GraphText.write.Goals as goal

pub loop-place-preserved : goal.loop-place-preserved
loop-place-preserved c =
    let k = c.loop-place.place in
    let steps = c.args.steps.now in
    let taken = map (λ (s : Bor Step). s.now) (take k steps) in
    let more = seen_more (λ (s : Bor Step). s.now) steps k c.index-steps-place.result c.loop-place-test.true c.index-steps-place.is in
    let at : k ≡ length taken = omega (arith, c.loop-place-test.true, length-map (take k steps) (λ (s : Bor Step). s.now), length-take k steps) in
    let edges = c.in_ok-push_edges.ensures ∙ ap (λ (ns : List ℕ). c.loop-place.self.edges.items ++ entries_text edge_data (edges_to k ns)) c.as_slice.ensures in
    text_more c.loop-place.self _ taken _ c.index-steps-place.result.now k more at edges c.in_ok-push_if.ensures c.in_ok-push_if-2.ensures c.loop-place.invariant
