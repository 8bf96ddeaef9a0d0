use Rattle.std.proofs.Common.{ap}
use Rattle.std.specs.Option.{option_map}
use Rattle.rela_nfa.specs.Stored.{move_of}
use Rattle.rela_subset.proofs.Narrowing.{in_label}
use Rattle.rela_subset.proofs.alike.label_with.Goals as goal

pub returns-in-Some-clause-taken : goal.returns-in-Some-clause-taken
returns-in-Some-clause-taken g c = λ k alike.
    in_label (λ edge. move_of g.L.LabelSet.letters edge.now) c.args.edges.now c.args.letter k c.loop-edge.edge-index c.edge-item.result (g.L.LabelSet.letters c.in-Some.label.now) c.loop-edge-test.true
    c.edge-item.is (ap (option_map g.L.LabelSet.letters) c.in-Some.ensures.label) c.in-Some.ensures.has alike
