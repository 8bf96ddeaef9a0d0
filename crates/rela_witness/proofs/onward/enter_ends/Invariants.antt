use Rattle.rela_witness.proofs.Growing.{Passing}
use Rattle.rela_witness.proofs.Leading.{EdgeLeads}
use Rattle.rela_witness.proofs.onward.enter_ends.Given as goal

abbrev pub invariant-loop-edge : goal.invariant-loop-edge
invariant-loop-edge g l =
    Passing (EdgeLeads g.L.LabelSet.letters l.distances l.distance l.letter) l.distance l.fn.numbers.items l.numbers.items l.fn.layer.items l.layer.items l.edge-items l.edge-index
