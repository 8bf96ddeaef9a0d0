use Rattle.std.proofs.Common.{◌≡◌, take}
use Rattle.rela_reduce.specs.Numbered.{edges_by}
use Rattle.rela_reduce.specs.Stored.{lists_of}
use Rattle.rela_reduce.proofs.edges.edge_lists.Given as goal

abbrev pub invariant-loop-arrows : goal.invariant-loop-arrows
invariant-loop-arrows g l = l.edges ≡ edges_by l.labels (lists_of (take l.arrows-index l.lists))
