use Rattle.std.proofs.Common.{◌≡◌, map, take}
use Rattle.rela_nfa.specs.Stored.{move_of}
use Rattle.rela_graph.specs.Lettering.{link_move}
use Rattle.rela_graph.proofs.letters.Letters.add_along.Given as goal

abbrev pub invariant-loop-link : goal.invariant-loop-link
invariant-loop-link g l = map (move_of g.L.LabelSet.letters) l.edges.items ≡ map (link_move l.self) (take l.link-index l.links)
