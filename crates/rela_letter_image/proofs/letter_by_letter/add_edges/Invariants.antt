use Rattle.std.proofs.Common.{map, take}
use Rattle.rela_nfa.specs.Stored.{move_of}
use Rattle.rela_letter_image.specs.ByLetters.{AddsMoves}
use Rattle.rela_letter_image.proofs.letter_by_letter.add_edges.Given as goal

abbrev pub invariant-loop-edge : goal.invariant-loop-edge
invariant-loop-edge g l = AddsMoves (map (move_of g.L.LabelSet.letters) (take l.edge-index l.edges)) l.fn.builder.parts l.builder.parts
