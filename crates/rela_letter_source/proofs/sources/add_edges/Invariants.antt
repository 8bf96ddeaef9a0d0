use Rattle.std.proofs.Common.{take}
use Rattle.rela_letter_image.specs.LetterMoves.{all_moves, laid}
use Rattle.rela_letter_source.specs.Growth.{Grows}
use Rattle.rela_letter_source.specs.Steps.{edge_steps}
use Rattle.rela_letter_source.proofs.sources.add_edges.Given as goal

abbrev pub invariant-loop-edge : goal.invariant-loop-edge
invariant-loop-edge l =
    Grows (edge_steps l.letters l.coarse l.next l.written (all_moves l.letters (laid l.moves)) (take l.edge-index l.edges)) l.fn.growing l.growing
