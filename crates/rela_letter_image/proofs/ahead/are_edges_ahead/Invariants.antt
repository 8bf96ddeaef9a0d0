use Rattle.std.proofs.Common.{take}
use Rattle.std.specs.List.{All}
use Rattle.rela_letter_image.specs.Coarse.{coarse_of}
use Rattle.rela_letter_image.specs.Needs.{IsEdgeAhead}
use Rattle.rela_letter_image.proofs.ahead.are_edges_ahead.Given as goal

abbrev pub invariant-loop-edge : goal.invariant-loop-edge
invariant-loop-edge l = All (IsEdgeAhead (coarse_of l.letters l.coarse) l.ahead l.here) (take l.edge-index l.edges)
