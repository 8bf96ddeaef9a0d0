use Rattle.std.proofs.Common.{take}
use Rattle.std.specs.List.{All}
use Rattle.rela_names.specs.Name.{IsName}
use Rattle.rela_certfile.specs.Layout.{HasBounds}
use Rattle.rela_certfile.proofs.layout.are_shapes.Given as goal

abbrev pub invariant-loop-check : goal.invariant-loop-check
invariant-loop-check l =
    All (λ check. IsName check.name × HasBounds check) (take l.check-index l.checks)
