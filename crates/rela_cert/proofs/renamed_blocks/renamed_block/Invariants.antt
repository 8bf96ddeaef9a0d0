use Rattle.std.proofs.Common.{◌≡◌, map, take}
use Rattle.rela_shape.specs.Shape.{places_of}
use Rattle.rela_cert.specs.RenamedBlocks.{renamed_step}
use Rattle.rela_cert.proofs.renamed_blocks.renamed_block.Given as goal

abbrev pub invariant-loop-step : goal.invariant-loop-step
invariant-loop-step l = l.renamed.items ≡ map (renamed_step l.blocks (places_of l.fn.level l.fn.pair)) (take l.step-index l.steps)
