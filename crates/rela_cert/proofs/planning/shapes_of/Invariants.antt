use Rattle.std.proofs.Common.{◌≡◌, length, map, take}
use Rattle.rela_cert.specs.Subject.{shape_of}
use Rattle.rela_cert.proofs.planning.shapes_of.Given as goal

-- what the checks so far ask
abbrev pub invariant-loop-check : goal.invariant-loop-check
invariant-loop-check l = l.shapes.items ≡ map (shape_of (length l.alphabet)) (take l.check-index l.checks)
