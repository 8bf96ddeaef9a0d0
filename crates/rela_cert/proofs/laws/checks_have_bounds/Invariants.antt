use Rattle.std.proofs.Common.{length, take}
use Rattle.std.specs.List.{All}
use Rattle.rela_certfile.specs.Layout.{HasBounds}
use Rattle.rela_names.specs.Name.{IsName}
use Rattle.rela_cert.specs.Subject.{shape_of}
use Rattle.rela_cert.proofs.laws.checks_have_bounds.Given as goal

abbrev pub invariant-loop-check : goal.invariant-loop-check
invariant-loop-check l =
    All (λ check. IsName check.name × HasBounds (shape_of (length l.alphabet) check)) (take l.check-index l.checks)
