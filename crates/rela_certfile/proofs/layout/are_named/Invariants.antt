use Rattle.std.proofs.Common.{take}
use Rattle.std.specs.List.{All}
use Rattle.rela_names.specs.Name.{IsName}
use Rattle.rela_certfile.proofs.layout.are_named.Given as goal

abbrev pub invariant-loop-name : goal.invariant-loop-name
invariant-loop-name l = All (λ name. IsName name.now) (take l.name-index l.flows)
