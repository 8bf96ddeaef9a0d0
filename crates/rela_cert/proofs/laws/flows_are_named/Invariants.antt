use Rattle.std.proofs.Common.{take}
use Rattle.std.specs.List.{All}
use Rattle.rela_names.specs.Name.{IsName}
use Rattle.rela_cert.proofs.laws.flows_are_named.Given as goal

abbrev pub invariant-loop-pair : goal.invariant-loop-pair
invariant-loop-pair l = All (λ pair. IsName pair.class.name) (take l.pair-index l.pairs)
