use Rattle.std.proofs.Common.{◌≡◌, map, take}
use Rattle.rela_cert.proofs.planning.names_of.Given as goal

-- the names of the flows so far
abbrev pub invariant-loop-pair : goal.invariant-loop-pair
invariant-loop-pair l = map (λ name. name.now) l.names.items ≡ map (λ pair. pair.class.name) (take l.pair-index l.pairs)
