use Rattle.std.proofs.Common.{map, take}
use Rattle.rela_closed.specs.Listing.{TellAllFinals}
use Rattle.rela_closed.proofs.acceptance.accepting.Given as goal

abbrev pub invariant-loop-n : goal.invariant-loop-n
invariant-loop-n g l = TellAllFinals (map (λ a. a.now) (take l.n l.automata)) l.table l.numbers (map (λ flags. flags.items) l.accepted.items)
