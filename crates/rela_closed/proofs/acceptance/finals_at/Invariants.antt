use Rattle.std.proofs.Common.{◌≡◌, false, get_or, map, take}
use Rattle.rela_closed.proofs.acceptance.finals_at.Given as goal

abbrev pub invariant-loop-number : goal.invariant-loop-number
invariant-loop-number g l = l.flags.items ≡ map (λ number. get_or l.finals.items number false) (take l.number-index l.numbers)
