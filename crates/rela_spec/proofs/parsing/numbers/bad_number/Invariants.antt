use Rattle.std.proofs.Common.{◌≡◌, length}
use Rattle.rela_spec.specs.Grammar.{bad_number}
use Rattle.rela_spec.proofs.parsing.numbers.bad_number.Given as goal

abbrev pub invariant-loop-others : goal.invariant-loop-others
invariant-loop-others l = bad_number l.rest ≡ bad_number l.fn.tokens

abbrev pub decreases-loop-others : goal.decreases-loop-others
decreases-loop-others l = length l.rest
