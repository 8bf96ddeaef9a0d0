use Rattle.std.proofs.Common.{ℕ, List, IfNone, IfOk, IfSome, subst}
use Rattle.rela_letter_nfa.specs.Differences.{IsAgreed, IsOnSide}
use Rattle.rela_letter_nfa.specs.Pair.{Pair}
use Rattle.rela_letter_nfa.specs.Runs.{Accepts}
use Rattle.rela_letter_nfa.proofs.comparison.first_difference.Goals as goal

pub returns-clause-none : goal.returns-clause-none
returns-clause-none c =
    subst (λ (pair : Pair). IfOk c.difference_of.result (λ found. IfNone found ((word : List ℕ) → IsAgreed c.args.sought (Accepts pair.first word) (Accepts pair.second word)))) c.new-both.ensures.both
    c.difference_of.ensures.none

pub returns-clause-side : goal.returns-clause-side
returns-clause-side c =
    subst (λ (pair : Pair). IfOk c.difference_of.result (λ found. IfSome found (λ difference. IsOnSide pair.first pair.second difference.word difference.side))) c.new-both.ensures.both
    c.difference_of.ensures.side
