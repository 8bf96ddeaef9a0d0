use Rattle.std.proofs.lemmas.List.Sorted.{Contains-permutation, IsPermutation-sym}
use Rattle.rela_reduce.proofs.ranking.ranking.Goals as goal

pub returns-clause-below : goal.returns-clause-below
returns-clause-below c = λ r listed.
    c.in_ok-order.ensures.below r (Contains-permutation _ _ r (IsPermutation-sym _ _ c.sort_unstable_by_key.ensures.permutation) listed)

pub returns-clause-each : goal.returns-clause-each
returns-clause-each c = λ p below. let (r, listed, is) = c.in_ok-order.ensures.each p below in (r, Contains-permutation _ _ r c.sort_unstable_by_key.ensures.permutation listed, is)
