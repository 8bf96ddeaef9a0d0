use Rattle.std.proofs.Common.{eqb, sym, subst}
use Rattle.std.specs.List.{Contains}
use Rattle.std.specs.List.Sorted.{IsStrictlyIncreasing}
use Rattle.std.proofs.lemmas.List.Filters.{dedup_is}
use Rattle.std.proofs.lemmas.List.Kept.{Contains-dedup_nat, Contains-from_dedup}
use Rattle.std.proofs.lemmas.List.Sorted.{Contains-permutation, IsPermutation-sym}
use Rattle.std.proofs.lemmas.Map.Keys.{IsStrictlyIncreasing-dedup}
use Rattle.rela_fib.proofs.numbers.ascending.Goals as goal

pub returns-clause-rising : goal.returns-clause-rising
returns-clause-rising c =
    let kept = dedup_is eqb c.sort_unstable.new.self.items c.dedup.new.self.items c.dedup.ensures.filtered in
    subst IsStrictlyIncreasing (sym kept) (IsStrictlyIncreasing-dedup c.sort_unstable.new.self.items c.sort_unstable.ensures.sorted)

pub returns-clause-same : goal.returns-clause-same
returns-clause-same c = λ n.
    let kept = dedup_is eqb c.sort_unstable.new.self.items c.dedup.new.self.items c.dedup.ensures.filtered in (
      λ has. Contains-permutation c.sort_unstable.new.self.items c.args.numbers.items n (IsPermutation-sym _ _ c.sort_unstable.ensures.permutation) (Contains-from_dedup eqb c.sort_unstable.new.self.items n (subst (λ ns. Contains ns n) kept has)),
      λ has. subst (λ ns. Contains ns n) (sym kept) (Contains-dedup_nat c.sort_unstable.new.self.items n (Contains-permutation c.args.numbers.items c.sort_unstable.new.self.items n c.sort_unstable.ensures.permutation has)),
    )
