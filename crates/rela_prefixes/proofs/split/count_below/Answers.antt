use Rattle.std.proofs.Common.{ltb, rules}
use Rattle.std.proofs.lemmas.Bool.{ltb-true, ltb-false}
use Rattle.std.proofs.lemmas.List.Sorted.{IsPartitionPoint-from_clause}
use Rattle.rela_prefixes.specs.declared.leaf.Numbered.{Numbered}
use Rattle.rela_prefixes.proofs.split.count_below.Goals as goal

pub returns-clause-parted : goal.returns-clause-parted
returns-clause-parted c = λ parted.
    let point = IsPartitionPoint-from_clause (λ (n : Numbered). ltb n.prefix.address c.args.middle) _ _ c.partition_point.ensures.partitioned parted (λ a r q k. search rules) in
    (λ k d lo h. ltb-true _ _ (point.0 k d lo h), λ k d lo h. ltb-false _ _ (point.1 k d lo h))
