use Rattle.std.proofs.Common.{leb, rules}
use Rattle.std.proofs.lemmas.Bool.{leb-true, leb-false}
use Rattle.std.proofs.lemmas.List.Sorted.{IsPartitionPoint-from_clause, IsPartitionedBy-leb}
use Rattle.rela_prefixes.specs.declared.leaf.Leaf.{Leaf}
use Rattle.rela_prefixes.proofs.table.place_after.Goals as goal

pub returns-clause-parted : goal.returns-clause-parted
returns-clause-parted c =
    let parted = IsPartitionedBy-leb (λ (l : Leaf). l.cell.address) _ c.args.address c.requires in
    let point = IsPartitionPoint-from_clause (λ (l : Leaf). leb l.cell.address c.args.address) _ _ c.partition_point.ensures.partitioned parted (λ a r q k. search rules) in
    (λ k d lo h. leb-true _ _ (point.0 k d lo h), λ k d lo h. leb-false _ _ (point.1 k d lo h))
