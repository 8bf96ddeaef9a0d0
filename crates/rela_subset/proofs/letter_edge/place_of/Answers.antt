use Rattle.std.proofs.Common.{rules}
use Rattle.std.specs.Prelude.{nat_lt}
use Rattle.std.proofs.lemmas.Bool.{ltb-true, ltb-false}
use Rattle.std.proofs.lemmas.List.Sorted.{IsPartitionedBy-ltb, IsPartitionPoint-from_clause}
use Rattle.rela_subset.proofs.letter_edge.place_of.Goals as goal

pub returns-clause-parted : goal.returns-clause-parted
returns-clause-parted c =
    let parted =
    IsPartitionPoint-from_clause (λ edge. nat_lt edge.letter c.args.letter) c.args.edges.now c.partition_point.result c.partition_point.ensures.partitioned
    (IsPartitionedBy-ltb (λ edge. edge.letter) c.args.edges.now c.args.letter c.requires) (λ a r f called. search rules) in (
      λ k d low high. ltb-true _ c.args.letter (parted.0 k d low high),
      λ k d low high. ltb-false _ c.args.letter (parted.1 k d low high),
    )
