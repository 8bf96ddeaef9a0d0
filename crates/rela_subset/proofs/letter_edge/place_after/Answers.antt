use Rattle.std.proofs.Common.{rules}
use Rattle.std.proofs.lemmas.Bool.{leb-true, leb-false}
use Rattle.std.proofs.lemmas.List.Sorted.{IsPartitionedBy-leb, IsPartitionPoint-from_clause}
use lib.Dec.{leb}
use Rattle.rela_subset.proofs.letter_edge.place_after.Goals as goal

pub returns-clause-parted : goal.returns-clause-parted
returns-clause-parted c =
    let parted =
    IsPartitionPoint-from_clause (λ edge. leb edge.letter c.args.letter) c.args.edges.now c.partition_point.result c.partition_point.ensures.partitioned
    (IsPartitionedBy-leb (λ edge. edge.letter) c.args.edges.now c.args.letter c.requires) (λ a r f called. search rules) in (
      λ k d low high. leb-true _ c.args.letter (parted.0 k d low high),
      λ k d low high. leb-false _ c.args.letter (parted.1 k d low high),
    )
