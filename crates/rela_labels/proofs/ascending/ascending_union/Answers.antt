use Rattle.std.proofs.Common.{eqb, ap, ◌++◌, ◌∙◌}
use Rattle.std.proofs.lemmas.List.Filters.{dedup_is}
use Rattle.rela_labels.proofs.AscendingLists.{union_ascending, union_members}
use Rattle.rela_labels.proofs.ascending.ascending_union.Goals as goal

pub returns-clause-ascending : goal.returns-clause-ascending
returns-clause-ascending c = union_ascending _ _ c.sort_unstable.ensures.sorted (dedup_is eqb _ _ c.dedup.ensures.filtered)

pub returns-clause-members : goal.returns-clause-members
returns-clause-members c =
    union_members c.args.first.now c.args.second.now _ _ _
    (c.in_ok-extend_from_slice.ensures.items ∙ ap (λ xs. xs ++ c.args.second.now) c.in_ok-all.ensures.items)
    c.sort_unstable.ensures.permutation (dedup_is eqb _ _ c.dedup.ensures.filtered)
