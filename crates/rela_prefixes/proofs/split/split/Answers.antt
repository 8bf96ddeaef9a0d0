use Rattle.std.proofs.Common.{◌≡◌, ◌∙◌, ◌<◌, ◌≤◌, ltb, refl, sym, subst}
use Rattle.std.specs.List.{All}
use Rattle.std.specs.List.Sorted.{IsPartitionPoint, IsPartitionedBy}
use Rattle.rela_prefixes.specs.declared.leaf.Numbered.{Numbered}
use Rattle.rela_prefixes.proofs.Splitting.{parted}
use Rattle.rela_prefixes.proofs.split.split.Goals as goal

pub returns : goal.returns
returns c = λ cell long mid run.
    let longer = c.split_at.result.1.now in
    parted cell c.args.inside.now c.split_at.result.0.now longer c.split_at-2.result.0.now c.split_at-2.result.1.now c.count_here.result c.count_below.result _ run c.split_at.ensures.by_index.0 c.split_at.ensures.back c.split_at-2.ensures.by_index.0
    c.split_at-2.ensures.front_len c.split_at-2.ensures.back_len
    (subst (All (λ (n : Numbered). n.prefix.length ≡ cell.length)) (sym c.split_at.ensures.front) (λ k d lt. c.count_here.ensures.same k d lt ∙ sym long))
    (λ n at same. c.count_here.ensures.stops n at (same ∙ long))
    (λ divided. subst (λ middle. IsPartitionPoint (λ (n : Numbered). n.prefix.address < middle) (λ n. middle ≤ n.prefix.address) longer c.count_below.result) (sym mid)
    (c.count_below.ensures.parted (subst (λ middle. IsPartitionedBy (λ (n : Numbered). ltb n.prefix.address middle) longer) mid divided)))
    c.last_number.ensures refl refl
