use Rattle.std.proofs.Common.{◌≤◌, codes, length, arith}
use Rattle.rela_snapshot.proofs.PlainLaws.{edges_kept, found_is}
use Rattle.rela_snapshot.proofs.plain_graph.edges_in.Goals as goal

pub returns-clause-edges : goal.returns-clause-edges
returns-clause-edges c =
    let few : length c.in_ok-pairs.pairs.now ≤ 100000 = omega arith in
    edges_kept _ _ _ _ (λ edges. edges.items) _ (found_is (codes "edges") c.args.members.now _ _ _ c.find.ensures.found c.in_ok-ok_or.ensures.ok_part c.in_ok-pairs.ensures.pairs) few c.links_of.ensures.edges
