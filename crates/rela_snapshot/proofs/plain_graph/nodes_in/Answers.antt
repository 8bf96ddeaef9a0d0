use Rattle.std.proofs.Common.{◌≤◌, codes, length, arith}
use Rattle.rela_snapshot.proofs.PlainLaws.{found_is, nodes_read}
use Rattle.rela_snapshot.proofs.plain_graph.nodes_in.Goals as goal

pub returns-in-Ok-clause-nodes : goal.returns-in-Ok-clause-nodes
returns-in-Ok-clause-nodes c =
    let few : length c.in_ok-names.names.now ≤ 10000 = omega arith in
    nodes_read _ _ _ _ _ (found_is (codes "nodes") c.args.members.now _ _ _ c.find.ensures.found c.in_ok-ok_or.ensures.ok_part c.in_ok-names.ensures.texts) few c.in-Ok.ensures.nodes
