use Rattle.std.proofs.Common.{refl}
use Rattle.rela_snapshot.proofs.FlowLaws.{named_read, listed_flow, whole}
use Rattle.rela_snapshot.proofs.plain_flow.flow_named.Goals as goal

pub returns-clause-flow : goal.returns-clause-flow
returns-clause-flow c =
    let graph = c.in_ok-graph.ensures.graph in (
      listed_flow c.args.name c.in_ok-dst.dst c.in_ok-src.src c.in_ok-class.class graph.0,
      named_read _ _ _ _ _ _ _ _ c.in_ok-dst.ensures c.in_ok-src.ensures (whole _ _ _ _ _ _ _ _ _ _ refl c.in_ok-class.ensures graph.1),
      record { class = refl; graph = graph.2 },
    )
