use Rattle.std.proofs.Common.{◌≡◌, Err, refl, arith}
use Rattle.rela_snapshot.proofs.FlowLaws.{named_no_dst, named_no_src, named_read, no_class, no_graph, listed_flow, whole}
use Rattle.rela_snapshot.proofs.walk.read_flow_named.Goals as goal

pub returns-in_err-dst-clause-fault : goal.returns-in_err-dst-clause-fault
returns-in_err-dst-clause-fault c =
    let is : c.from_residual.result ≡ Err c.in_err-dst.field-0.0 = grind arith in
    rw is (λ no. named_no_dst _ _ _ _ _ _ c.in_err-dst.ensures)

pub returns-in_err-src-clause-fault : goal.returns-in_err-src-clause-fault
returns-in_err-src-clause-fault c =
    let is : c.from_residual-in_err-src.result ≡ Err c.in_err-src.field-0.0 = grind arith in
    rw is (λ no. named_no_src _ _ _ _ _ _ _ c.in_ok-dst.ensures c.in_err-src.ensures)

pub returns-in_err-class-clause-fault : goal.returns-in_err-class-clause-fault
returns-in_err-class-clause-fault c =
    let is : c.from_residual-in_err-class.result ≡ Err c.in_err-class.field-0.0 = grind arith in
    rw is (λ no. named_read _ _ _ _ _ _ _ _ c.in_ok-dst.ensures c.in_ok-src.ensures (no_class _ _ _ _ _ _ _ _ _ c.flow_rules.ensures (c.in_err-class.ensures.fault no)))

pub returns-in_err-graph-clause-fault : goal.returns-in_err-graph-clause-fault
returns-in_err-graph-clause-fault c =
    let is : c.from_residual-in_err-graph.result ≡ Err c.in_err-graph.field-0.0 = grind arith in
    rw is (λ no. named_read _ _ _ _ _ _ _ _ c.in_ok-dst.ensures c.in_ok-src.ensures (no_graph _ _ _ _ _ _ _ _ _ _ c.flow_rules.ensures c.in_ok-class.ensures.class (c.in_err-graph.ensures.fault no)))

pub returns-clause-flow : goal.returns-clause-flow
returns-clause-flow c =
    let graph = c.in_ok-graph.ensures.graph in (
      listed_flow c.args.name c.in_ok-dst.dst c.in_ok-src.src c.in_ok-class.class graph.0,
      named_read _ _ _ _ _ _ _ _ c.in_ok-dst.ensures c.in_ok-src.ensures (whole _ _ _ _ _ _ _ _ _ _ c.flow_rules.ensures c.in_ok-class.ensures.class graph.1),
      record { class = refl; graph = graph.2 },
    )
