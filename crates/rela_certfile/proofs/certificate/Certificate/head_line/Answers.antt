use Rattle.std.proofs.Common.{arith}
use Rattle.rela_certfile.proofs.Lookups.{line_found, start_there, seen}
use Rattle.rela_certfile.proofs.certificate.Certificate.head_line.Goals as goal

pub index-steps-requires : goal.index-steps-requires
index-steps-requires c =
    omega (
      arith,
      c.self.inside.starts.ok.0,
      start_there c.args.self.now _ _ _ _ c.args.row c.args.block c.number-number.result (seen _ _ _ _ _ c.self.view_is c.self.invariant) c.requires c.number-number.ensures,
    )

pub overflow_add-result : goal.overflow_add-result
overflow_add-result c =
    omega (
      arith,
      (line_found c.args.self.now _ _ _ _ c.args.row c.args.block c.number-number.result c.index-steps.result.now
          (seen _ _ _ _ _ c.self.view_is c.self.invariant) c.requires c.number-number.ensures c.index-steps.ensures).1,
    )

pub overflow_add-result-2 : goal.overflow_add-result-2
overflow_add-result-2 c =
    omega (
      arith,
      (line_found c.args.self.now _ _ _ _ c.args.row c.args.block c.number-number.result c.index-steps.result.now
          (seen _ _ _ _ _ c.self.view_is c.self.invariant) c.requires c.number-number.ensures c.index-steps.ensures).1,
    )

pub overflow_add-result-3 : goal.overflow_add-result-3
overflow_add-result-3 c =
    omega (
      arith,
      (line_found c.args.self.now _ _ _ _ c.args.row c.args.block c.number-number.result c.index-steps.result.now
          (seen _ _ _ _ _ c.self.view_is c.self.invariant) c.requires c.number-number.ensures c.index-steps.ensures).1,
    )

pub overflow_cast-result : goal.overflow_cast-result
overflow_cast-result c =
    omega (
      arith,
      (line_found c.args.self.now _ _ _ _ c.args.row c.args.block c.number-number.result c.index-steps.result.now
          (seen _ _ _ _ _ c.self.view_is c.self.invariant) c.requires c.number-number.ensures c.index-steps.ensures).1,
    )

pub returns : goal.returns
returns c =
    (line_found c.args.self.now _ _ _ _ c.args.row c.args.block c.number-number.result c.index-steps.result.now
    (seen _ _ _ _ _ c.self.view_is c.self.invariant) c.requires c.number-number.ensures c.index-steps.ensures).0
