use Rattle.std.proofs.Common.{◌≡◌, ◌+◌, ◌^◌, ◌<◌, length, take, ap, arith}
use Rattle.rela_certfile.specs.Held.{all_blocks}
use Rattle.rela_certfile.proofs.Lookups.{number_found, row_there, seen}
use Rattle.rela_certfile.proofs.certificate.Certificate.number.Goals as goal

pub index-requires : goal.index-requires
index-requires c =
    omega (
      arith,
      c.self.inside.firsts.ok.0,
      row_there c.args.self.now _ _ _ _ c.args.row c.args.block (seen _ _ _ _ _ c.self.view_is c.self.invariant) c.requires,
    )

pub overflow_add-result : goal.overflow_add-result
overflow_add-result c =
    let found : (c.index.result.now ≡ length (all_blocks (take c.args.row c.args.self.now))) × (c.index.result.now + c.args.block < 2 ^ 32) =
    number_found c.args.self.now _ _ _ _ c.args.row c.args.block c.index.result.now (seen _ _ _ _ _ c.self.view_is c.self.invariant) c.requires c.index.ensures in
    omega arith

pub returns : goal.returns
returns c =
    let found : (c.index.result.now ≡ length (all_blocks (take c.args.row c.args.self.now))) × (c.index.result.now + c.args.block < 2 ^ 32) =
    number_found c.args.self.now _ _ _ _ c.args.row c.args.block c.index.result.now (seen _ _ _ _ _ c.self.view_is c.self.invariant) c.requires c.index.ensures in
    ap (λ n. n + c.args.block) found.0
