use Rattle.std.proofs.Common.{◌<◌, length, ap, arith}
use Rattle.rela_certfile.proofs.ItemLines.{titled}
use Rattle.rela_certfile.proofs.layout.PlanLayout.place_after.Goals as goal

pub prove-unreachable-requires : goal.prove-unreachable-requires
prove-unreachable-requires c =
    let inside : c.args.place < length c.args.self.now.planned = (titled c.args.self.now c.args.place c.requires).inside in
    omega (arith, inside, c.if-prove.true, ap length c.planned.ensures)
