use Rattle.rela_reduce.specs.Stored.{lists_of}
use Rattle.rela_reduce.proofs.Lowering.{adds_lower}
use Rattle.rela_reduce.proofs.widening.add_lower.Goals as goal

pub returns : goal.returns
returns c =
    adds_lower (lists_of c.args.relation.now) c.args.states c.args.p c.args.earlier.now c.add_earlier.new.covered c.args.list.now.items c.add_earlier.new.list.items c.add_others.new.list.items
    c.in_ok-add_earlier.ensures.lowered c.in_ok-add_others.ensures.lowered c.in_ok-add_earlier.ensures.covered c.in_ok-add_others.ensures.leads
