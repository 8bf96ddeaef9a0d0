use Rattle.rela_pairs.proofs.Stamps.{stamped}
use Rattle.rela_pairs.proofs.marks.Marks.mark.Goals as goal

pub returns : goal.returns
returns c = rw (← c.self.view_is) (stamped c.self.inside.stamps.items c.args.number c.self.inside.stamp)
