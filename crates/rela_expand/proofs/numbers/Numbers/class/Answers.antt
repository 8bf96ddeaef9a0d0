use Rattle.rela_expand.proofs.PathUnfolding.{placed_is}
use Rattle.rela_expand.proofs.numbers.Numbers.class.Goals as goal
use Rattle.rela_expand.proofs.numbers.Numbers.class.Goals.{then-is_new, else-is_new}

pub returns-clause-placed : goal.returns-clause-placed
returns-clause-placed c =
    let is =
    placed_is c.args.self.now.classes.keys c.insert_full.new.self.keys c.args.entry c.args.self.now.markers c.in_ok-number.number
    c.in_ok-number.ensures.keys c.in_ok-number.ensures.index in
    elim c.if-is_new.branch [ then-is_new w ↦ rw w.self-is is | else-is_new w ↦ rw w.self-is is ]
