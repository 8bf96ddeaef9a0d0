use Rattle.std.proofs.Common.{Option, subst}
use Rattle.rela_engine.specs.Compilation.{AreRelations, Relations}
use Rattle.rela_engine.proofs.compiled.differing_of.Goals as goal

pub sides_differ-requires : goal.sides_differ-requires
sides_differ-requires c =
    subst (λ (o : Option Relations). AreRelations (record { check = c.args.check.now; locations = c.args.locations; states = c.args.states; blocks = c.args.blocks.now; relations = o }) c.in-Some.relations)
    c.in-Some.is (c.requires.made c.in-Some.relations c.in-Some.is)
