use Rattle.std.proofs.Common.{[], ◌∷◌, ap, length, length-append, arith}
use Rattle.rela_build.proofs.ClassLetters.{one_more_class}
use Rattle.rela_build.proofs.letters.letters_of_classes.Goals as goal

pub loop-class-preserved : goal.loop-class-preserved
loop-class-preserved c = record {
  members = c.loop-class.invariant.members;
  path = c.loop-class.invariant.path;
  count = omega (arith, c.loop-class.invariant.count, ap length c.in_ok-push.ensures.items, length-append c.loop-class.sets.items (c.in_ok-letters_of_class.field-0 ∷ []));
  letters =
      one_more_class c.args.blocks.now c.args.path.now c.args.classes.now c.class-item.result c.loop-class.sets.items c.push.new.self.items c.in_ok-letters_of_class.field-0 c.loop-class.class-index
      c.loop-class.invariant.count c.class-item.is c.in_ok-push.ensures.items c.in_ok-letters_of_class.ensures c.loop-class.invariant.letters (omega arith);
}
