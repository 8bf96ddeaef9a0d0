use Rattle.std.proofs.Common.{List, None, ap, arith, length}
use Rattle.std.proofs.lemmas.List.{length_push}
use Rattle.rela_letter_image.proofs.Passing.{alone_empty, alone_more}
use Rattle.rela_letter_image.proofs.branches.each_alone.Goals as goal

pub loop-kept-init : goal.loop-kept-init
loop-kept-init c = record {
  within = omega (arith, ap (λ (l : List _). length l) c.in_ok-kept.ensures.items);
  alone = alone_empty c.in_ok-kept.kept.items c.in_ok-kept.ensures.items;
}

pub loop-kept-preserved : goal.loop-kept-preserved
loop-kept-preserved c = record {
  within = omega (arith, ap (λ (l : List _). length l) c.in_ok-push.ensures.items, length_push c.loop-kept.kept.items None, c.loop-kept-test.true, c.len.ensures);
  alone = alone_more c.loop-kept.kept.items c.push.new.self.items c.in_ok-push.ensures.items c.loop-kept.invariant.alone;
}
