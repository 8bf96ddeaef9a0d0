use Rattle.std.proofs.Common.{◌<◌, length, ◌∙◌, arith}
use Rattle.rela_letter_nfa.proofs.search.search_on.Goals as goal

pub loop-number-preserved : goal.loop-number-preserved
loop-number-preserved c =
    let at = c.loop-number.invariant in
    let within : c.loop-number.number < length c.loop-number.sets = omega (arith, c.loop-number-test.true, c.len.ensures.len) in
    record {
      few = c.in_ok-found.ensures.few c.if-found.false;
      upto = omega (arith, within, c.in_ok-found.ensures.longer);
      unwanted = c.in_ok-found.ensures.unwanted c.if-found.false;
      count = c.in_ok-found.ensures.count ∙ at.count;
      searched = c.in_ok-found.ensures.searched c.if-found.false;
    }
