use Rattle.std.proofs.Common.{◌∙◌, arith}
use Rattle.rela_restriction.proofs.ActLetters.{each_between, none_between, one_between}
use Rattle.rela_restriction.proofs.letters.letters_between.Goals as goal

pub loop-letter-init : goal.loop-letter-init
loop-letter-init g c = record {
  size = c.in_ok-set.ensures.size;
  all = λ k above below. absurd (omega (arith, above, below));
  only = none_between c.args.from c.args.to (g.L.LabelSet.letters c.in_ok-set.set) c.in_ok-set.ensures.empty;
}

pub loop-letter-preserved : goal.loop-letter-preserved
loop-letter-preserved g c =
    let old = g.L.LabelSet.letters c.loop-letter.set in
    let new = g.L.LabelSet.letters c.add.new.self in
    record {
      size = c.in_ok-add.ensures.size ∙ c.loop-letter.invariant.size;
      all = each_between c.args.from c.loop-letter.letter old new c.loop-letter.invariant.all c.in_ok-add.ensures.added c.in_ok-add.ensures.others;
      only = one_between c.args.from c.args.to c.loop-letter.letter old new c.loop-letter.auto.letter c.loop-letter-test.true c.loop-letter.invariant.only
          c.in_ok-add.ensures.others;
    }
