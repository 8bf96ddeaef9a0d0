use Rattle.std.proofs.Common.{arith, sym, ◌∙◌}
use Rattle.rela_letter_image.proofs.Laying.{copied_all, copied_more, copied_none}
use Rattle.rela_letter_image.proofs.laying_out.wide_copy.Goals as goal

pub loop-letter-init : goal.loop-letter-init
loop-letter-init g c = copied_none (g.M.LabelSet.letters c.args.set.now) c.in_ok-copy.copy (c.in_ok-copy.ensures.size ∙ sym c.requires) c.in_ok-copy.ensures.empty

pub add_if-requires : goal.add_if-requires
add_if-requires g c = omega (arith, c.loop-letter-test.true, c.loop-letter.invariant.size, c.requires)

pub loop-letter-preserved : goal.loop-letter-preserved
loop-letter-preserved g c =
    copied_more (g.M.LabelSet.letters c.args.set.now) c.loop-letter.letter c.contains.result c.loop-letter.copy c.add_if.new.set c.contains.ensures.has c.loop-letter.invariant c.in_ok-add_if.ensures.size
    c.in_ok-add_if.ensures.here c.in_ok-add_if.ensures.others

pub returns : goal.returns
returns g c = copied_all (g.M.LabelSet.letters c.args.set.now) c.loop-letter.copy c.loop-letter.letter (omega (arith, c.loop-letter-test.false, c.requires)) c.loop-letter.invariant
