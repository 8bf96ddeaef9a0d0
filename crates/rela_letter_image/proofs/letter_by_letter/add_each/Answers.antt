use Rattle.std.proofs.Common.{arith}
use Rattle.rela_letter_image.proofs.Spelling.{letters_all, letters_more, letters_none}
use Rattle.rela_letter_image.proofs.letter_by_letter.add_each.Goals as goal

pub loop-letter-init : goal.loop-letter-init
loop-letter-init g c = letters_none (g.L.LabelSet.letters c.args.set.now) c.args.to c.args.builder.now.parts

pub loop-letter-preserved : goal.loop-letter-preserved
loop-letter-preserved g c =
    letters_more (g.L.LabelSet.letters c.args.set.now) c.args.to c.loop-letter.letter c.contains.result c.args.builder.now.parts c.loop-letter.builder.parts c.push_edge_if.new.builder.parts c.contains.ensures.has
    c.loop-letter.invariant c.in_ok-push_edge_if.ensures

pub returns : goal.returns
returns g c =
    letters_all (g.L.LabelSet.letters c.args.set.now) c.args.to c.loop-letter.letter (omega (arith, c.size-letter-end.ensures.size, c.loop-letter-test.false)) c.args.builder.now.parts c.loop-letter.builder.parts
    c.loop-letter.invariant
