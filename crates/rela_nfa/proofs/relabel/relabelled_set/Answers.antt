use Rattle.std.proofs.Common.{arith}
use Rattle.rela_nfa.proofs.Relabelled.{set_relabelled}
use Rattle.rela_nfa.proofs.relabel.relabelled_set.Goals as goal

pub returns : goal.returns
returns g c =
    set_relabelled (g.L.LabelSet.letters c.args.set.now) (g.M.LabelSet.letters c.loop-block.new) c.args.parents.now c.loop-block.block (omega (arith, c.loop-block-test.false))
    c.loop-block.invariant.size c.loop-block.invariant.done
