use Rattle.std.proofs.Common.{map, sym}
use Rattle.rela_nfa.specs.Directing.{silent_label}
use Rattle.rela_nfa.specs.Stored.{move_of}
use Rattle.rela_nfa.proofs.InTurn.{labels_more}
use Rattle.rela_nfa.proofs.directing.add_silent.Goals as goal

pub loop-source-preserved : goal.loop-source-preserved
loop-source-preserved g c =
    let move = move_of g.L.LabelSet.letters in
    labels_more move c.args.sources.now c.loop-source.source-index c.source-item.result c.loop-source-test.true (sym c.source-item.is) (λ m. silent_label m.label)
    (map move c.args.edges.now.items) (map move c.loop-source.edges.items) _ c.args.targets.now c.loop-source.invariant c.in_ok-add_if_silent.ensures
