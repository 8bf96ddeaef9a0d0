use Rattle.std.proofs.Common.{map, sym}
use Rattle.std.specs.Option.{option_map}
use Rattle.rela_nfa.specs.Directing.{shared_label}
use Rattle.rela_nfa.specs.Stored.{move_of}
use Rattle.rela_nfa.proofs.InTurn.{labels_more}
use Rattle.rela_nfa.proofs.meeting.add_with.Goals as goal

pub loop-second-preserved : goal.loop-second-preserved
loop-second-preserved g c =
    let letters = g.L.LabelSet.letters in
    let move = move_of letters in
    labels_more move c.args.others.now c.loop-second.second-index c.second-item.result c.loop-second-test.true (sym c.second-item.is)
    (λ n. shared_label (option_map letters c.args.first.now.label) n.label) (map move c.args.edges.now.items) (map move c.loop-second.edges.items) _ c.args.targets.now
    c.loop-second.invariant c.in_ok-add_shared.ensures
