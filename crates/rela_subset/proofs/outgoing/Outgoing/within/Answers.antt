use Rattle.std.proofs.Common.{ap, map}
use Rattle.rela_nfa.specs.Stored.{move_of}
use Rattle.rela_subset.specs.Outgoing.{moves_from}
use Rattle.rela_subset.proofs.OutOfSets.{held, none_sorted, sorted_all, sorted_more}
use Rattle.rela_subset.proofs.SortingOut.{sorted_permuted}
use Rattle.rela_subset.proofs.outgoing.Outgoing.within.Goals as goal

pub loop-q-init : goal.loop-q-init
loop-q-init g c = none_sorted c.clear.new.self.items _ c.clear.ensures.items (ap (map (λ edge. move_of g.L.LabelSet.letters edge.now)) c.clear-2.ensures.items)

pub loop-q-preserved : goal.loop-q-preserved
loop-q-preserved g c =
    sorted_more c.args.a.now c.args.set.now c.loop-q.q-index (map (move_of g.L.LabelSet.letters) c.edges.result.now) c.sort_out.new.singles.items
    (map (λ edge. move_of g.L.LabelSet.letters edge.now) c.sort_out.new.others.items) c.loop-q-test.true c.edges.ensures.moves
    (c.in_ok-sort_out.ensures _ c.loop-q.invariant)

pub invariant_of-result : goal.invariant_of-result
invariant_of-result g c =
    let others = map (λ edge. move_of g.L.LabelSet.letters edge.now) c.loop-q.others.items in
    let singles = c.sorted_by_letter-singles.result.items in (
      held c.args.a.now c.requires.automaton c.args.set.now c.requires.states singles others
          (sorted_permuted (moves_from c.args.a.now c.args.set.now) c.loop-q.singles.items singles others c.sorted_by_letter-singles.ensures.same
          (sorted_all c.args.a.now c.args.set.now c.loop-q.q-index c.loop-q.singles.items others c.loop-q-test.false c.loop-q.invariant))
          c.sorted_by_letter-singles.ensures.rising,
      c.requires.silent,
    )

pub returns-clause-sorted : goal.returns-clause-sorted
returns-clause-sorted g c =
    let others = map (λ edge. move_of g.L.LabelSet.letters edge.now) c.loop-q.others.items in
    sorted_permuted (moves_from c.args.a.now c.args.set.now) c.loop-q.singles.items c.sorted_by_letter-singles.result.items others c.sorted_by_letter-singles.ensures.same
    (sorted_all c.args.a.now c.args.set.now c.loop-q.q-index c.loop-q.singles.items others c.loop-q-test.false c.loop-q.invariant)
