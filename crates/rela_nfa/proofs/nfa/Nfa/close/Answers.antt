use Rattle.std.proofs.Common.{◌<◌, None, length, get_or, ap, ◌∙◌, subst, arith}
use Rattle.rela_nfa.specs.Runs.{HasStep}
use Rattle.rela_nfa.specs.StateSet.{Adds}
use Rattle.rela_nfa.proofs.Closing.{closing_all, closing_more, silently_closes}
use Rattle.rela_nfa.proofs.Growing.{adds_length, adds_within}
use Rattle.rela_nfa.proofs.nfa.Nfa.close.Goals as goal

pub loop-done-preserved : goal.loop-done-preserved
loop-done-preserved g c =
    let before = c.loop-done.set.states in
    let after = c.follow_all.new.set.states in
    let within : c.loop-done.done < length before = rw c.states.ensures.states at c.loop-done-test.true in
    let adds : Adds (HasStep c.args.self.now (get_or before c.loop-done.done 0) None) before after =
    subst (λ n. Adds (HasStep c.args.self.now n None) before after) (ap (λ l. get_or l c.loop-done.done 0) c.states-in-loop-done.ensures.states) c.in_ok-follow_all.ensures.adds in
    record {
      done = omega (arith, within, adds_length before after adds);
      count = c.in_ok-follow_all.ensures.count ∙ c.loop-done.invariant.count;
      within = adds_within c.args.self.now c.in_ok-follow_all.ensures.automaton None (get_or before c.loop-done.done 0) before after adds c.loop-done.invariant.within;
      closing = closing_more c.args.self.now c.args.set.now.states c.loop-done.done before after c.loop-done.invariant.closing within adds;
    }

pub returns-clause-silently : goal.returns-clause-silently
returns-clause-silently g c =
    closing_all c.args.self.now c.args.set.now.states c.loop-done.set.states c.loop-done.done c.loop-done.invariant.closing (rw c.states.ensures.states at c.loop-done-test.false)

pub returns-clause-closes : goal.returns-clause-closes
returns-clause-closes g c =
    silently_closes c.args.self.now c.args.set.now.states c.loop-done.set.states
    (closing_all c.args.self.now c.args.set.now.states c.loop-done.set.states c.loop-done.done c.loop-done.invariant.closing (rw c.states.ensures.states at c.loop-done-test.false))
