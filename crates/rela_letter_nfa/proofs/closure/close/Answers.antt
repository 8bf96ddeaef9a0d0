use Rattle.std.proofs.Common.{◌<◌, length, get_or, ◌∙◌, subst, arith}
use Rattle.std.specs.List.{Contains}
use Rattle.rela_letter_nfa.specs.LetterAutomaton.{silents_of}
use Rattle.rela_letter_nfa.specs.Pair.{joined}
use Rattle.rela_letter_nfa.specs.Sets.{Adds}
use Rattle.rela_letter_nfa.proofs.Closing.{closing_all, closing_more}
use Rattle.rela_letter_nfa.proofs.Growing.{adds_length}
use Rattle.rela_letter_nfa.proofs.closure.close.Goals as goal

pub loop-done-preserved : goal.loop-done-preserved
loop-done-preserved c =
    let u = joined c.args.both.now in
    let before = c.loop-done.visited.states in
    let after = c.insert_silent.new.visited.states in
    let within : c.loop-done.done < length before = rw c.states.ensures.states at c.loop-done-test.true in
    let adds : Adds (Contains (silents_of u (get_or before c.loop-done.done 0))) before after =
    subst (λ l. Adds (Contains (silents_of u (get_or l c.loop-done.done 0))) before after) c.states-in-loop-done.ensures.states c.in_ok-insert_silent.ensures.adds in
    record {
      done = omega (arith, within, adds_length before after adds);
      count = c.in_ok-insert_silent.ensures.count ∙ c.loop-done.invariant.count;
      closing = closing_more u c.args.visited.now.states c.loop-done.done before after c.loop-done.invariant.closing within adds;
    }

pub returns-clause-closed : goal.returns-clause-closed
returns-clause-closed c =
    closing_all (joined c.args.both.now) c.args.visited.now.states c.loop-done.visited.states c.loop-done.done c.loop-done.invariant.closing (rw c.states.ensures.states at c.loop-done-test.false)
