use Rattle.std.proofs.Common.{◌+◌, map, ◌∙◌, subst}
use Rattle.std.specs.List.{Contains}
use Rattle.std.proofs.lemmas.List.{take_all}
use Rattle.rela_letter_nfa.specs.Sets.{Adds}
use Rattle.rela_letter_nfa.proofs.Growing.{adds_more}
use Rattle.rela_letter_nfa.proofs.both.insert_all.Goals as goal

pub loop-q-preserved : goal.loop-q-preserved
loop-q-preserved c = record {
  count = c.in_ok-insert.ensures.count ∙ c.loop-q.invariant.count;
  adds =
      adds_more (λ q. c.args.before + q) c.args.states.now c.loop-q.q-index c.args.visited.now.states c.loop-q.visited.states c.insert.new.self.states c.loop-q-test.true c.loop-q.invariant.adds
      c.in_ok-insert.ensures.inserted;
}

pub returns-clause-adds : goal.returns-clause-adds
returns-clause-adds c =
    subst (λ l. Adds (Contains (map (λ q. c.args.before + q) l)) c.args.visited.now.states c.loop-q.visited.states) (take_all c.loop-q.q-index c.args.states.now c.loop-q-test.false)
    c.loop-q.invariant.adds
