use Rattle.std.proofs.Common.{◌<◌, List, ℕ, [], Some, get_or, sym, ◌∙◌, subst}
use Rattle.std.specs.List.{All}
use Rattle.std.proofs.lemmas.List.{take_all}
use Rattle.std.proofs.lemmas.List.Elements.{All-get_or, All-nil}
use Rattle.std.proofs.lemmas.Result.{on_ok_weaker}
use Rattle.rela_nfa.specs.Automaton.{states}
use Rattle.rela_nfa.specs.StateSet.{Adds}
use Rattle.rela_nfa.proofs.Growing.{After, adds_all, adds_within, next_reached, none_after, one_after}
use Rattle.rela_nfa.proofs.nfa.Nfa.reach_next.Goals as goal

pub loop-q-init : goal.loop-q-init
loop-q-init g c = record {
  count = c.clear.ensures.count;
  within = subst (All (λ q. q < states c.args.self.now)) (sym c.clear.ensures.empty) (All-nil (λ q. q < states c.args.self.now));
  adds = subst (Adds (After c.args.self.now [] (Some c.args.letter)) []) (sym c.clear.ensures.empty) (none_after c.args.self.now (Some c.args.letter) []);
}

pub loop-q-preserved : goal.loop-q-preserved
loop-q-preserved g c =
    let q = get_or c.args.from.now c.loop-q.q-index 0 in
    let before = c.loop-q.set.states in
    let after = c.follow_all.new.set.states in
    record {
      count = c.in_ok-follow_all.ensures.count ∙ c.loop-q.invariant.count;
      within = adds_within c.args.self.now c.in_ok-follow_all.ensures.automaton (Some c.args.letter) q before after c.in_ok-follow_all.ensures.adds c.loop-q.invariant.within;
      adds = one_after c.args.self.now c.args.from.now c.loop-q.q-index (Some c.args.letter) [] before after c.loop-q-test.true c.loop-q.invariant.adds c.in_ok-follow_all.ensures.adds;
    }

pub follow_all-requires-clause-state : goal.follow_all-requires-clause-state
follow_all-requires-clause-state g c = All-get_or (λ q. q < states c.args.self.now) c.args.from.now c.loop-q.q-index 0 c.loop-q-test.true c.requires.states

pub returns-clause-reached : goal.returns-clause-reached
returns-clause-reached g c =
    on_ok_weaker c.close.result
    (λ closes. next_reached c.args.self.now c.args.from.now c.loop-q.set.states c.close.new.set.states c.args.letter
    (adds_all (After c.args.self.now c.args.from.now (Some c.args.letter)) c.loop-q.set.states
    (subst (λ (l : List ℕ). Adds (After c.args.self.now l (Some c.args.letter)) [] c.loop-q.set.states) (take_all c.loop-q.q-index c.args.from.now c.loop-q-test.false) c.loop-q.invariant.adds))
    closes) c.close.ensures.closes
