use Rattle.std.proofs.Common.{◌<◌}
use Rattle.std.proofs.lemmas.List.Elements.{All-get_or}
use Rattle.rela_nfa.specs.Automaton.{states}
use Rattle.rela_closed.proofs.Accepting.{none_final}
use Rattle.rela_closed.proofs.Walks.{set_within}
use Rattle.rela_closed.proofs.acceptance.has_final.Goals as goal

pub is_final-requires : goal.is_final-requires
is_final-requires g c = All-get_or (λ q. q < states c.args.a.now) c.args.set.now c.loop-q.q-index 0 c.loop-q-test.true (set_within c.args.a.now c.start.ensures.automaton c.requires.0 c.args.set.now c.requires.1.0)

pub returns : goal.returns
returns g c = none_final c.args.a.now c.args.set.now c.loop-q.q-index c.loop-q-test.false c.loop-q.invariant
