use Rattle.std.proofs.Common.{subst, arith}
use Rattle.std.proofs.lemmas.Grind.{common_steps}
use Rattle.rela_nfa.specs.Automaton.{IsAutomaton}
use Rattle.rela_nfa.proofs.Edges.{edges_lead, edges_sized}
use Rattle.rela_nfa.proofs.nfa.Nfa.edges.Goals as goal

pub returns-clause-lead : goal.returns-clause-lead
returns-clause-lead g c =
    edges_lead g.L.LabelSet.letters c.args.self.now (subst IsAutomaton c.self.view_is c.self.invariant.1) c.args.q c.list.result.now (grind (arith, common_steps))

pub returns-clause-sized : goal.returns-clause-sized
returns-clause-sized g c =
    edges_sized g.L.LabelSet.letters c.args.self.now (subst IsAutomaton c.self.view_is c.self.invariant.1) c.args.q c.list.result.now (grind (arith, common_steps))
