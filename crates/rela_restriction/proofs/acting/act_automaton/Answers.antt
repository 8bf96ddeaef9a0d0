use Rattle.std.proofs.Common.{◌+◌, ◌∙◌, sym, subst, arith}
use Rattle.rela_nfa.specs.Automaton.{IsAutomaton}
use Rattle.rela_nfa.specs.Stored.{moves_in as edges_in}
use Rattle.rela_restriction.proofs.ActWords.{acting_ok, same_parts}
use Rattle.rela_restriction.proofs.acting.act_automaton.Goals as goal

pub from_parts-requires-clause-automaton : goal.from_parts-requires-clause-automaton
from_parts-requires-clause-automaton g c =
    subst IsAutomaton
    (sym (same_parts c.args.transducer.now (record {
      letters = c.letters-letters.result + (c.letters-letters.result + c.letters-letters.result);
      start = c.start.result;
      finals = c.deref.result.now;
      edges = edges_in g.L.LabelSet.letters c.in_ok-edges.edges.items;
    }) (omega (arith, c.letters-letters.ensures.letters)) c.start.ensures.start (c.deref.ensures.value ∙ c.in_ok-finals.ensures) c.in_ok-edges.ensures))
    (acting_ok c.args.transducer.now c.letters-letters.ensures.machine)

pub returns : goal.returns
returns g c =
    same_parts c.args.transducer.now c.in_ok-nfa.nfa (c.in_ok-nfa.ensures.letters ∙ omega (arith, c.letters-letters.ensures.letters))
    (c.in_ok-nfa.ensures.start ∙ c.start.ensures.start) (c.in_ok-nfa.ensures.finals ∙ c.deref.ensures.value ∙ c.in_ok-finals.ensures)
    (c.in_ok-nfa.ensures.edges ∙ c.in_ok-edges.ensures)
