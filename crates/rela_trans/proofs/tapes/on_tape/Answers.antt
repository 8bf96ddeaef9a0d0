use Rattle.std.proofs.Common.{sym, subst}
use Rattle.rela_trans.specs.Machine.{Machine}
use Rattle.rela_trans.specs.Stored.{moves_in}
use Rattle.rela_trans.proofs.Lifted.{IsLifted, lifted_states, lifted_ok, lifted_reach, lifted_relation}
use Rattle.rela_trans.proofs.tapes.on_tape.Given.{Over}
use Rattle.rela_trans.proofs.tapes.on_tape.Goals as goal

-- what was built of the automaton
abbrev built_of : (g : Over) → goal.After-start g → Machine
built_of g c = record {
  letters = c.letters.result;
  start = c.start.result;
  finals = c.in_ok-finals.finals.items;
  moves = moves_in g.L.LabelSet.letters c.in_ok-moves.moves.items;
}

module _ (g : Over) (c : goal.After-start g) where
  built : IsLifted c.args.tape c.args.a.now (built_of g c)
  built = record {
    letters = c.letters.ensures.letters;
    start = c.start.ensures.start;
    finals = c.in_ok-finals.ensures;
    moves = c.in_ok-moves.ensures;
  }

pub invariant_of-result : goal.invariant_of-result
invariant_of-result g c = (
  subst g.L.LabelSet.fits (sym c.letters.ensures.letters) c.letters.ensures.fits,
  lifted_ok c.args.tape c.args.a.now (built_of g c) c.letters.ensures.automaton (built g c),
)

pub returns : goal.returns
returns g c =
    let tape = c.args.tape in
    let a = c.args.a.now in
    record {
      letters = (built g c).letters;
      states = lifted_states tape a (built_of g c) c.letters.ensures.automaton (built g c);
      reached = lifted_reach tape a (built_of g c) c.letters.ensures.automaton (built g c);
      relation = lifted_relation tape a (built_of g c) c.letters.ensures.automaton (built g c);
    }
