use Rattle.std.proofs.Common.{map, ◌∙◌, ap, subst}
use Rattle.rela_trans.specs.Machine.{Machine, IsMachine}
use Rattle.rela_trans.specs.Construction.{turned_move}
use Rattle.rela_trans.specs.Stored.{moves_in}
use Rattle.rela_trans.proofs.Turned.{IsTurned, turned_states, turned_ok, turned_reach, turned_relation}
use Rattle.rela_trans.proofs.transducer.Transducer.inverse.Given.{Over}
use Rattle.rela_trans.proofs.transducer.Transducer.inverse.Goals as goal

-- what was built of it
abbrev built_of : (g : Over) → goal.In_ok-moves g → Machine
built_of g c = record {
  letters = c.self.inside.letters;
  start = c.self.inside.start;
  finals = c.in_ok-finals.finals.items;
  moves = moves_in g.L.LabelSet.letters c.in_ok-moves.moves.items;
}

module _ (g : Over) (c : goal.In_ok-moves g) where
  built : IsTurned c.args.self.now (built_of g c)
  built = record {
    letters = ap (λ (x : Machine). x.letters) c.self.view_is;
    start = ap (λ (x : Machine). x.start) c.self.view_is;
    finals = c.in_ok-finals.ensures.items ∙ c.deref.ensures.value ∙ ap (λ (x : Machine). x.finals) c.self.view_is;
    moves =
        c.in_ok-moves.ensures ∙ ap (λ l. map (map turned_move) (moves_in g.L.LabelSet.letters l)) c.deref-2.ensures.value
        ∙ ap (λ (x : Machine). map (map turned_move) x.moves) c.self.view_is;
  }

pub invariant_of-result : goal.invariant_of-result
invariant_of-result g c = (c.self.invariant.0, turned_ok c.args.self.now (built_of g c) (built g c) (subst IsMachine c.self.view_is c.self.invariant.1))

pub returns : goal.returns
returns g c =
    let t = c.args.self.now in
    record {
      letters = (built g c).letters;
      states = turned_states t (built_of g c) (built g c);
      reached = turned_reach t (built_of g c) (built g c);
      relation = turned_relation t (built_of g c) (built g c);
    }
