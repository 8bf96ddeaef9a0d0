use Rattle.std.proofs.Common.{◌+◌, false, ◌++◌, Some, None, ◌∙◌, sym, ap, subst}
use Rattle.std.specs.Prelude.{replicate}
use Rattle.rela_trans.specs.Machine.{Machine, IsMachine, machine_states}
use Rattle.rela_trans.specs.Construction.{copied}
use Rattle.rela_trans.specs.Stored.{moves_in}
use Rattle.rela_trans.proofs.Concats.{IsConcat, concat_states, concat_ok, concat_first, concat_second, concat_relation}
use Rattle.rela_trans.proofs.transducer.Transducer.into_concat.Given.{Over}
use Rattle.rela_trans.proofs.transducer.Transducer.into_concat.Goals as goal

-- what was built of the two
abbrev built_of : (g : Over) → goal.In_ok-move_onto-2 g → Machine
built_of g c = record {
  letters = c.letters-letters.result;
  start = c.start-start.result;
  finals = c.extend_from_slice.new.self.items;
  moves = moves_in g.L.LabelSet.letters c.move_onto-2.new.moves.items;
}

module _ (g : Over) (c : goal.In_ok-move_onto-2 g) where
  ok_self : IsMachine c.args.self
  ok_self = c.states-count.ensures.machine

  ok_other : IsMachine c.args.other
  ok_other = subst IsMachine c.other.view_is c.other.invariant.1

  built : IsConcat c.args.self c.args.other (built_of g c)
  built =
      let a = c.args.self in
      let b = c.args.other in
      let count = c.states-count.ensures.states in
      record {
        letters = c.letters-letters.ensures.letters;
        same_letters = sym c.requires.letters;
        start = c.start-start.ensures.start;
        moves =
            c.in_ok-move_onto-2.ensures
            ∙ ap (λ l. l ++ copied b c.states-count.result None)
            (c.in_ok-move_onto.ensures ∙ ap (λ l. moves_in g.L.LabelSet.letters l ++ copied a 0 (Some (c.states-count.result + c.start.result))) c.in_ok-moves.ensures.items
            ∙ ap (λ n. copied a 0 (Some (c.states-count.result + n))) c.start.ensures.start)
            ∙ ap (λ n. copied a 0 (Some (n + b.start)) ++ copied b n None) count;
        finals =
            c.in_ok-extend_from_slice.ensures.items ∙ ap (λ l. l ++ c.deref.result.now) (c.in_ok-finals.ensures.items_if_clones_equal (λ y e. e) ∙ ap (λ n. replicate n false) count)
            ∙ ap (λ l. replicate (machine_states a) false ++ l) (c.deref.ensures.value ∙ ap (λ (x : Machine). x.finals) c.other.view_is);
      }

pub invariant_of-result : goal.invariant_of-result
invariant_of-result g c = (subst g.L.LabelSet.fits (sym c.letters-letters.ensures.letters) c.letters-letters.ensures.fits, concat_ok c.args.self c.args.other (built_of g c) (ok_self g c) (ok_other g c) (built g c))

pub returns : goal.returns
returns g c =
    let a = c.args.self in
    let b = c.args.other in
    record {
      letters = (built g c).letters;
      states = concat_states a b (built_of g c) (ok_self g c) (ok_other g c) (built g c);
      first = concat_first a b (built_of g c) (ok_self g c) (ok_other g c) (built g c);
      second = concat_second a b (built_of g c) (ok_self g c) (ok_other g c) (built g c);
      relation = concat_relation a b (built_of g c) (ok_self g c) (ok_other g c) (built g c);
    }
