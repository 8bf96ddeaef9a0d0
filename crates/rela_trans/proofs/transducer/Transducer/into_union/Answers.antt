use Rattle.std.proofs.Common.{◌≡◌, ◌+◌, false, [], ◌∷◌, ◌++◌, map, None, ◌∙◌, sym, ap, subst, refl}
use Rattle.rela_trans.specs.Machine.{Machine, IsMachine, machine_states}
use Rattle.rela_trans.specs.Construction.{silent, copied}
use Rattle.rela_trans.specs.Stored.{moves_in}
use Rattle.rela_trans.proofs.Unions.{IsUnion, union_states, union_ok, union_start, union_first, union_second, union_relation}
use Rattle.rela_trans.proofs.transducer.Transducer.into_union.Given.{Over}
use Rattle.rela_trans.proofs.transducer.Transducer.into_union.Goals as goal

-- what was built of the two
abbrev built_of : (g : Over) → goal.In_ok-move_onto-2 g → Machine
built_of g c = record {
  letters = c.letters-letters.result;
  start = 0;
  finals = c.extend_from_slice-2.new.self.items;
  moves = moves_in g.L.LabelSet.letters c.move_onto-2.new.moves.items;
}

module _ (g : Over) (c : goal.In_ok-move_onto-2 g) where
  ok_self : IsMachine c.args.self
  ok_self = c.states-count.ensures.machine

  ok_other : IsMachine c.args.other
  ok_other = subst IsMachine c.other.view_is c.other.invariant.1

  built : IsUnion c.args.self c.args.other (built_of g c)
  built =
      let a = c.args.self in
      let b = c.args.other in
      let moves = moves_in g.L.LabelSet.letters in
      let ends = map silent ((1 + a.start) ∷ (1 + machine_states a + b.start) ∷ []) in
      let entry : moves c.push-2.new.self.items ≡ ends ∷ [] =
      ap moves c.in_ok-push-2.ensures.items ∙ ap (λ v. moves (v ++ c.in_ok-silent_moves.field-0 ∷ [])) c.in_ok-moves.ensures.items
      ∙ ap (λ m. m ∷ []) (c.in_ok-silent_moves.ensures ∙ cc) in
      record {
        letters = c.letters-letters.ensures.letters;
        same_letters = sym c.requires.letters;
        start = refl;
        moves =
            c.in_ok-move_onto-2.ensures ∙ ap (λ l. l ++ copied b (1 + c.states-count.result) None) (c.in_ok-move_onto.ensures ∙ ap (λ l. l ++ copied a 1 None) entry)
            ∙ ap (λ n. ends ∷ [] ++ copied a 1 None ++ copied b (1 + n) None) c.states-count.ensures.states;
        finals =
            c.in_ok-extend_from_slice-2.ensures.items
            ∙ ap (λ l. l ++ c.deref-2.result.now)
            (c.in_ok-extend_from_slice.ensures.items ∙ ap (λ l. l ++ c.deref.result.now) (c.in_ok-push.ensures.items ∙ ap (λ l. l ++ false ∷ []) c.new-finals.ensures.items))
            ∙ ap (λ l. false ∷ [] ++ l ++ c.deref-2.result.now) (c.deref.ensures.value ∙ ap (λ (x : Machine). x.finals) c.self.view_is)
            ∙ ap (λ l. false ∷ [] ++ a.finals ++ l) (c.deref-2.ensures.value ∙ ap (λ (x : Machine). x.finals) c.other.view_is);
      }

pub invariant_of-result : goal.invariant_of-result
invariant_of-result g c = (subst g.L.LabelSet.fits (sym c.letters-letters.ensures.letters) c.letters-letters.ensures.fits, union_ok c.args.self c.args.other (built_of g c) (ok_self g c) (ok_other g c) (built g c))

pub returns : goal.returns
returns g c =
    let a = c.args.self in
    let b = c.args.other in
    record {
      letters = (built g c).letters;
      states = union_states a b (built_of g c) (ok_self g c) (ok_other g c) (built g c);
      start = union_start a b (built_of g c) (ok_self g c) (ok_other g c) (built g c);
      first = union_first a b (built_of g c) (ok_self g c) (ok_other g c) (built g c);
      second = union_second a b (built_of g c) (ok_self g c) (ok_other g c) (built g c);
      relation = union_relation a b (built_of g c) (ok_self g c) (ok_other g c) (built g c);
    }
