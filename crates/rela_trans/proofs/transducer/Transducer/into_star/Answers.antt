use Rattle.std.proofs.Common.{◌≡◌, ◌+◌, true, [], ◌∷◌, ◌++◌, map, Some, ◌∙◌, sym, ap, subst, refl}
use Rattle.rela_trans.specs.Machine.{Machine, IsMachine}
use Rattle.rela_trans.specs.Construction.{silent, copied}
use Rattle.rela_trans.specs.Stored.{moves_in}
use Rattle.rela_trans.proofs.Stars.{IsStar, star_states, star_ok, star_start, star_copies, star_relation}
use Rattle.rela_trans.proofs.transducer.Transducer.into_star.Given.{Over}
use Rattle.rela_trans.proofs.transducer.Transducer.into_star.Goals as goal

-- what was built of it
abbrev built_of : (g : Over) → goal.In_ok-move_onto g → Machine
built_of g c = record {
  letters = c.letters-letters.result;
  start = 0;
  finals = c.extend_from_slice.new.self.items;
  moves = moves_in g.L.LabelSet.letters c.move_onto.new.moves.items;
}

module _ (g : Over) (c : goal.In_ok-move_onto g) where
  ok_self : IsMachine c.args.self
  ok_self = subst IsMachine c.self.view_is c.self.invariant.1

  built : IsStar c.args.self (built_of g c)
  built =
      let a = c.args.self in
      let moves = moves_in g.L.LabelSet.letters in
      let entry : moves c.push-2.new.self.items ≡ map silent ((1 + c.start-entry.result) ∷ []) ∷ [] =
      ap moves c.in_ok-push-2.ensures.items ∙ ap (λ v. moves (v ++ c.in_ok-silent_moves.field-0 ∷ [])) c.in_ok-moves.ensures.items ∙ ap (λ m. m ∷ []) c.in_ok-silent_moves.ensures in
      record {
        letters = c.letters-letters.ensures.letters;
        start = refl;
        moves =
            c.in_ok-move_onto.ensures ∙ ap (λ l. l ++ copied a 1 (Some (1 + c.start-entry.result))) entry
            ∙ ap (λ n. map silent ((1 + n) ∷ []) ∷ [] ++ copied a 1 (Some (1 + n))) c.start-entry.ensures.start;
        finals =
            c.in_ok-extend_from_slice.ensures.items ∙ ap (λ l. l ++ c.deref.result.now) (c.in_ok-push.ensures.items ∙ ap (λ l. l ++ true ∷ []) c.new-finals.ensures.items)
            ∙ ap (λ l. true ∷ [] ++ l) (c.deref.ensures.value ∙ ap (λ (x : Machine). x.finals) c.self.view_is);
      }

pub invariant_of-result : goal.invariant_of-result
invariant_of-result g c = (subst g.L.LabelSet.fits (sym c.letters-letters.ensures.letters) c.letters-letters.ensures.fits, star_ok c.args.self (built_of g c) (ok_self g c) (built g c))

pub returns : goal.returns
returns g c =
    let a = c.args.self in
    record {
      letters = (built g c).letters;
      states = star_states a (built_of g c) (ok_self g c) (built g c);
      start = star_start a (built_of g c) (ok_self g c) (built g c);
      copies = star_copies a (built_of g c) (ok_self g c) (built g c);
      relation = star_relation a (built_of g c) (ok_self g c) (built g c);
    }
