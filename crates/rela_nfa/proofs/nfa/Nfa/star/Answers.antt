use Rattle.std.proofs.Common.{◌+◌, true, List, [], ◌∷◌, ◌++◌, map, Some, ◌∙◌, ap, subst, refl}
use Rattle.rela_nfa.specs.Automaton.{Automaton, Move, IsAutomaton}
use Rattle.rela_nfa.specs.Construction.{silent, copied}
use Rattle.rela_nfa.proofs.Stars.{IsStar, star_states, star_ok, star_start, star_copies, star_language}
use Rattle.rela_nfa.proofs.nfa.Nfa.star.Given.{Over}
use Rattle.rela_nfa.proofs.nfa.Nfa.star.Goals as goal

-- what was built of it
abbrev nfa : (g : Over) → goal.In_ok-copy_onto g → Automaton
nfa g c = record {
  letters = c.self.inside.letters;
  start = 0;
  finals = c.extend_from_slice.new.self.items;
  edges = c.copy_onto.new.edges;
}

module _ (g : Over) (c : goal.In_ok-copy_onto g) where
  ok_self : IsAutomaton c.args.self.now
  ok_self = subst IsAutomaton c.self.view_is c.self.invariant.1

  built : IsStar c.args.self.now (nfa g c)
  built =
      let a = c.args.self.now in
      record {
        letters = ap (λ (x : Automaton). x.letters) c.self.view_is;
        start = refl;
        edges =
            c.in_ok-copy_onto.ensures ∙ ap (λ (l : List (List Move)). l ++ copied a 1 (Some (1 + c.start-entry.result))) c.in_ok-edges.ensures
            ∙ ap (λ n. map silent ((1 + n) ∷ []) ∷ [] ++ copied a 1 (Some (1 + n))) c.start-entry.ensures.start;
        finals =
            c.in_ok-extend_from_slice.ensures.items ∙ ap (λ l. l ++ c.deref.result.now) (c.in_ok-push.ensures.items ∙ ap (λ l. l ++ true ∷ []) c.new-finals.ensures.items)
            ∙ ap (λ l. true ∷ [] ++ l) (c.deref.ensures.value ∙ ap (λ (x : Automaton). x.finals) c.self.view_is);
      }

pub invariant_of-result : goal.invariant_of-result
invariant_of-result g c = (c.self.invariant.0, star_ok c.args.self.now (nfa g c) (ok_self g c) (built g c))

pub returns : goal.returns
returns g c =
    let a = c.args.self.now in
    record {
      letters = (built g c).letters;
      states = star_states a (nfa g c) (ok_self g c) (built g c);
      start = star_start a (nfa g c) (ok_self g c) (built g c);
      copies = star_copies a (nfa g c) (ok_self g c) (built g c);
      language = star_language a (nfa g c) (ok_self g c) (built g c);
    }
