use Rattle.std.proofs.Common.{[], ◌∷◌, ◌++◌, false, ◌∙◌, sym, ap, subst, refl}
use Rattle.rela_nfa.specs.Automaton.{Automaton, IsAutomaton}
use Rattle.rela_nfa.proofs.Unions.{IsUnion, union_states, union_ok, union_start, union_first, union_second, union_language}
use Rattle.rela_nfa.proofs.nfa.Nfa.union.Given.{Over}
use Rattle.rela_nfa.proofs.nfa.Nfa.union.Goals as goal

-- what was built of the two
abbrev nfa : (g : Over) → goal.In_ok-edges g → Automaton
nfa g c = record {
  letters = c.self.inside.letters;
  start = 0;
  finals = c.extend_from_slice-2.new.self.items;
  edges = c.in_ok-edges.edges;
}

module _ (g : Over) (c : goal.In_ok-edges g) where
  ok_self : IsAutomaton c.args.self.now
  ok_self = subst IsAutomaton c.self.view_is c.self.invariant.1

  ok_other : IsAutomaton c.args.other.now
  ok_other = subst IsAutomaton c.other.view_is c.other.invariant.1

  built : IsUnion c.args.self.now c.args.other.now (nfa g c)
  built =
      let a = c.args.self.now in
      record {
        letters = ap (λ (x : Automaton). x.letters) c.self.view_is;
        same_letters = sym c.requires.letters;
        start = refl;
        edges = c.in_ok-edges.ensures;
        finals =
            c.in_ok-extend_from_slice-2.ensures.items
            ∙ ap (λ l. l ++ c.deref-2.result.now)
            (c.in_ok-extend_from_slice.ensures.items ∙ ap (λ l. l ++ c.deref.result.now) (c.in_ok-push.ensures.items ∙ ap (λ l. l ++ false ∷ []) c.new-finals.ensures.items))
            ∙ ap (λ l. false ∷ [] ++ l ++ c.deref-2.result.now) (c.deref.ensures.value ∙ ap (λ (x : Automaton). x.finals) c.self.view_is)
            ∙ ap (λ l. false ∷ [] ++ a.finals ++ l) (c.deref-2.ensures.value ∙ ap (λ (x : Automaton). x.finals) c.other.view_is);
      }

pub invariant_of-result : goal.invariant_of-result
invariant_of-result g c = (c.self.invariant.0, union_ok c.args.self.now c.args.other.now (nfa g c) (ok_self g c) (ok_other g c) (built g c))

pub returns : goal.returns
returns g c =
    let a = c.args.self.now in
    let b = c.args.other.now in
    record {
      letters = (built g c).letters;
      states = union_states a b (nfa g c) (ok_self g c) (ok_other g c) (built g c);
      start = union_start a b (nfa g c) (ok_self g c) (ok_other g c) (built g c);
      first = union_first a b (nfa g c) (ok_self g c) (ok_other g c) (built g c);
      second = union_second a b (nfa g c) (ok_self g c) (ok_other g c) (built g c);
      language = union_language a b (nfa g c) (ok_self g c) (ok_other g c) (built g c);
    }
