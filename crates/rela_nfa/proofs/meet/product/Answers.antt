use Rattle.std.proofs.Common.{◌<◌, List, map, ◌∙◌, sym, ap, subst, refl}
use Rattle.std.specs.List.{All}
use Rattle.rela_pairs.specs.declared.pair.Pair.{Pair}
use Rattle.rela_nfa.specs.Automaton.{Automaton, IsAutomaton, states}
use Rattle.rela_nfa.specs.Meeting.{IsProduct, final_both}
use Rattle.rela_nfa.proofs.Meets.{product_ok}
use Rattle.rela_nfa.proofs.meet.product.Goals as goal

pub product_finals-requires : goal.product_finals-requires
product_finals-requires g c =
    subst (λ (l : List Pair). All (λ x. (x.left < states c.args.first.now) × (x.right < states c.args.second.now)) l) (sym c.pairs.ensures) c.requires.pairs

pub product_edges-requires-clause-pairs : goal.product_edges-requires-clause-pairs
product_edges-requires-clause-pairs g c = c.requires.pairs

pub invariant_of-result : goal.invariant_of-result
invariant_of-result g c =
    let a = c.args.first.now in
    let b = c.args.second.now in
    let nfa : Automaton = record {
      letters = c.first.inside.letters;
      start = 0;
      finals = c.in_ok-finals.finals.items;
      edges = c.in_ok-edges.edges;
    } in
    let built : IsProduct a b c.args.explored.now nfa = record {
      letters = ap (λ (x : Automaton). x.letters) c.first.view_is;
      start = refl;
      edges = c.in_ok-edges.ensures;
      finals = c.in_ok-finals.ensures ∙ ap (λ (l : List Pair). map (final_both a b) l) c.pairs.ensures;
    } in (
      c.first.invariant.0,
      product_ok a b nfa c.args.explored.now built c.requires.distinct c.requires.first c.requires.reachable c.requires.targets (subst IsAutomaton c.first.view_is c.first.invariant.1),
    )

pub returns : goal.returns
returns g c = record {
  letters = ap (λ (x : Automaton). x.letters) c.first.view_is;
  start = refl;
  edges = c.in_ok-edges.ensures;
  finals = c.in_ok-finals.ensures ∙ ap (λ (l : List Pair). map (final_both c.args.first.now c.args.second.now) l) c.pairs.ensures;
}
