use Rattle.std.proofs.Common.{◌≡◌, List, false, length, map, sym, ap, ◌∙◌, subst, arith}
use Rattle.std.specs.List.{All}
use Rattle.std.proofs.lemmas.List.{length-map, length-replicate}
use Rattle.rela_nfa.specs.Automaton.{IsMove, Move, states}
use Rattle.rela_subset.specs.Silent.{silents}
use Rattle.rela_subset.proofs.Silents.{silent_as, silents_ok}
use Rattle.rela_subset.proofs.silent.silent_part.Goals as goal

pub from_lists-requires-clause-automaton : goal.from_lists-requires-clause-automaton
from_lists-requires-clause-automaton g c =
    let a = c.args.a.now in
    let ok = c.states.ensures.automaton in
    let count : length c.in_ok-finals.finals.items ≡ states a =
    ap length (c.in_ok-finals.ensures.items_if_clones_equal (λ y e. e)) ∙ length-replicate c.states.result false ∙ c.states.ensures.states in
    record {
      each = ap length c.in_ok-edges.ensures ∙ length-map a.edges silents ∙ ok.each ∙ sym count;
      starts = omega (arith, c.start.ensures.state, count);
      moves =
          subst (λ (es : List (List Move)). All (All (IsMove c.letters.result (length c.in_ok-finals.finals.items))) es) (sym c.in_ok-edges.ensures)
          (subst (λ n. All (All (IsMove c.letters.result n)) (map silents a.edges)) (sym count)
          (subst (λ n. All (All (IsMove n (states a))) (map silents a.edges)) (sym c.letters.ensures.letters) (silents_ok a.letters (states a) a.edges ok.moves)));
    }

pub returns : goal.returns
returns g c =
    let a = c.args.a.now in
    let count : length c.in_ok-finals.finals.items ≡ states a =
    ap length (c.in_ok-finals.ensures.items_if_clones_equal (λ y e. e)) ∙ length-replicate c.states.result false ∙ c.states.ensures.states in
    silent_as a c.from_lists.result (ap length c.from_lists.ensures.finals ∙ count) (c.from_lists.ensures.edges ∙ c.in_ok-edges.ensures)
