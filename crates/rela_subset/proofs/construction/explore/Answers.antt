use Rattle.std.proofs.Common.{◌≡◌, ◌+◌, ◌<◌, [], ◌∷◌, ◌++◌, get_or, length, map, ap, sym, subst, ◌∙◌, arith}
use Rattle.std.proofs.lemmas.List.{length-map, length_push, map_push}
use Rattle.std.proofs.lemmas.Result.{err_from_is_err_and}
use Rattle.std.specs.List.{All}
use Rattle.rela_nfa.specs.Automaton.{Automaton, states}
use Rattle.rela_nfa.specs.Stored.{move_of, moves_in}
use Rattle.rela_subset.specs.Expansion.{HasGrown, IsExpandedOver, IsExplored}
use Rattle.rela_subset.proofs.Exploring.{explored_more, explored_within, reach_sets}
use Rattle.rela_subset.proofs.construction.explore.Goals as goal

pub expand-requires-clause-states : goal.expand-requires-clause-states
expand-requires-clause-states g c =
    let letters = g.L.LabelSet.letters in
    let i = c.len-number.result in
    subst (λ (a : Automaton). All (λ q. q < states a) (get_or c.loop-alloc.sets i [])) (sym c.loop-alloc.invariant.same)
    (explored_within c.args.a.now (letters c.args.over.now) c.loop-alloc.sets (moves_in letters c.loop-alloc.edges.items) c.requires.automaton c.loop-alloc.invariant.explored i
    (omega (arith, c.loop-alloc-test.true, c.len.ensures, c.len-in-loop-alloc.ensures.len, c.len-number.ensures)))

pub expand-requires-clause-letters : goal.expand-requires-clause-letters
expand-requires-clause-letters g c = c.requires.letters ∙ sym (ap (λ (a : Automaton). a.letters) c.loop-alloc.invariant.same)

pub expand-requires-clause-count : goal.expand-requires-clause-count
expand-requires-clause-count g c = c.loop-alloc.invariant.count ∙ c.requires.count ∙ sym (ap (λ (a : Automaton). states a) c.loop-alloc.invariant.same)

pub returns-in_err-out-clause-limit : goal.returns-in_err-out-clause-limit
returns-in_err-out-clause-limit g c =
    let letters = g.L.LabelSet.letters in
    let edges = c.loop-alloc.edges.items in
    let p = err_from_is_err_and c.from_residual-in_err-out.result c.from_residual-in_err-out.ensures.1 in
    rw (p.1, p.2) (λ e.
    let (count, (next, words, distinct, grown)) = c.in_err-out.ensures.limit e in
    let new = c.expand.new.sets ++ next ∷ [] in
    let len = length-map edges (λ v. map (move_of letters) v.items) in
    let n_is : c.len-number.result ≡ length (moves_in letters edges) = omega (arith, c.len-number.ensures, c.loop-alloc.edges.ok.0, len) in
    let left : length (moves_in letters edges) < length c.loop-alloc.sets = omega (arith, c.loop-alloc-test.true, c.len.ensures, c.len-in-loop-alloc.ensures.len, c.loop-alloc.edges.ok.0, len) in
    let set_is = ap (λ n. get_or c.loop-alloc.sets n []) n_is in
    reach_sets c.args.a.now (letters c.args.over.now) c.loop-alloc.sets (moves_in letters edges) c.loop-alloc.invariant.explored left new words
    (subst (λ set. HasGrown c.args.a.now (letters c.args.over.now) set c.loop-alloc.sets new words) set_is
    (subst (λ (a : Automaton). HasGrown a (letters c.args.over.now) (get_or c.loop-alloc.sets c.len-number.result []) c.loop-alloc.sets new words) c.loop-alloc.invariant.same grown))
    _ (length_push c.expand.new.sets next ∙ ap (λ n. n + 1) count) distinct)

pub loop-alloc-preserved : goal.loop-alloc-preserved
loop-alloc-preserved g c =
    let letters = g.L.LabelSet.letters in
    let edges = c.loop-alloc.edges.items in
    let len = length-map edges (λ v. map (move_of letters) v.items) in
    let i = c.len-number.result in
    let n_is : c.len-number.result ≡ length (moves_in letters edges) = omega (arith, c.len-number.ensures, c.loop-alloc.edges.ok.0, len) in
    let left : length (moves_in letters edges) < length c.loop-alloc.sets = omega (arith, c.loop-alloc-test.true, c.len.ensures, c.len-in-loop-alloc.ensures.len, c.loop-alloc.edges.ok.0, len) in
    let set_is = ap (λ n. get_or c.loop-alloc.sets n []) n_is in
    record {
      explored =
          subst (λ es. IsExplored c.args.a.now (letters c.args.over.now) c.expand.new.sets es)
          (sym (ap (moves_in letters) c.in_ok-push.ensures.items ∙ map_push (λ v. map (move_of letters) v.items) edges c.in_ok-out.out))
          (explored_more c.args.a.now (letters c.args.over.now) c.loop-alloc.sets (moves_in letters edges) c.expand.new.sets (get_or c.loop-alloc.sets i []) (map (move_of letters) c.in_ok-out.out.items)
          c.loop-alloc.invariant.explored left set_is
          (subst (λ (a : Automaton). IsExpandedOver a (letters c.args.over.now) (get_or c.loop-alloc.sets i []) c.loop-alloc.sets c.expand.new.sets (map (move_of letters) c.in_ok-out.out.items))
          c.loop-alloc.invariant.same c.in_ok-out.ensures.expanded));
      same = c.in_ok-out.ensures.automaton ∙ c.loop-alloc.invariant.same;
      count = c.in_ok-out.ensures.count ∙ c.loop-alloc.invariant.count;
      few = c.in_ok-out.ensures.few;
      none = c.in_ok-out.ensures.none;
    }
