use Rattle.std.proofs.Common.{◌≡◌, ◌<◌, ◌++◌, List, [], ◌∷◌, Some, length, get_or, sym, ap, ◌∙◌, subst, arith}
use Rattle.std.specs.List.{All, slice_get}
use Rattle.std.proofs.lemmas.List.Elements.{All-nil, All-weaker}
use Rattle.std.proofs.lemmas.Result.{err_from_is_err_and}
use Rattle.rela_pairs.specs.Finding.{Finds, GrowsBy, AreNumbers, Passes}
use Rattle.rela_pairs.specs.Keeping.{pairs_of, Takes}
use Rattle.rela_pairs.specs.Reachable.{Reachable}
use Rattle.rela_pairs.specs.declared.pair.Pair.{Pair}
use Rattle.rela_pairs.proofs.Distinct.{no_more_than}
use Rattle.rela_pairs.proofs.Steps.{Exploring, exploring_none, exploring_more, explored_all, explored_next, asked_at, asked_valid, only_start, passed_limit, reachable_next}
use Rattle.rela_pairs.proofs.exploring.explore.Goals as goal

abbrev none : Pair
none = record { left = 0; right = 0 }

pub queue-init : goal.queue-init
queue-init g c = record {
  so_far =
      subst (Exploring (g.S.Successors.next c.args.successors.now) c.args.start c.args.limit (g.S.Successors.is_pair c.args.successors.now) (pairs_of c.number.new.self))
      (sym c.new-targets.ensures)
      (exploring_none (g.S.Successors.next c.args.successors.now) c.args.start c.args.limit (g.S.Successors.is_pair c.args.successors.now) (pairs_of c.number.new.self) c.requires.start
      (subst (λ (l : List Pair). Finds l (pairs_of c.number.new.self) c.args.start) c.in_ok-found.ensures.none c.in_ok-number.ensures.finds) c.in_ok-number.ensures.few);
  takes = λ x valid. c.number.ensures.takes x (c.in_ok-found.ensures.takes x (c.shape.ensures.fits x valid));
}

pub add_next-requires : goal.add_next-requires
add_next-requires g c =
    let behind : length c.queue.targets < length (pairs_of c.queue.found) = omega (arith, c.len.ensures, c.queue-test.true, ap length c.pairs.ensures.pairs) in
    asked_valid (g.S.Successors.is_pair c.args.successors.now) (pairs_of c.queue.found) c.pairs-in-queue.result.now (length c.queue.targets) c.len-in-queue.result none c.pairs-in-queue.ensures.pairs
    c.len-in-queue.ensures behind c.queue.invariant.so_far.valid

pub number_all-requires-clause-few : goal.number_all-requires-clause-few
number_all-requires-clause-few g c = c.queue.invariant.so_far.few

pub number_all-requires-clause-takes : goal.number_all-requires-clause-takes
number_all-requires-clause-takes g c =
    let next = g.S.Successors.next c.args.successors.now in
    let pair : Pair = get_or c.pairs-in-queue.result.now c.len-in-queue.result none in
    let follow : c.deref.result.now ≡ next pair = c.deref.ensures.value ∙ c.in_ok-add_next.ensures.next ∙ ap (λ l. l ++ next pair) c.clear.ensures.items in
    subst (λ (l : List Pair). All (Takes c.queue.found) l) (sym follow)
    (All-weaker (g.S.Successors.is_pair c.args.successors.now) (Takes c.queue.found) c.queue.invariant.takes (next pair) c.in_ok-add_next.ensures.pairs)

pub queue-preserved : goal.queue-preserved
queue-preserved g c =
    let next = g.S.Successors.next c.args.successors.now in
    let IsPair = g.S.Successors.is_pair c.args.successors.now in
    let targets = c.queue.targets in
    let behind : length targets < length (pairs_of c.queue.found) = omega (arith, c.len.ensures, c.queue-test.true, ap length c.pairs.ensures.pairs) in
    let pair : Pair = get_or c.pairs-in-queue.result.now c.len-in-queue.result none in
    let at : slice_get (pairs_of c.queue.found) (length targets) ≡ Some pair =
    asked_at (pairs_of c.queue.found) c.pairs-in-queue.result.now (length targets) c.len-in-queue.result none c.pairs-in-queue.ensures.pairs c.len-in-queue.ensures behind in
    let follow : c.deref.result.now ≡ next pair = c.deref.ensures.value ∙ c.in_ok-add_next.ensures.next ∙ ap (λ l. l ++ next pair) c.clear.ensures.items in
    let more =
    exploring_more next c.args.start c.args.limit IsPair (pairs_of c.queue.found) (pairs_of c.number_all.new.self) targets c.number_all.new.numbers.items pair c.queue.invariant.so_far behind at
    (subst (λ (l : List Pair). GrowsBy l (pairs_of c.queue.found) (pairs_of c.number_all.new.self)) follow c.in_ok-number_all.ensures.grows)
    (subst (λ (l : List Pair). AreNumbers (pairs_of c.number_all.new.self) l c.number_all.new.numbers.items) follow c.in_ok-number_all.ensures.numbers) c.in_ok-number_all.ensures.few
    c.in_ok-add_next.ensures.pairs in
    record {
      so_far =
          subst (Exploring next c.args.start c.args.limit IsPair (pairs_of c.number_all.new.self))
          (sym (c.in_ok-push.ensures ∙ ap (λ l. targets ++ l ∷ []) c.deref-in-queue.ensures.value)) more;
      takes = λ x valid. c.number_all.ensures.takes x (c.queue.invariant.takes x valid);
    }

pub returns-in_err-number-clause-limit : goal.returns-in_err-number-clause-limit
returns-in_err-number-clause-limit g c =
    let next = g.S.Successors.next c.args.successors.now in
    let p = err_from_is_err_and c.from_residual-in_err-number.result c.from_residual-in_err-number.ensures.1 in
    rw (p.1, p.2) (λ e.
    passed_limit c.args.limit (Reachable next c.args.start) (c.args.start ∷ []) []
    (subst (λ (l : List Pair). Passes c.args.limit (c.args.start ∷ []) l) c.in_ok-found.ensures.none (c.in_err-number.ensures.limit e))
    (All-nil (Reachable next c.args.start)) (only_start next c.args.start))

pub returns-in_err-number_all-clause-limit : goal.returns-in_err-number_all-clause-limit
returns-in_err-number_all-clause-limit g c =
    let next = g.S.Successors.next c.args.successors.now in
    let targets = c.queue.targets in
    let behind : length targets < length (pairs_of c.queue.found) = omega (arith, c.len.ensures, c.queue-test.true, ap length c.pairs.ensures.pairs) in
    let pair : Pair = get_or c.pairs-in-queue.result.now c.len-in-queue.result none in
    let here : Reachable next c.args.start pair =
    asked_valid (Reachable next c.args.start) (pairs_of c.queue.found) c.pairs-in-queue.result.now (length targets) c.len-in-queue.result none c.pairs-in-queue.ensures.pairs
    c.len-in-queue.ensures behind c.queue.invariant.so_far.reached in
    let follow : c.deref.result.now ≡ next pair = c.deref.ensures.value ∙ c.in_ok-add_next.ensures.next ∙ ap (λ l. l ++ next pair) c.clear.ensures.items in
    let p = err_from_is_err_and c.from_residual-in_err-number_all.result c.from_residual-in_err-number_all.ensures.1 in
    rw (p.1, p.2) (λ e.
    passed_limit c.args.limit (Reachable next c.args.start) (next pair) (pairs_of c.queue.found)
    (subst (λ (l : List Pair). Passes c.args.limit l (pairs_of c.queue.found)) follow (c.in_err-number_all.ensures.limit e))
    c.queue.invariant.so_far.reached (λ x among. reachable_next next c.args.start pair x here among))

pub returns-clause-first : goal.returns-clause-first
returns-clause-first g c = c.queue.invariant.so_far.first

pub returns-clause-one_list_each : goal.returns-clause-one_list_each
returns-clause-one_list_each g c = omega (arith, c.len.ensures, c.queue-test.false, ap length c.pairs.ensures.pairs, c.queue.invariant.so_far.behind)

pub returns-clause-reachable : goal.returns-clause-reachable
returns-clause-reachable g c =
    explored_all (g.S.Successors.next c.args.successors.now) c.args.start c.args.limit (g.S.Successors.is_pair c.args.successors.now) (pairs_of c.queue.found) c.queue.targets c.queue.invariant.so_far
    (omega (arith, c.len.ensures, c.queue-test.false, ap length c.pairs.ensures.pairs))

pub returns-clause-targets : goal.returns-clause-targets
returns-clause-targets g c =
    explored_next (g.S.Successors.next c.args.successors.now) c.args.start c.args.limit (g.S.Successors.is_pair c.args.successors.now) (pairs_of c.queue.found) c.queue.targets c.queue.invariant.so_far
    (omega (arith, c.len.ensures, c.queue-test.false, ap length c.pairs.ensures.pairs))

pub returns-clause-earlier : goal.returns-clause-earlier
returns-clause-earlier g c = c.queue.invariant.so_far.earlier

pub returns-clause-few : goal.returns-clause-few
returns-clause-few g c = c.queue.invariant.so_far.few

pub returns-clause-within : goal.returns-clause-within
returns-clause-within g c =
    no_more_than c.args.limit (Reachable (g.S.Successors.next c.args.successors.now) c.args.start) (pairs_of c.queue.found)
    (λ x reaches.
    (explored_all (g.S.Successors.next c.args.successors.now) c.args.start c.args.limit (g.S.Successors.is_pair c.args.successors.now) (pairs_of c.queue.found) c.queue.targets c.queue.invariant.so_far
    (omega (arith, c.len.ensures, c.queue-test.false, ap length c.pairs.ensures.pairs)) x).1 reaches)
    c.queue.invariant.so_far.few
