use Rattle.std.proofs.Common.{◌≡◌, ℕ, ◌+◌, ◌<◌, ◌∙◌, [], false, get_or, length, ap, sym, subst, inl, inr, arith}
use Rattle.std.specs.List.{All}
use Rattle.std.proofs.lemmas.Result.{err_from_is_err_and}
use Rattle.rela_labels.specs.Letters.{has}
use Rattle.rela_nfa.specs.Automaton.{Automaton, states}
use Rattle.rela_subset.specs.Searching.{IsSearched, IsSpreadUpTo}
use Rattle.rela_subset.proofs.Finding.{found_within}
use Rattle.rela_subset.proofs.Searching.{more_unwanted, searched_more, searched_whole}
use Rattle.rela_subset.proofs.Standing.{sets_before}
use Rattle.rela_subset.proofs.search.search.Goals as goal

pub spread-requires-clause-states : goal.spread-requires-clause-states
spread-requires-clause-states g c =
    let searched = c.loop-number.invariant.searched in
    subst (λ (a : Automaton). All (λ q. q < states a) (get_or c.loop-number.sets c.loop-number.number [])) (sym c.loop-number.invariant.same)
    (found_within c.args.a.now (g.L.LabelSet.letters c.args.over.now) c.loop-number.sets searched.words c.loop-number.number searched.found c.requires.automaton c.loop-number.number
    (omega (arith, c.loop-number-test.true, c.len.ensures.len)))

pub spread-requires-clause-letters : goal.spread-requires-clause-letters
spread-requires-clause-letters g c = c.requires.letters ∙ sym (ap (λ (a : Automaton). a.letters) c.loop-number.invariant.same)

pub spread-requires-clause-count : goal.spread-requires-clause-count
spread-requires-clause-count g c = c.loop-number.invariant.count ∙ c.requires.count ∙ sym (ap (λ (a : Automaton). states a) c.loop-number.invariant.same)

pub returns-in-Some-first_wanted-clause-found : goal.returns-in-Some-first_wanted-clause-found
returns-in-Some-first_wanted-clause-found g c =
    let over = g.L.LabelSet.letters c.args.over.now in
    let sets = c.loop-number.sets in
    let left : c.loop-number.number < length sets = omega (arith, c.loop-number-test.true, c.len.ensures.len) in
    let (letters, arrived, spreads) = c.in_ok-spread.ensures.spread in
    let upto = subst (λ (a : Automaton). IsSpreadUpTo c.args.limit a over (get_or sets c.loop-number.number []) sets c.spread.new.sets letters) c.loop-number.invariant.same spreads in (
      record {
        within = c.in-Some-first_wanted.ensures.within;
        here = c.in-Some-first_wanted.ensures.wanted;
        before =
            more_unwanted c.args.a.now over upto.0 sets c.loop-number.arrivals.items c.loop-number.number c.loop-number.invariant.searched left c.spread.new.sets letters c.spread.new.arrivals.items
            arrived upto.1 (g.W.Wanted.wants c.args.wanted.now) c.loop-number.invariant.unwanted c.in-Some-first_wanted.found
            (λ i new below. c.in-Some-first_wanted.ensures.before i (omega (arith, new, c.len-known.ensures.len)) below);
      },
      (
        c.loop-number.number + 1,
        upto.0,
        searched_more c.args.a.now over upto.0 sets c.loop-number.arrivals.items c.loop-number.number c.loop-number.invariant.searched left c.spread.new.sets letters c.spread.new.arrivals.items
            arrived upto.1,
      ),
    )

pub returns-in_err-within-clause-limit : goal.returns-in_err-within-clause-limit
returns-in_err-within-clause-limit g c =
    let over = g.L.LabelSet.letters c.args.over.now in
    let wants = g.W.Wanted.wants c.args.wanted.now in
    let sets = c.loop-number.sets in
    let left : c.loop-number.number < length sets = omega (arith, c.loop-number-test.true, c.len.ensures.len) in
    let (letters, arrived, spreads) = c.in_ok-spread.ensures.spread in
    let upto = subst (λ (a : Automaton). IsSpreadUpTo c.args.limit a over (get_or sets c.loop-number.number []) sets c.spread.new.sets letters) c.loop-number.invariant.same spreads in
    let searched : IsSearched c.args.a.now over upto.0 c.spread.new.sets c.spread.new.arrivals.items (c.loop-number.number + 1) =
    searched_more c.args.a.now over upto.0 sets c.loop-number.arrivals.items c.loop-number.number c.loop-number.invariant.searched left c.spread.new.sets letters c.spread.new.arrivals.items arrived
    upto.1 in
    let e = err_from_is_err_and c.from_residual-in_err-within.result c.from_residual-in_err-within.ensures.1 in
    rw (e.1, e.2) (λ _.
    sets_before (record { irreflexive = c.shortlex_is_irreflexive.ensures; transitive = c.shortlex_is_transitive.ensures }) c.args.a.now over upto.0 c.spread.new.sets searched.words (c.loop-number.number + 1) searched.found searched.out wants (c.args.limit + 1)
    (omega (arith, c.in_err-within.ensures.limit.1, c.len-in-loop-number.ensures.len)) c.len-in-loop-number.ensures.distinct
    (more_unwanted c.args.a.now over upto.0 sets c.loop-number.arrivals.items c.loop-number.number c.loop-number.invariant.searched left c.spread.new.sets letters c.spread.new.arrivals.items arrived
    upto.1 wants c.loop-number.invariant.unwanted (length c.spread.new.sets)
    (λ i new below. c.in_default-first_wanted.ensures.none i (omega (arith, new, c.len-known.ensures.len)) below)))

pub loop-number-preserved : goal.loop-number-preserved
loop-number-preserved g c =
    let over = g.L.LabelSet.letters c.args.over.now in
    let sets = c.loop-number.sets in
    let left : c.loop-number.number < length sets = omega (arith, c.loop-number-test.true, c.len.ensures.len) in
    let (letters, arrived, spreads) = c.in_ok-spread.ensures.spread in
    let upto = subst (λ (a : Automaton). IsSpreadUpTo c.args.limit a over (get_or sets c.loop-number.number []) sets c.spread.new.sets letters) c.loop-number.invariant.same spreads in
    let none : (k : ℕ) → has upto.0 k ≡ false = elim upto.2 [
      | inl none ↦ none
      | inr past ↦ absurd (omega (arith, past, c.in_ok-within.ensures.few, c.len-in-loop-number.ensures.len))
    ] in
    record {
      searched =
          searched_whole c.args.a.now over upto.0 c.spread.new.sets c.spread.new.arrivals.items (c.loop-number.number + 1) none
          (searched_more c.args.a.now over upto.0 sets c.loop-number.arrivals.items c.loop-number.number c.loop-number.invariant.searched left c.spread.new.sets letters
          c.spread.new.arrivals.items arrived upto.1);
      same = c.in_ok-spread.ensures.automaton ∙ c.loop-number.invariant.same;
      count = c.in_ok-spread.ensures.count ∙ c.loop-number.invariant.count;
      few = omega (arith, c.in_ok-within.ensures.few, c.len-in-loop-number.ensures.len);
      unwanted =
          more_unwanted c.args.a.now over upto.0 sets c.loop-number.arrivals.items c.loop-number.number c.loop-number.invariant.searched left c.spread.new.sets letters c.spread.new.arrivals.items
          arrived upto.1 (g.W.Wanted.wants c.args.wanted.now) c.loop-number.invariant.unwanted (length c.spread.new.sets)
          (λ i new below. c.in_default-first_wanted.ensures.none i (omega (arith, new, c.len-known.ensures.len)) below);
    }
