use Rattle.std.proofs.Common.{◌≡◌, ◌+◌, ◌<◌, ℕ, List, [], Err, get_or, refl, sym, ◌∙◌, subst, arith}
use Rattle.std.specs.List.{All, flat_map}
use Rattle.std.specs.List.Sorted.{IsPermutation}
use Rattle.rela_letter_nfa.specs.LetterAutomaton.{edges_of, states}
use Rattle.rela_letter_nfa.specs.Outgoing.{AreComing}
use Rattle.rela_letter_nfa.specs.Pair.{joined, starts_of}
use Rattle.rela_letter_nfa.specs.Searching.{HasArrived}
use Rattle.rela_letter_nfa.proofs.Arriving.{arrived_coming, arrived_longer, arrived_searched, arrived_within}
use Rattle.rela_letter_nfa.proofs.EdgesOut.{coming_first, coming_lead, coming_none, coming_start, rest_shorter}
use Rattle.rela_letter_nfa.proofs.Joined.{joined_is}
use Rattle.rela_letter_nfa.proofs.Searching.{searched_turn}
use Rattle.rela_letter_nfa.proofs.Within.{set_within}
use Rattle.rela_letter_nfa.proofs.spreading.spread.Goals as goal

pub edges_out-requires : goal.edges_out-requires
edges_out-requires c =
    let number = c.args.number in
    subst (All (λ q. q < states (joined c.args.both.now))) (sym c.get.ensures)
    (set_within c.args.both.now c.requires.paired (get_or c.requires.searched.words number []) (get_or c.args.sets.now number []) (c.requires.searched.reached number c.requires.number))

pub loop-first-init : goal.loop-first-init
loop-first-init c =
    let u = joined c.args.both.now in
    let set : List ℕ = get_or c.args.sets.now c.args.number [] in
    let edges = c.edges_out.new.edges.items in
    let same : IsPermutation (flat_map (edges_of u) set) edges = subst (λ s. IsPermutation (flat_map (edges_of u) s) edges) c.get.ensures c.in_ok-edges_out.ensures.same in
    record {
      number = c.requires.number;
      longer = omega arith;
      few = c.requires.few;
      unwanted = c.requires.unwanted;
      count = refl;
      searched = (0, c.requires.searched, subst (AreComing u set 0) (sym c.as_slice-rest.ensures.value) (coming_start u set edges c.in_ok-edges_out.ensures.rising same));
    }

pub follow-requires-clause-lead : goal.follow-requires-clause-lead
follow-requires-clause-lead c =
    let (bound, searched, coming) = c.loop-first.invariant.searched in
    coming_lead (joined c.args.both.now) (get_or c.loop-first.sets c.args.number []) bound c.loop-first.rest.now coming (joined_is c.args.both.now c.requires.paired)

pub follow-requires-clause-first : goal.follow-requires-clause-first
follow-requires-clause-first c =
    let (bound, searched, coming) = c.loop-first.invariant.searched in
    coming_first (joined c.args.both.now) (get_or c.loop-first.sets c.args.number []) bound c.loop-first.rest.now coming c.in-Some.first.now _ c.in-Some.ensures.cases.0

pub returns-in_err-found-clause-limit : goal.returns-in_err-found-clause-limit
returns-in_err-found-clause-limit c =
    let fault : c.from_residual-in_err-found.result ≡ Err c.in_err-found.field-0.0 = grind arith in
    let at = c.loop-first.invariant in
    let (bound, searched, coming) = at.searched in
    let first = c.in-Some.first.now in
    let set = c.follow.new.visited.states in
    rw fault (λ is_limit.
    let arrived = subst (λ s. HasArrived s (record { from = c.args.number; letter = first.letter }) c.loop-first.sets c.arrive.new.sets c.loop-first.arrivals.items c.arrive.new.arrivals.items)
    c.states.ensures.states (c.in_err-found.ensures.limit is_limit) in
    record {
      searched = (
        c.args.number,
        first.letter + 1,
        arrived_searched (joined c.args.both.now) (starts_of c.args.both.now) c.loop-first.sets c.loop-first.arrivals.items c.args.number bound searched at.number c.loop-first.rest.now coming first _
            c.in-Some.ensures.cases.0 set c.in_ok-rest.ensures.next c.arrive.new.sets c.arrive.new.arrivals.items arrived,
      );
      unwanted = c.in_err-found.ensures.not_sought is_limit;
      past = c.in_err-found.ensures.past is_limit;
    })

pub returns-then-found-clause-found : goal.returns-then-found-clause-found
returns-then-found-clause-found c = λ _.
    let at = c.loop-first.invariant in
    let (bound, searched, coming) = at.searched in
    let first = c.in-Some.first.now in
    let set = c.follow.new.visited.states in
    let arrived = subst (λ s. HasArrived s (record { from = c.args.number; letter = first.letter }) c.loop-first.sets c.arrive.new.sets c.loop-first.arrivals.items c.arrive.new.arrivals.items)
    c.states.ensures.states c.in_ok-found.ensures.arrived in
    record {
      searched = (
        c.args.number,
        first.letter + 1,
        arrived_searched (joined c.args.both.now) (starts_of c.args.both.now) c.loop-first.sets c.loop-first.arrivals.items c.args.number bound searched at.number c.loop-first.rest.now coming first _
            c.in-Some.ensures.cases.0 set c.in_ok-rest.ensures.next c.arrive.new.sets c.arrive.new.arrivals.items arrived,
      );
      last = c.in_ok-found.ensures.found c.if-found.true;
    }

pub returns-then-found-clause-longer : goal.returns-then-found-clause-longer
returns-then-found-clause-longer c =
    let at = c.loop-first.invariant in
    let first = c.in-Some.first.now in
    let set = c.follow.new.visited.states in
    let arrived = subst (λ s. HasArrived s (record { from = c.args.number; letter = first.letter }) c.loop-first.sets c.arrive.new.sets c.loop-first.arrivals.items c.arrive.new.arrivals.items)
    c.states.ensures.states c.in_ok-found.ensures.arrived in
    omega (
      arith,
      at.longer,
      arrived_longer c.loop-first.sets c.arrive.new.sets c.loop-first.arrivals.items c.arrive.new.arrivals.items c.args.number at.number set
          (record { from = c.args.number; letter = first.letter }) arrived,
    )

pub loop-first-smaller : goal.loop-first-smaller
loop-first-smaller c = rest_shorter c.loop-first.rest.now c.in_ok-rest.rest.now c.in-Some.first.now _ c.in-Some.ensures.cases.0 c.in_ok-rest.ensures.rest

pub loop-first-preserved : goal.loop-first-preserved
loop-first-preserved c =
    let at = c.loop-first.invariant in
    let (bound, searched, coming) = at.searched in
    let u = joined c.args.both.now in
    let starts = starts_of c.args.both.now in
    let first = c.in-Some.first.now in
    let set = c.follow.new.visited.states in
    let sets = c.loop-first.sets in
    let new = c.arrive.new.sets in
    let arrivals = c.loop-first.arrivals.items in
    let after = c.arrive.new.arrivals.items in
    let arrived = subst (λ s. HasArrived s (record { from = c.args.number; letter = first.letter }) sets new arrivals after) c.states.ensures.states c.in_ok-found.ensures.arrived in
    record {
      number = arrived_within sets new arrivals after c.args.number at.number set (record { from = c.args.number; letter = first.letter }) arrived;
      longer = omega (arith, at.longer, arrived_longer sets new arrivals after c.args.number at.number set (record { from = c.args.number; letter = first.letter }) arrived);
      few = c.in_ok-found.ensures.few c.if-found.false;
      unwanted = c.in_ok-found.ensures.unwanted c.if-found.false;
      count = c.in_ok-rest.ensures.count ∙ at.count;
      searched = (
        first.letter + 1,
        arrived_searched u starts sets arrivals c.args.number bound searched at.number c.loop-first.rest.now coming first _ c.in-Some.ensures.cases.0 set c.in_ok-rest.ensures.next new after arrived,
        arrived_coming u starts sets arrivals c.args.number bound searched at.number c.loop-first.rest.now coming first _ c.in-Some.ensures.cases.0 set c.in_ok-rest.ensures.next new after arrived
            c.in_ok-rest.rest.now c.in_ok-rest.ensures.rest,
      );
    }

pub returns-clause-searched : goal.returns-clause-searched
returns-clause-searched c = λ _.
    let (bound, searched, coming) = c.loop-first.invariant.searched in
    let u = joined c.args.both.now in
    searched_turn u (starts_of c.args.both.now) c.loop-first.sets c.loop-first.arrivals.items c.args.number bound searched
    (coming_none u (get_or c.loop-first.sets c.args.number []) bound c.loop-first.rest.now coming c.in_default.ensures.cases)
