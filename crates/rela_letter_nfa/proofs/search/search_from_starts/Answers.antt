use Rattle.std.proofs.Common.{[], sym, ◌∙◌, subst, arith}
use Rattle.std.proofs.lemmas.Bool.{false≢true}
use Rattle.std.proofs.lemmas.Result.{err_from_is_err_and}
use Rattle.rela_letter_nfa.specs.Pair.{IsSoughtSet, joined, starts_of}
use Rattle.rela_letter_nfa.specs.Sets.{LeadsFrom, Lists}
use Rattle.rela_letter_nfa.proofs.Beginning.{begun, begun_found, begun_unwanted, start_reached}
use Rattle.rela_letter_nfa.proofs.search.search_from_starts.Goals as goal

pub returns-then-is_sought-clause-found : goal.returns-then-is_sought-clause-found
returns-then-is_sought-clause-found c = λ _.
    let pair = c.args.both.now in
    let set = c.sort.new.self.states in
    let is : Lists (LeadsFrom (joined pair) (starts_of pair) []) set =
    start_reached (joined pair) (starts_of pair) c.args.visited.now.states c.insert_starts.new.visited.states c.close.new.visited.states set c.requires.none c.in_ok-insert_starts.ensures.adds
    c.in_ok-close.ensures.closed c.in_ok-sort.ensures.sorted in
    begun_found c.args.sought pair c.args.sets.now c.insert.new.self c.args.arrivals.now.items set c.states.result.now c.in_ok-insert.field-0 c.in_ok-insert.ensures c.requires.no_sets
    c.states.ensures.states c.requires.no_arrivals is (subst (IsSoughtSet c.args.sought pair) c.states-2.ensures.states (c.is_sought.ensures.0 c.if-is_sought.true))

pub returns-in_err-within-clause-limit : goal.returns-in_err-within-clause-limit
returns-in_err-within-clause-limit c =
    let pair = c.args.both.now in
    let set = c.sort.new.self.states in
    let is : Lists (LeadsFrom (joined pair) (starts_of pair) []) set =
    start_reached (joined pair) (starts_of pair) c.args.visited.now.states c.insert_starts.new.visited.states c.close.new.visited.states set c.requires.none c.in_ok-insert_starts.ensures.adds
    c.in_ok-close.ensures.closed c.in_ok-sort.ensures.sorted in
    let e = err_from_is_err_and c.from_residual-in_err-within.result c.from_residual-in_err-within.ensures.1 in
    rw (e.1, e.2) (λ _. record {
      searched = (
        0,
        0,
        begun c.args.sought pair c.args.sets.now c.insert.new.self c.args.arrivals.now.items set c.states.result.now c.in_ok-insert.field-0 c.in_ok-insert.ensures c.requires.no_sets
            c.states.ensures.states c.requires.no_arrivals is,
      );
      unwanted =
          begun_unwanted c.args.sought pair c.args.sets.now c.insert.new.self c.args.arrivals.now.items set c.states.result.now c.in_ok-insert.field-0 c.in_ok-insert.ensures c.requires.no_sets
          c.states.ensures.states
          (λ wanted. false≢true (sym c.if-is_sought.false ∙ c.is_sought.ensures.1 (subst (IsSoughtSet c.args.sought pair) (sym c.states-2.ensures.states) wanted)));
      past = record { past = omega (arith, c.in_err-within.ensures.limit.1, c.len.ensures.len); small = omega (arith, c.in_err-within.ensures.limit.1, c.len.ensures.small); distinct = c.len.ensures.distinct };
    })

pub search_on-requires-clause-searched : goal.search_on-requires-clause-searched
search_on-requires-clause-searched c =
    let pair = c.args.both.now in
    let set = c.sort.new.self.states in
    let is : Lists (LeadsFrom (joined pair) (starts_of pair) []) set =
    start_reached (joined pair) (starts_of pair) c.args.visited.now.states c.insert_starts.new.visited.states c.close.new.visited.states set c.requires.none c.in_ok-insert_starts.ensures.adds
    c.in_ok-close.ensures.closed c.in_ok-sort.ensures.sorted in
    begun c.args.sought pair c.args.sets.now c.insert.new.self c.args.arrivals.now.items set c.states.result.now c.in_ok-insert.field-0 c.in_ok-insert.ensures c.requires.no_sets
    c.states.ensures.states c.requires.no_arrivals is

pub search_on-requires-clause-unwanted : goal.search_on-requires-clause-unwanted
search_on-requires-clause-unwanted c =
    let pair = c.args.both.now in
    let set = c.sort.new.self.states in
    begun_unwanted c.args.sought pair c.args.sets.now c.insert.new.self c.args.arrivals.now.items set c.states.result.now c.in_ok-insert.field-0 c.in_ok-insert.ensures c.requires.no_sets
    c.states.ensures.states (λ wanted. false≢true (sym c.if-is_sought.false ∙ c.is_sought.ensures.1 (subst (IsSoughtSet c.args.sought pair) (sym c.states-2.ensures.states) wanted)))
