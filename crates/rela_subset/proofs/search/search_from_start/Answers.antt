use Rattle.std.proofs.Common.{[], sym, subst}
use Rattle.std.specs.List.{Contains}
use Rattle.rela_nfa.specs.StateSet.{Lists}
use Rattle.rela_subset.specs.Sets.{ReachedBy}
use Rattle.rela_subset.proofs.Determined.{first_alone}
use Rattle.rela_subset.proofs.Following.{lists_same}
use Rattle.rela_subset.proofs.Searching.{searched_start}
use Rattle.rela_subset.proofs.search.search_from_start.Goals as goal

pub search-requires-clause-searched : goal.search-requires-clause-searched
search-requires-clause-searched g c =
    searched_start c.args.a.now (g.L.LabelSet.letters c.args.over.now) c.states-first.result.now c.number.new.self c.args.arrivals.now.items
    (first_alone c.args.sets.now c.number.new.self c.states-first.result.now c.in_ok-number.field-0 c.requires.no_sets c.in_ok-number.ensures.within c.in_ok-number.ensures.grown)
    c.requires.no_arrivals
    (subst (Lists (ReachedBy c.args.a.now [])) (sym c.states-first.ensures.states)
    (lists_same (Contains c.reach_first.new.set.states) (ReachedBy c.args.a.now []) c.sort.new.self.states c.in_ok-reach_first.ensures.reached c.sort.ensures.sorted))
