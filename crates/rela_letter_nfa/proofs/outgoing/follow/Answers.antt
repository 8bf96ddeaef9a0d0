use Rattle.std.proofs.Common.{subst}
use Rattle.std.specs.List.{Contains}
use Rattle.rela_letter_nfa.specs.Outgoing.{HasEnd, NextBy}
use Rattle.rela_letter_nfa.specs.Pair.{joined}
use Rattle.rela_letter_nfa.specs.Sets.{Adds}
use Rattle.rela_letter_nfa.proofs.EdgesOut.{next_by}
use Rattle.rela_letter_nfa.proofs.Growing.{adds_all}
use Rattle.rela_letter_nfa.proofs.Reached.{lists_same}
use Rattle.rela_letter_nfa.proofs.outgoing.follow.Goals as goal

pub returns-clause-next : goal.returns-clause-next
returns-clause-next c =
    let u = joined c.args.both.now in
    let edges = c.args.edges.now in
    let ends = c.insert_ends.new.visited.states in
    let now = c.close.new.visited.states in
    lists_same (Contains now) (NextBy u edges c.args.letter) c.sort.new.self.states
    (next_by u edges c.args.letter ends now
    (adds_all (HasEnd edges c.args.letter) ends (subst (λ l. Adds (HasEnd edges c.args.letter) l ends) c.clear.ensures.none c.in_ok-rest.ensures.adds)) c.in_ok-close.ensures.closed)
    c.in_ok-sort.ensures.sorted
