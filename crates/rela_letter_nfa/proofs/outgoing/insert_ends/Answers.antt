use Rattle.std.proofs.Common.{◌<◌, ◌≤◌, List, ◌∙◌, subst, arith}
use Rattle.std.specs.List.Sorted.{IsNonDecreasingBy}
use Rattle.rela_letter_nfa.specs.declared.edge.LetterEdge.{LetterEdge}
use Rattle.rela_letter_nfa.proofs.EdgesOut.{all_past, first_has, passing_all, passing_more, rest_all, rest_is, rising_tail}
use Rattle.rela_letter_nfa.proofs.outgoing.insert_ends.Goals as goal

pub returns-then-first-letter-clause-adds : goal.returns-then-first-letter-clause-adds
returns-then-first-letter-clause-adds c =
    let at = c.loop-first.invariant in
    let edges = c.args.edges.now in
    let rest = c.loop-first.rest.now in
    let from = rest_all c.args.letter edges rest c.args.visited.now.states c.loop-first.visited.states at.passing (λ (e : LetterEdge). c.args.letter ≤ e.letter) c.requires.first in
    passing_all c.args.letter edges rest c.args.visited.now.states c.loop-first.visited.states at.passing
    (all_past rest c.args.letter c.in-Some.first.now c.in-Some.later.now c.in-Some.ensures.cases.0 at.rising from c.if-first-letter.true)

pub returns-then-first-letter-clause-rest : goal.returns-then-first-letter-clause-rest
returns-then-first-letter-clause-rest c =
    let at = c.loop-first.invariant in
    let edges = c.args.edges.now in
    let rest = c.loop-first.rest.now in
    let from = rest_all c.args.letter edges rest c.args.visited.now.states c.loop-first.visited.states at.passing (λ (e : LetterEdge). c.args.letter ≤ e.letter) c.requires.first in
    rest_is c.args.letter edges rest c.args.visited.now.states c.loop-first.visited.states at.passing
    (all_past rest c.args.letter c.in-Some.first.now c.in-Some.later.now c.in-Some.ensures.cases.0 at.rising from c.if-first-letter.true) at.rising

pub insert-requires : goal.insert-requires
insert-requires c =
    let at = c.loop-first.invariant in
    let count = c.args.visited.now.count in
    let lead = rest_all c.args.letter c.args.edges.now c.loop-first.rest.now c.args.visited.now.states c.loop-first.visited.states at.passing (λ (e : LetterEdge). e.to < count) c.requires.lead in
    let first : c.in-Some.first.now.to < count = first_has (λ (e : LetterEdge). e.to < count) c.loop-first.rest.now c.in-Some.first.now c.in-Some.later.now c.in-Some.ensures.cases.0 lead in
    omega (arith, first, at.count)

pub loop-first-preserved : goal.loop-first-preserved
loop-first-preserved c =
    let at = c.loop-first.invariant in
    let first = c.in-Some.first.now in
    let later = c.in-Some.later.now in
    record {
      count = c.in_ok-insert.ensures.count ∙ at.count;
      rising = rising_tail first later (subst (λ (es : List LetterEdge). IsNonDecreasingBy (λ edge. edge.letter) es) c.in-Some.ensures.cases.0 at.rising);
      passing =
          passing_more c.args.letter c.args.edges.now c.loop-first.rest.now c.args.visited.now.states c.loop-first.visited.states at.passing first later c.insert.new.self.states
          c.in-Some.ensures.cases.0 c.if-first-letter.false c.in_ok-insert.ensures.inserted;
    }
