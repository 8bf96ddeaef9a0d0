use Rattle.std.proofs.Common.{◌≤◌, ◌≡◌, ◌+◌, ◌-◌, ◌++◌, ◌∷◌, [], length, get_or, take, sym, subst, arith}
use Rattle.std.specs.List.{All}
use Rattle.std.specs.List.Sorted.{IsNonDecreasingBy}
use Rattle.std.proofs.lemmas.List.{take_all, take_more}
use Rattle.std.proofs.lemmas.List.Elements.{All-push}
use Rattle.std.proofs.lemmas.List.Sorted.{IsNonDecreasingBy-push}
use Rattle.rela_letter_nfa.specs.declared.edge.LetterEdge.{LetterEdge}
use Rattle.rela_letter_nfa.proofs.outgoing.is_rising.Goals as goal

pub loop-edge-preserved : goal.loop-edge-preserved
loop-edge-preserved c =
    let edges = c.args.edges.now in
    let i = c.loop-edge.edge-index in
    let e : LetterEdge = record { letter = 0; to = 0 } in
    let x : LetterEdge = get_or edges i e in
    let more : take (i + 1) edges ≡ take i edges ++ x ∷ [] = take_more edges i e c.loop-edge-test.true in
    let later : c.loop-edge.last ≤ x.letter = omega (arith, c.if-edge-last.false) in
    record {
      rising =
          subst (IsNonDecreasingBy (λ (y : LetterEdge). y.letter)) (sym more)
          (IsNonDecreasingBy-push (λ (y : LetterEdge). y.letter) (take i edges) x c.loop-edge.invariant.rising
          (λ d some. let upto : (get_or (take i edges) (length (take i edges) - 1) d).letter ≤ c.loop-edge.last = c.loop-edge.invariant.upto (length (take i edges) - 1) d (omega (arith, some)) in omega (arith, upto, later)));
      upto =
          subst (All (λ (y : LetterEdge). y.letter ≤ x.letter)) (sym more)
          (All-push (λ (y : LetterEdge). y.letter ≤ x.letter) (take i edges) x
          (λ k d below. let upto : (get_or (take i edges) k d).letter ≤ c.loop-edge.last = c.loop-edge.invariant.upto k d below in omega (arith, upto, later))
          (omega arith));
    }

pub returns : goal.returns
returns c is =
    subst (IsNonDecreasingBy (λ (y : LetterEdge). y.letter)) (take_all c.loop-edge.edge-index c.args.edges.now (omega (arith, c.loop-edge-test.false))) c.loop-edge.invariant.rising
