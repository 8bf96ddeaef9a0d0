use Rattle.std.proofs.Common.{arith, get_or, subst, sym, take}
use Rattle.std.specs.List.{All}
use Rattle.std.proofs.lemmas.Bool.{false≢true}
use Rattle.std.proofs.lemmas.List.{take_all, take_more}
use Rattle.std.proofs.lemmas.List.Elements.{All-push}
use Rattle.rela_letter_nfa.specs.declared.edge.LetterEdge.{LetterEdge}
use Rattle.rela_letter_image.specs.Coarse.{coarse_of}
use Rattle.rela_letter_image.specs.Needs.{IsEdgeAhead}
use Rattle.rela_letter_image.proofs.ahead.are_edges_ahead.Goals as goal

pub returns-then-not-is_edge_ahead : goal.returns-then-not-is_edge_ahead
returns-then-not-is_edge_ahead c = λ no. absurd (false≢true no)

pub loop-edge-preserved : goal.loop-edge-preserved
loop-edge-preserved c =
    let P : LetterEdge → Type 0 = IsEdgeAhead (coarse_of c.args.letters c.args.coarse.now) c.args.ahead.now c.args.here in
    let edges = c.args.edges.now in
    let i = c.loop-edge.edge-index in
    let e : LetterEdge = record { letter = 0; to = 0 } in
    subst (All P) (sym (take_more edges i e c.loop-edge-test.true))
    (All-push P (take i edges) (get_or edges i e) c.loop-edge.invariant (c.is_edge_ahead.ensures c.if-not-is_edge_ahead.false))

pub returns : goal.returns
returns c = λ yes. subst (All (IsEdgeAhead (coarse_of c.args.letters c.args.coarse.now) c.args.ahead.now c.args.here)) (take_all c.loop-edge.edge-index c.args.edges.now (omega (arith, c.loop-edge-test.false))) c.loop-edge.invariant
