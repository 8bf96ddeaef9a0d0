use Rattle.std.proofs.Common.{ap, ◌∙◌, get_or, subst}
use Rattle.std.proofs.lemmas.List.{get_or_default}
use Rattle.rela_letter_nfa.specs.declared.edge.LetterEdge.{LetterEdge}
use Rattle.rela_letter_image.specs.Coarse.{coarse_of}
use Rattle.rela_letter_image.specs.Growth.{Grows}
use Rattle.rela_letter_image.specs.LetterMoves.{all_moves, laid}
use Rattle.rela_letter_image.specs.Steps.{laid_out_steps, read_steps}
use Rattle.rela_letter_image.proofs.GrownSteps.{grows_none, grows_flat_more}
use Rattle.rela_letter_image.proofs.LaidOut.{read_all}
use Rattle.rela_letter_image.proofs.product.add_edges.Goals as goal

pub loop-edge-init : goal.loop-edge-init
loop-edge-init c = grows_none c.args.growing.now

pub loop-edge-preserved : goal.loop-edge-preserved
loop-edge-preserved c =
    let edges = c.args.edges.now in
    let i = c.loop-edge.edge-index in
    let none : LetterEdge = record { letter = 0; to = 0 } in
    let edge : LetterEdge = get_or edges i none in
    let letters = c.args.letters in
    let state = laid c.args.moves in
    let read = coarse_of letters c.args.coarse.now in
    grows_flat_more edges i edge c.loop-edge-test.true (get_or_default edges i edge none c.loop-edge-test.true) c.args.growing.now c.loop-edge.growing c.add_edge_moves.new.growing
    (λ e. read_steps (read e.letter) e (all_moves letters state)) c.loop-edge.invariant
    (subst (λ l. Grows l c.loop-edge.growing c.add_edge_moves.new.growing)
    (ap (λ k. laid_out_steps k edge state) c.coarse_letter-letter.ensures ∙ read_all letters (read edge.letter) edge state c.requires.below) c.in_ok-add_edge_moves.ensures)
