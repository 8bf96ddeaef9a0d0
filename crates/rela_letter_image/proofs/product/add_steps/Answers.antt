use Rattle.std.proofs.Common.{◌∙◌, ap, subst}
use Rattle.std.proofs.lemmas.Result.{on_ok_weaker}
use Rattle.rela_letter_image.specs.Growth.{Grows}
use Rattle.rela_letter_image.specs.LetterMoves.{all_moves, laid}
use Rattle.rela_letter_image.proofs.GrownSteps.{grows_steps}
use Rattle.rela_letter_image.proofs.LaidOut.{alone_all}
use Rattle.rela_letter_image.proofs.product.add_steps.Goals as goal

pub returns : goal.returns
returns c =
    let letters = c.letters.result in
    let state = laid c.moves-moves.result in
    let coarse = c.args.coarse.now in
    let pair = c.args.pair in
    let alone = subst (λ l. Grows l c.add_silents.new.growing c.add_moves.new.growing) (alone_all coarse pair.left letters state) c.in_ok-add_moves.ensures in
    let moves_are = ap (λ n. all_moves n state) c.letters.ensures.letters ∙ c.moves-moves.ensures.moves in
    on_ok_weaker c.add_reads.result
    (λ reads.
    grows_steps coarse c.args.paths.now c.args.relation.now pair letters c.silent.result.now (all_moves letters state) c.edges.result.now c.silent.ensures.silent moves_are c.edges.ensures.edges c.letters.ensures.letters
    c.args.growing.now c.add_silents.new.growing c.add_moves.new.growing c.add_reads.new.growing c.in_ok-add_silents.ensures alone reads) c.add_reads.ensures
