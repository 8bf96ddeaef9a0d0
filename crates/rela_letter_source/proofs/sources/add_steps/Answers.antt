use Rattle.std.proofs.Common.{◌∙◌, ap, subst}
use Rattle.std.proofs.lemmas.Result.{on_ok_weaker}
use Rattle.rela_letter_image.specs.LetterMoves.{all_moves, laid}
use Rattle.rela_letter_source.specs.Growth.{Grows}
use Rattle.rela_letter_source.proofs.GrownSteps.{grows_steps}
use Rattle.rela_letter_source.proofs.LaidOut.{alone_all}
use Rattle.rela_letter_source.proofs.sources.add_steps.Goals as goal

pub returns : goal.returns
returns c =
    let letters = c.letters-letters.result in
    let next = c.next_letter-next.result in
    let x = c.args.x in
    let state = laid c.moves-moves.result in
    let alone = subst (λ l. Grows l c.add_silents.new.growing c.add_moves.new.growing) (alone_all next x letters state) c.in_ok-add_moves.ensures in
    let moves_are = ap (λ n. all_moves n state) c.letters-letters.ensures.letters ∙ c.moves-moves.ensures.moves in
    on_ok_weaker c.add_reads.result
    (λ reads.
    grows_steps c.args.coarse.now c.args.word.now c.args.paths.now c.args.relation.now x letters next c.silent.result.now (all_moves letters state) c.edges.result.now c.silent.ensures.silent moves_are c.edges.ensures.edges
    c.letters-letters.ensures.letters c.next_letter-next.ensures c.args.growing.now c.add_silents.new.growing c.add_moves.new.growing c.add_reads.new.growing c.in_ok-add_silents.ensures alone reads) c.add_reads.ensures
