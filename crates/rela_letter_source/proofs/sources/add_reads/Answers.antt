use Rattle.std.proofs.Common.{length, sym, subst, ◌∙◌}
use Rattle.std.proofs.lemmas.Bool.{eqb-true}
use Rattle.std.proofs.lemmas.List.{nil_from_length}
use Rattle.rela_letter_source.specs.Growth.{Grows}
use Rattle.rela_letter_image.specs.LetterMoves.{laid}
use Rattle.rela_letter_source.proofs.GrownSteps.{grows_none}
use Rattle.rela_letter_source.proofs.LaidOut.{none_read}
use Rattle.rela_letter_source.proofs.sources.add_reads.Goals as goal

pub returns-then-is_empty-2 : goal.returns-then-is_empty-2
returns-then-is_empty-2 c =
    let g = c.args.growing.now in
    let moves = laid c.args.moves in
    let no_set = nil_from_length moves.by_set (eqb-true (length moves.by_set) 0 (sym c.is_empty.ensures ∙ c.if-is_empty.true)) in
    let no_letter = nil_from_length moves.by_letter (eqb-true (length moves.by_letter) 0 (sym c.is_empty-then-is_empty.ensures ∙ c.if-is_empty-2.true)) in
    subst (λ l. Grows l g g) (sym (none_read c.args.letters c.args.coarse.now c.args.next c.args.written c.args.edges.now moves c.requires.below no_set no_letter)) (grows_none g)
