use Rattle.std.proofs.Common.{map}
use Rattle.std.proofs.lemmas.Result.{on_ok_weaker}
use Rattle.rela_letter_image.specs.LetterMoves.{laid, set_move}
use Rattle.rela_letter_source.specs.Steps.{letter_steps, read_steps}
use Rattle.rela_letter_source.proofs.GrownSteps.{grows_both}
use Rattle.rela_letter_source.proofs.sources.add_edge_moves.Goals as goal

pub returns : goal.returns
returns c =
    let edge = c.args.edge in
    let moves = laid c.args.moves in
    on_ok_weaker c.add_by_letters.result
    (grows_both (read_steps edge (map set_move moves.by_set)) (letter_steps edge moves.by_letter) c.args.growing.now c.add_by_sets.new.growing c.add_by_letters.new.growing c.in_ok-add_by_sets.ensures) c.add_by_letters.ensures
