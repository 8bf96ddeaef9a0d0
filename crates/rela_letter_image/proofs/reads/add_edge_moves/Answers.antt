use Rattle.std.proofs.Common.{map}
use Rattle.std.proofs.lemmas.Result.{on_ok_weaker}
use Rattle.rela_letter_image.specs.LetterMoves.{laid, set_move}
use Rattle.rela_letter_image.specs.Steps.{letter_steps, read_steps}
use Rattle.rela_letter_image.proofs.GrownSteps.{grows_both}
use Rattle.rela_letter_image.proofs.reads.add_edge_moves.Goals as goal

pub returns : goal.returns
returns c =
    let k = c.args.coarse in
    let edge = c.args.edge in
    let moves = laid c.args.moves in
    on_ok_weaker c.add_by_letters.result
    (grows_both (read_steps k edge (map set_move moves.by_set)) (letter_steps k edge moves.by_letter) c.args.growing.now c.add_by_sets.new.growing c.add_by_letters.new.growing c.in_ok-add_by_sets.ensures) c.add_by_letters.ensures
