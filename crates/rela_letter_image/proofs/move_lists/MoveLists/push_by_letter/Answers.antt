use Rattle.std.proofs.Common.{◌∙◌}
use Rattle.std.proofs.lemmas.Result.{on_ok_weaker}
use Rattle.rela_letter_image.specs.LetterMoves.{laid_side_by_side, with_letter}
use Rattle.rela_letter_image.proofs.move_lists.MoveLists.push_by_letter.Goals as goal

pub returns : goal.returns
returns c =
    let inside = c.self.inside in
    on_ok_weaker c.push.result
    (λ is. (λ i. (laid_side_by_side inside.alone.0 inside.by_set.0 (is i).0, record { alone = inside.alone.1; by_set = inside.by_set.1; by_letter = (is i).1 })) ∙ (λ i. ((c.self.view_is i).0, with_letter (c.self.view_is i).1 c.args.step))) c.push.ensures.pushed
