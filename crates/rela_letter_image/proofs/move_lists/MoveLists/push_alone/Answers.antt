use Rattle.std.proofs.Common.{◌∙◌}
use Rattle.std.proofs.lemmas.Result.{on_ok_weaker}
use Rattle.rela_letter_image.specs.LetterMoves.{laid_side_by_side, with_alone}
use Rattle.rela_letter_image.proofs.move_lists.MoveLists.push_alone.Goals as goal

pub returns : goal.returns
returns c =
    let inside = c.self.inside in
    on_ok_weaker c.push.result
    (λ is. (λ i. (laid_side_by_side (is i).0 inside.by_set.0 inside.by_letter.0, record { alone = (is i).1; by_set = inside.by_set.1; by_letter = inside.by_letter.1 })) ∙ (λ i. ((c.self.view_is i).0, with_alone (c.self.view_is i).1 c.args.step))) c.push.ensures.pushed
