use Rattle.std.proofs.Common.{◌++◌, [], ◌∷◌, ◌∙◌}
use Rattle.rela_letter_image.specs.LetterMoves.{laid_side_by_side, none_laid}
use Rattle.rela_letter_image.proofs.SideBySide.{side_more}
use Rattle.rela_letter_image.proofs.move_lists.MoveLists.end_state.Goals as goal

pub returns : goal.returns
returns c =
    let inside = c.self.inside in
    (λ i. (
      laid_side_by_side (c.in_ok-close.ensures i).0 (c.in_ok-close-2.ensures i).0 (c.in_ok-close-3.ensures i).0,
      record { alone = (c.in_ok-close.ensures i).1; by_set = (c.in_ok-close-2.ensures i).1; by_letter = (c.in_ok-close-3.ensures i).1 },
    ))
    ∙ (λ i. (side_more inside.alone.0 inside.by_set.0 inside.by_letter.0 inside.alone.1 inside.by_set.1 inside.by_letter.1 c.self.invariant.0 c.self.invariant.1 i, none_laid))
    ∙ (λ i. ((c.self.view_is i).0 ++ (c.self.view_is i).1 ∷ [], none_laid))
