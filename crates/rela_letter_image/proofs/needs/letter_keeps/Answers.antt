use Rattle.std.proofs.Common.{◌≡◌, ◌⊎◌, subst}
use Rattle.rela_letter_image.specs.Needs.{Has}
use Rattle.rela_letter_image.proofs.needs.letter_keeps.Goals as goal

pub returns : goal.returns
returns c = λ yes k small had. subst (λ w. Has w k ⊎ (k ≡ c.args.step.letter)) c.word_at.ensures (c.with_letter.ensures.others k (c.is_within.ensures.0 yes k small had))
