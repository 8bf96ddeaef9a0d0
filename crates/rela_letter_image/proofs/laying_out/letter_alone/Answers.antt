use Rattle.rela_letter_image.proofs.LaidOut.{only_answers}
use Rattle.rela_letter_image.proofs.laying_out.letter_alone.Goals as goal

pub returns-clause-alone : goal.returns-clause-alone
returns-clause-alone g c = only_answers (g.M.LabelSet.letters c.args.set.now) c.only.result c.only.ensures.only
