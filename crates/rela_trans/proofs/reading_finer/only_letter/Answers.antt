use Rattle.rela_trans.proofs.Singles.{only_told}
use Rattle.rela_trans.proofs.reading_finer.only_letter.Goals as goal

pub returns-clause-letter : goal.returns-clause-letter
returns-clause-letter g c = only_told (g.M.LabelSet.letters c.args.set.now) c.only.result c.only.ensures.only c.only.ensures.other
