use Rattle.rela_engine.proofs.LetterImages.{relate_alike}
use Rattle.rela_engine.proofs.relations.by_letters.Goals as goal

pub returns-in-Some : goal.returns-in-Some
returns-in-Some c = rw c.in-Some.is (relate_alike c.new.result c.in-Some.small c.new.ensures.letters c.new.ensures.relation)

pub returns-in-None : goal.returns-in-None
returns-in-None c = rw c.in-None.is (relate_alike c.new-in-None.result c.args.plain.now c.new-in-None.ensures.letters c.new-in-None.ensures.relation)
