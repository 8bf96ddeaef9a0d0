use Rattle.rela_labels.proofs.WideLetters.{only_in_nothing, only_in_one}
use Rattle.rela_labels.proofs.wide_members.Members.is_only.Goals as goal

pub returns-in-Nothing : goal.returns-in-Nothing
returns-in-Nothing c = only_in_nothing _ c.args.letter c.in-Nothing.is

pub returns-in-One : goal.returns-in-One
returns-in-One c = only_in_one _ c.in-One.one c.args.letter c.in-One.is
