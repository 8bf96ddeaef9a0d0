use Rattle.rela_inputs.proofs.SpecifiedLaws.{set_same, specified_same}
use Rattle.rela_inputs.proofs.laws.same_checks_are_equal.Goals as goal

pub returns : goal.returns
returns c = record { specified = specified_same; sets = set_same }
