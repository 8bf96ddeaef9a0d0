use Rattle.rela_prefixes.proofs.OneList.{classes_unique}
use Rattle.rela_prefixes.proofs.laws.classes_are_unique.Goals as goal

pub returns : goal.returns
returns c = classes_unique c.prefixes_of_one_length_are_apart.ensures.ipv4
