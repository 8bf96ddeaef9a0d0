use Rattle.rela_spec.proofs.OneTree.{one_tree}
use Rattle.rela_spec.proofs.laws.grammar_is_unambiguous.Goals as goal

pub returns : goal.returns
returns c = one_tree c.prefixes_are_read_exactly.ensures
