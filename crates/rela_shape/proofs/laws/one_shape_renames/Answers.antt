use Rattle.rela_shape.proofs.OneShape.{one_shape}
use Rattle.rela_shape.proofs.laws.one_shape_renames.Goals as goal

pub returns : goal.returns
returns c = one_shape
