use Rattle.rela_shape.proofs.RenamingImages.{flows_meet_alike}
use Rattle.rela_shape.proofs.laws.renamed_flows_meet_alike.Goals as goal

pub returns : goal.returns
returns c = flows_meet_alike
