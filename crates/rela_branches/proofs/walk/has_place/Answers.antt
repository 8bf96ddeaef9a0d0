use Rattle.rela_branches.proofs.Told.{any_has}
use Rattle.rela_branches.proofs.walk.has_place.Goals as goal

pub returns : goal.returns
returns c = any_has c.args.places.now c.args.place c.contains.result c.contains.ensures.value
