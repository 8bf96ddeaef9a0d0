use Rattle.rela_expand.specs.Places.{Place}
use Rattle.rela_expand.proofs.making.unfolded.Goals as goal

pub unfold_body-requires-clause-written : goal.unfold_body-requires-clause-written
unfold_body-requires-clause-written c =
    let place : Place = record { network = c.args.locations.now; level = c.args.level } in
    c.new-numbers.ensures.written place
