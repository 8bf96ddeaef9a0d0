use Rattle.std.proofs.Common.{slice_get, refl, sym}
use Rattle.std.proofs.lemmas.Option.{slice_get_within}
use Rattle.rela_network_tests.proofs.locations.lifted.Goals as goal

pub lift-requires : goal.lift-requires
lift-requires c =
    rw (← c.alphabet.ensures)
    (slice_get_within c.alphabet.result.now c.in_ok-symbol.symbol c.args.interface.now ((c.in_ok-symbol.ensures.found c.in_ok-symbol.symbol).0 refl))
