use Rattle.std.proofs.Common.{length, replicate, ap, ◌∙◌}
use Rattle.std.proofs.lemmas.List.{length-replicate}
use Rattle.rela_locations.proofs.Writes.{length-with_entries}
use Rattle.rela_locations.proofs.containment.Containment.new.Goals as goal

pub places_of-requires-clause-few : goal.places_of-requires-clause-few
places_of-requires-clause-few c =
    let count = ap length (c.as_slice.ensures.value ∙ c.in_ok-table.ensures) ∙ length-with_entries (replicate c.args.inner 0) c.args.pairs.now ∙ length-replicate c.args.inner 0 in
    rw count c.requires.few
