use Rattle.std.proofs.Common.{length}
use Rattle.rela_translate.specs.Zones.{Zone}
use Rattle.rela_branches.proofs.Ends.{start_below, whole_word}
use Rattle.rela_branches.proofs.walk.Walk.is_in_zone.Goals as goal

pub zone_ends-requires : goal.zone_ends-requires
zone_ends-requires c = start_below (length c.args.self.now.word.now) c.as_slice.result.now c.in_ok-start.start.items c.as_slice.ensures.value c.in_ok-start.ensures

pub returns : goal.returns
returns c =
    whole_word c.args.self.now.word.now (Zone c.args.self.now.classes.now c.args.self.now.locations c.args.body.now) c.as_slice.result.now c.in_ok-start.start.items c.in_ok-ends.ends.items
    c.index.result.now c.as_slice-2.result.now c.has_place.result c.as_slice.ensures.value c.in_ok-start.ensures c.in_ok-ends.ensures c.index.ensures c.as_slice-2.ensures
    c.has_place.ensures
