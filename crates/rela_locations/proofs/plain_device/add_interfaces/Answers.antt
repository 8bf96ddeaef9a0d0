use Rattle.std.proofs.Common.{ap, map}
use Rattle.rela_tokens.specs.Pieces.{text}
use Rattle.rela_locations.proofs.Loops.{left_none}
use Rattle.rela_locations.proofs.PlainLaws.{at_place, interface_read}
use Rattle.rela_locations.proofs.WalkLaws.{interfaces_all, interfaces_more, seen_one_more}
use Rattle.rela_locations.proofs.plain_device.add_interfaces.Goals as goal

pub loop-text-preserved : goal.loop-text-preserved
loop-text-preserved c =
    let place = at_place c.args.texts.now c.loop-text.text-index c.loop-text-test.true in
    let name = interface_read c.loop-text.seen place.0 _ c.in_ok-name.name (place.2 _) c.in_ok-name.ensures.row c.in_ok-name.ensures.name in
    record {
      left = interfaces_more _ _ _ _ _ _ _ _ _ (ap (map text) place.1) name c.in_ok-name.ensures.seen c.in_ok-push.ensures.items c.loop-text.invariant.left;
      seen = seen_one_more _ _ _ _ _ _ c.in_ok-push.ensures.items c.loop-text.invariant.seen c.in_ok-name.ensures.seen;
    }

pub returns-clause-names : goal.returns-clause-names
returns-clause-names c = interfaces_all _ _ _ _ (left_none text c.args.texts.now c.loop-text.text-index c.loop-text-test.false) c.loop-text.invariant.left
