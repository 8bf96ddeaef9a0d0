use Rattle.std.proofs.Common.{take}
use Rattle.std.proofs.lemmas.List.{take_all}
use Rattle.rela_demo.specs.Pieces.{device_text}
use Rattle.rela_demo.proofs.Arrays.{closed_array, opened_more, opened_none}
use Rattle.rela_demo.proofs.pieces.push_devices.Goals as goal

pub loop-place-init : goal.loop-place-init
loop-place-init c = opened_none device_text c.args.labels.now c.args.text.now.items c.push.new.self.items c.in_ok-push.ensures.items

pub loop-place-preserved : goal.loop-place-preserved
loop-place-preserved c = opened_more device_text c.args.labels.now c.loop-place.place _ c.args.text.now.items c.loop-place.text.items c.push_comma.new.text.items c.push_device.new.text.items c.loop-place-test.true c.loop-place.invariant c.in_ok-push_comma.ensures c.in_ok-push_device.ensures

pub returns : goal.returns
returns c = closed_array device_text c.args.labels.now (take c.loop-place.place c.args.labels.now) c.args.text.now.items c.loop-place.text.items c.push-2.new.self.items (take_all c.loop-place.place c.args.labels.now c.loop-place-test.false) c.loop-place.invariant c.in_ok-push-2.ensures.items
