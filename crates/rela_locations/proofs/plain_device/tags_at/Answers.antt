use Rattle.std.proofs.Common.{ap, map}
use Rattle.rela_tokens.specs.Pieces.{text}
use Rattle.rela_locations.specs.Load.{load_tag}
use Rattle.rela_locations.proofs.Loops.{left_none}
use Rattle.rela_locations.proofs.PlainLaws.{at_place, tag_read}
use Rattle.rela_locations.proofs.WalkLaws.{tags_all, tags_more}
use Rattle.rela_locations.proofs.plain_device.tags_at.Goals as goal

pub loop-text-preserved : goal.loop-text-preserved
loop-text-preserved c =
    let place = at_place c.args.texts.now c.loop-text.text-index c.loop-text-test.true in
    λ row. tags_more (load_tag row) _ _ _ _ _ _ _ (ap (map text) place.1) (tag_read row place.0 _ _ (place.2 _) (c.in_ok-tag.ensures row)) c.in_ok-push.ensures.items (c.loop-text.invariant row)

pub returns : goal.returns
returns c = λ row. tags_all (load_tag row) _ _ _ (left_none text c.args.texts.now c.loop-text.text-index c.loop-text-test.false) (c.loop-text.invariant row)
