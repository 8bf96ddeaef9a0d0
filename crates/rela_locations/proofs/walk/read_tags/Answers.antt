use Rattle.serde_json.specs.View.{view}
use Rattle.rela_locations.specs.Load.{load_tag}
use Rattle.rela_locations.proofs.Loops.{left_next}
use Rattle.rela_locations.proofs.WalkLaws.{tags_more}
use Rattle.rela_locations.proofs.walk.read_tags.Goals as goal

pub loop-value-preserved : goal.loop-value-preserved
loop-value-preserved c =
    let next = left_next view c.in_ok-values.values.now c.loop-value.value-index c.value-item.result c.loop-value-test.true c.value-item.is in
    tags_more (load_tag c.args.row) _ _ _ _ _ _ _ next c.in_ok-tag.ensures.tag c.in_ok-push.ensures.items c.loop-value.invariant
