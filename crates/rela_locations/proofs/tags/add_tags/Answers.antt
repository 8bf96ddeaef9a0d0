use Rattle.std.proofs.Common.{◌&&◌, ◌==◌, take, ap, sym, ◌∙◌}
use Rattle.std.specs.Str.{bytes_eq}
use Rattle.rela_locations.specs.Names.{has_name}
use Rattle.rela_locations.proofs.Bools.{and_or}
use Rattle.rela_locations.proofs.Known.{any_more}
use Rattle.rela_locations.proofs.TagLaws.{step_added}
use Rattle.rela_locations.proofs.tags.add_tags.Goals as goal

pub loop-tag-preserved : goal.loop-tag-preserved
loop-tag-preserved c = record {
  with_tag = λ t n.
      let more = any_more (bytes_eq t) c.args.tags.now c.loop-tag.tag-index c.tag-item.result c.loop-tag-test.true c.tag-item.is in
      step_added _ _ _ (has_name (take c.loop-tag.tag-index c.args.tags.now) t && (c.args.device == n)) (bytes_eq t c.tag-item.result && (c.args.device == n)) _
      (c.in_ok-add_tag.ensures.with_tag t n) (c.loop-tag.invariant.with_tag t n)
      (ap (λ b. b && (c.args.device == n)) more ∙ sym (and_or (has_name (take c.loop-tag.tag-index c.args.tags.now) t) (bytes_eq t c.tag-item.result) (c.args.device == n)));
  tags = λ t.
      step_added _ _ _ (has_name (take c.loop-tag.tag-index c.args.tags.now) t) (bytes_eq t c.tag-item.result) _
      (c.in_ok-add_tag.ensures.tags t) (c.loop-tag.invariant.tags t)
      (any_more (bytes_eq t) c.args.tags.now c.loop-tag.tag-index c.tag-item.result c.loop-tag-test.true c.tag-item.is);
}
