use Rattle.std.proofs.Common.{ap, map, ◌∙◌, arith}
use Rattle.std.proofs.lemmas.List.{map_push}
use Rattle.rela_certfile.proofs.Lookups.{all_complements, complement_there, one_more}
use Rattle.rela_certfile.proofs.certificate.Certificate.complements.Goals as goal

pub block-requires : goal.block-requires
block-requires c =
    complement_there c.args.self.now c.args.row c.block_count-count.result c.loop-block.block c.requires c.block_count-count.ensures c.loop-block-test.true

pub loop-block-preserved : goal.loop-block-preserved
loop-block-preserved c = λ listed there.
    ap (λ blocks. map (λ steps. steps.now) blocks) c.in_ok-push.ensures.items
    ∙ map_push (λ steps. steps.now) _ c.block.result
    ∙ one_more c.args.self.now c.args.row c.block_count-count.result c.loop-block.block listed _ c.block.result.now there c.block_count-count.ensures c.loop-block-test.true (c.loop-block.invariant listed there) c.block.ensures

pub returns : goal.returns
returns c =
    all_complements c.args.self.now c.args.row c.block_count-count.result _ c.requires c.block_count-count.ensures c.loop-block.block (omega arith) c.loop-block.invariant
