use Rattle.rela_cert.proofs.Refinements.{refined_for}
use Rattle.rela_cert.proofs.flow_images.refined_whole.Goals as goal

pub returns : goal.returns
returns c words =
    refined_for c.args.coarse.now c.args.blocks.now c.requires.finer.same_symbols c.args.relation.now c.in_ok-refined.refined
    c.start.ensures.machine c.start-2.ensures.machine c.requires.relation c.in_ok-refined.ensures.letters words
    (λ p q v w in_v in_w leads. c.in_ok-refined.ensures.reached q v w in_v in_w) (λ v w in_v in_w accepted. c.in_ok-refined.ensures.relation v w in_v in_w)
