use Rattle.rela_cert.proofs.Refinements.{refined_for}
use Rattle.rela_cert.proofs.flow_images.refined_for_words.Goals as goal

pub returns : goal.returns
returns c =
    refined_for c.args.coarse.now c.args.blocks.now c.requires.finer.same_symbols c.args.relation.now c.in_ok-refined.refined
    c.start.ensures.machine c.start-2.ensures.machine c.requires.relation c.in_ok-refined.ensures.letters c.args.words.now
    c.in_ok-refined.ensures.reached c.in_ok-refined.ensures.relation
