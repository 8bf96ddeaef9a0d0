use Rattle.rela_rows.proofs.OneShape.{compliant_too}
use Rattle.rela_rows.proofs.shapes.share_compliance.Goals as goal

pub returns : goal.returns
returns c =
    compliant_too c.args.alphabet.now c.args.by.now c.before-2.result.now c.after.result.now c.renamed_flows_meet_alike.ensures c.one_shape_renames.ensures
    c.requires.locations c.blocks-2.ensures.together c.before-2.ensures.relation c.after.ensures.relation
    (c.complete.ensures.unforced (c.complete.ensures.made.1 c.requires.complete)) c.args.pair.now c.args.shape.now c.requires.located c.requires.shape
