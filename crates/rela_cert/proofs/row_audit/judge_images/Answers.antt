use Rattle.std.proofs.Common.{length}
use Rattle.rela_cert.proofs.KeptRelations.{kept_blocks}
use Rattle.rela_cert.proofs.row_audit.judge_images.Goals as goal

pub row_blocks-requires-clause-blocks : goal.row_blocks-requires-clause-blocks
row_blocks-requires-clause-blocks c =
    kept_blocks c.requires.kept.0 (length c.args.row.now.alphabet.now) c.args.row.now.check.now c.args.kept.now c.requires.kept.1

pub flow_images-requires-clause-relations : goal.flow_images-requires-clause-relations
flow_images-requires-clause-relations c = c.requires.kept.1.relations

pub returns : goal.returns
returns c listed = c.in-Err.ensures.limit c.in_ok-pass_limit-in-Err.ensures.limit
