use Rattle.rela_rirfile.proofs.Verdicts.{verdict}
use Rattle.rela_rirfile.proofs.parsing.parse.Goals as goal

pub returns-clause-tree : goal.returns-clause-tree
returns-clause-tree c = (verdict c.args.tokens.now c.args.end c.file.result c.file.ensures.read c.file.ensures.fault).tree

pub returns-clause-fault : goal.returns-clause-fault
returns-clause-fault c = (verdict c.args.tokens.now c.args.end c.file.result c.file.ensures.read c.file.ensures.fault).fault

pub returns-clause-spelled : goal.returns-clause-spelled
returns-clause-spelled c = (verdict c.args.tokens.now c.args.end c.file.result c.file.ensures.read c.file.ensures.fault).spelled

pub returns-clause-syntax : goal.returns-clause-syntax
returns-clause-syntax c = (verdict c.args.tokens.now c.args.end c.file.result c.file.ensures.read c.file.ensures.fault).syntax

pub returns-clause-too_deep : goal.returns-clause-too_deep
returns-clause-too_deep c = (verdict c.args.tokens.now c.args.end c.file.result c.file.ensures.read c.file.ensures.fault).too_deep
