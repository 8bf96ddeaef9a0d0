use Rattle.std.proofs.Common.{length}
use Rattle.rela_cert.proofs.MappedWords.{block_in_order}
use Rattle.rela_cert.proofs.checking.Checking.block.Goals as goal

pub returns-in-Some-clause-steps : goal.returns-in-Some-clause-steps
returns-in-Some-clause-steps c =
    block_in_order (length c.args.self.now.letters.now) c.args.self.now.listed.now c.args.number c.in-Some.block.now c.args.self.now.steps
    c.in-Some.ensures.lookup.3.0 c.in-Some.ensures.lookup.1
