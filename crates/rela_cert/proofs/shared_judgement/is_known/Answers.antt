use Rattle.std.proofs.Common.{sym}
use Rattle.rela_cert.proofs.shared_judgement.is_known.Goals as goal

pub have_same_blocks-requires-clause-row : goal.have_same_blocks-requires-clause-row
have_same_blocks-requires-clause-row c = c.requires.within c.args.key c.in-Some.row.now (sym c.in-Some.ensures.value)
