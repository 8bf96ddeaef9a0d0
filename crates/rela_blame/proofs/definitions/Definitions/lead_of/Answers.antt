use Rattle.rela_blame.proofs.Counts.{empty_there, some_there}
use Rattle.rela_blame.proofs.definitions.Definitions.lead_of.Goals as goal

pub returns-then-index-eq0-clause-none : goal.returns-then-index-eq0-clause-none
returns-then-index-eq0-clause-none c =
    empty_there c.args.self.now c.args.number c.index.result.now c.requires.table c.requires.inside c.index.ensures c.if-index-eq0.true

pub returns-else-index-eq0-clause-known : goal.returns-else-index-eq0-clause-known
returns-else-index-eq0-clause-known c = (
  c.requires.inside,
  some_there c.args.self.now c.args.number c.index.result.now c.requires.table c.requires.inside c.index.ensures c.if-index-eq0.false,
)
