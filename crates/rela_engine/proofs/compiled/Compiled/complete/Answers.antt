use Rattle.rela_engine.proofs.Compilations.{passes_where, within_where}
use Rattle.rela_engine.proofs.compiled.Compiled.complete.Goals as goal

pub returns-clause-past : goal.returns-clause-past
returns-clause-past c none = passes_where _ c.args.self.now c.self.view_is c.self.invariant.0 c.is_some.result c.is_some.ensures none

pub returns-clause-within : goal.returns-clause-within
returns-clause-within c some = within_where _ c.args.self.now c.self.view_is c.self.invariant.0 c.is_some.result c.is_some.ensures some

pub returns-clause-unforced : goal.returns-clause-unforced
returns-clause-unforced c some names before after =
    c.relations_tell_of_open_rows.ensures.there c.args.self.now
    (within_where _ c.args.self.now c.self.view_is c.self.invariant.0 c.is_some.result c.is_some.ensures some)
    (record { level = c.args.self.now.check.level; names = names; before = before; after = after })
