use Rattle.std.proofs.Common.{◌∙◌}
use Rattle.rela_snapshot.proofs.Keys.{has_name-keys}
use Rattle.rela_snapshot.proofs.name_table.NameTable.has.Goals as goal

pub returns : goal.returns
returns c = c.contains.ensures ∙ has_name-keys _ c.args.name.now c.self.inside.names.keys c.self.view_is
