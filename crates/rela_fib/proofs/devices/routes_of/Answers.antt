use Rattle.std.proofs.Common.{◌∙◌, ap, sym}
use Rattle.rela_tables.specs.declared.table.Table.{Table}
use Rattle.rela_fib.proofs.Indexing.{routes_none, routes_some}
use Rattle.rela_fib.proofs.devices.routes_of.Goals as goal

pub returns-in-Some-clause-routes : goal.returns-in-Some-clause-routes
returns-in-Some-clause-routes c = routes_some c.args.tables.now c.args.device c.in-Some.place c.args.listed.now.keys c.tables.result.now c.get_index_of.result c.index-tables-place.result c.as_slice.result.now c.requires c.get_index_of.ensures.index c.in-Some.is c.tables.ensures.tables c.index-tables-place.is (c.as_slice.ensures ∙ ap (λ (t : Table). t.routes) (sym c.index-tables-place.is))

pub returns-in-None-clause-routes : goal.returns-in-None-clause-routes
returns-in-None-clause-routes c = sym (routes_none c.args.tables.now c.args.device c.args.listed.now.keys c.get_index_of.result c.requires c.get_index_of.ensures.index c.in-None.is)
