use Rattle.std.proofs.Common.{◌≡◌, drop}
use Rattle.rela_blame.specs.Alternatives.{leads_from}
use Rattle.rela_blame.specs.Tables.{IsTable, named_by}
use Rattle.rela_blame.specs.Units.{unit_offsets}
use Rattle.rela_blame.proofs.placing.unit_behind.Given as goal

-- the items from this one on give what all items give
abbrev pub invariant-loop-item : goal.invariant-loop-item
invariant-loop-item l = record {
  table : IsTable l.table;
  same : leads_from (named_by l.table) (unit_offsets l.units.tokens.now) (drop l.item-index l.items) l.check ≡ leads_from (named_by l.fn.table) (unit_offsets l.fn.units.tokens.now) l.items l.check;
}
