use Rattle.std.proofs.Common.{filter, length, take}
use Rattle.std.specs.List.{AllZip}
use Rattle.rela_report.specs.Status.{is_violated}
use Rattle.rela_blame.specs.Zones.{AreOffsets, IsZoneOf, checks_of}
use Rattle.rela_blame.proofs.zoning.zones.Given as goal

-- the zones so far are those of the violated ones of the rows so far
abbrev pub invariant-loop-row : goal.invariant-loop-row
invariant-loop-row l = record {
  zones : AllZip (IsZoneOf l.file l.tokens (length l.alphabet) l.checks) (filter is_violated (take l.row-index l.rows)) l.zones.items;
  offsets : AreOffsets l.file l.tokens (checks_of l.spec.checks.now) l.offsets;
}
