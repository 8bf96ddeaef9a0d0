use Rattle.std.proofs.Common.{All, take}
use Rattle.rela_blame.specs.Zones.{AreOffsets, checks_of}
use Rattle.rela_blame.proofs.Zoned.{IsOther}
use Rattle.rela_blame.proofs.zoning.Specification.zone_of.Given as goal

-- none of the checks so far has the name and the source in its zone
abbrev pub invariant-loop-index : goal.invariant-loop-index
invariant-loop-index l = record {
  others : All (IsOther l.name l.source) (take l.index l.self.checks.now);
  offsets : AreOffsets l.self.file.now l.self.tokens.now (checks_of l.self.checks.now) l.offsets;
}
