use Rattle.std.proofs.Common.{sym}
use Rattle.rela_zone.proofs.ZoneLaws.{named_read, none_read}
use Rattle.rela_zone.proofs.zoning.check_named.Goals as goal

pub returns-in-Some : goal.returns-in-Some
returns-in-Some c = named_read _ c.in-Some.check.now (sym c.in-Some.ensures)

pub returns-in-None : goal.returns-in-None
returns-in-None c = none_read _ c.refused.result (sym c.in-None.ensures) c.refused.ensures
