use Rattle.rela_check.proofs.BlameLaws.{blame_asked, plain_asked}
use Rattle.rela_check.proofs.checking.report_asked.Goals as goal

pub returns-then-check-clause-given : goal.returns-then-check-clause-given
returns-then-check-clause-given g c =
    blame_asked c.args.check.now.blame c.if-check.true _ _ _ _ _ _ _ _ _ _ _ _ _ c.as_str-before.ensures.value c.as_str-after.ensures.value c.as_str-locations.ensures.value
    c.as_str-spec.ensures.value c.report_blamed.ensures.given

pub returns-else-check-clause-given : goal.returns-else-check-clause-given
returns-else-check-clause-given g c =
    plain_asked c.args.check.now.blame c.if-check.false _ _ _ _ _ _ _ _ _ _ _ _ _ c.as_str-before.ensures.value c.as_str-after.ensures.value c.as_str-locations.ensures.value
    c.as_str-spec.ensures.value c.report.ensures.given
