use Rattle.std.proofs.Common.{length, sym, ap, subst, arith}
use Rattle.std.proofs.lemmas.Result.{IfOk-weaker}
use Rattle.rela_cert.specs.Audited.{IsAudited}
use Rattle.rela_cert.specs.Subject.{Subject}
use Rattle.rela_cert.proofs.AuditSays.{broken_audited, found_audited}
use Rattle.rela_cert.proofs.ListedRows.{fewer_rows}
use Rattle.rela_cert.proofs.auditing.audit.Goals as goal

pub audit_rows-requires-clause-few : goal.audit_rows-requires-clause-few
audit_rows-requires-clause-few c =
    let few = fewer_rows c.layout-layout.result c.in-Ok.certificate in
    let whole = ap length c.in-Ok.ensures.whole in
    omega (arith, few, whole)

pub returns-in-Ok : goal.returns-in-Ok
returns-in-Ok c =
    let s : Subject = record { checks = c.args.checks.now; pairs = c.args.pairs.now; names = c.args.alphabet.now } in
    IfOk-weaker c.audit_rows.result _ _
    (found_audited s c.in_ok-planning.planning.rows.items c.in_ok-planning.ensures.plan c.layout-layout.result c.layout-layout.ensures c.is_layout.ensures
    4000000 c.args.cert.now c.requires.length c.unbroken.ensures c.in-Ok.certificate c.in-Ok.ensures.listed c.in-Ok.ensures.whole)
    c.audit_rows.ensures

pub returns : goal.returns
returns c =
    let s : Subject = record { checks = c.args.checks.now; pairs = c.args.pairs.now; names = c.args.alphabet.now } in
    IfOk-weaker c.unread.result _ _
    (λ a told. subst (IsAudited s 4000000 c.args.cert.now) (sym told.2)
    (broken_audited s c.in_ok-planning.planning.rows.items c.in_ok-planning.ensures.plan c.layout-layout.result c.layout-layout.ensures c.is_layout.ensures
    4000000 c.args.cert.now c.requires.length c.breaks_once.ensures told.0 (c.in-Err.ensures.broken told.0 told.1)))
    c.unread.ensures.rejected
