use Rattle.std.proofs.Common.{map}
use Rattle.rela_certfile.specs.Layout.{IsLayout}
use Rattle.rela_snapshot.specs.declared.pairing.FlowPair.{FlowPair}
use Rattle.rela_translate.specs.Checked.{Checked}
use Rattle.rela_cert.specs.Subject.{layout_of, subject}
use Rattle.rela_cert.proofs.AcceptedTexts.{accepted, is_layout}
use Rattle.rela_cert.proofs.laws.audit_accepts_what_certify_writes.Goals as goal

pub returns : goal.returns
returns c limit text audit short certified audited =
    let s = subject c.args.checks.now c.args.pairs.now c.args.alphabet.now in
    let classes = map (λ (pair : FlowPair). pair.class) s.pairs in
    let predicates = map (λ (check : Checked). check.when) s.checks in
    let layout : IsLayout (layout_of s certified.planned) =
    is_layout s certified.planned c.requires.subject (c.planned_rows.ensures.differ classes predicates certified.planned certified.certificate.plan)
    (c.planned_rows.ensures.named classes predicates certified.planned certified.certificate.plan)
    c.flows_are_named.ensures c.checks_have_bounds.ensures.named c.checks_have_bounds.ensures.bounds in
    accepted s limit 4000000 text certified layout short c.one_reading.ensures c.unbroken.ensures c.plans_are_equal.ensures audit audited
