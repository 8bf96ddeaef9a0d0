use Rattle.std.proofs.Common.{◌≡◌, List, ap, subst, arith}
use Rattle.rela_certfile.specs.Layout.{Layout}
use Rattle.rela_certfile.specs.Text.{text_begun, text_of}
use Rattle.rela_certfile.specs.declared.rows.ListedRow.{ListedRow}
use Rattle.rela_flows.specs.declared.planning.PlannedRow.{PlannedRow}
use Rattle.rela_cert.specs.Certified.{IsBegun, IsCertified}
use Rattle.rela_cert.specs.Subject.{layout_of, subject}
use Rattle.rela_cert.proofs.BegunTexts.{begin, finished}
use Rattle.rela_cert.proofs.Options.{ok_weaker}
use Rattle.rela_cert.proofs.SharedRows.{no_entry}
use Rattle.rela_cert.proofs.certifying.certify.Goals as goal

pub returns : goal.returns
returns c =
    let s = subject c.args.checks.now c.args.pairs.now c.args.alphabet.now in
    let planned = c.in_ok-planning.planning.rows.items in
    let same : c.layout-layout.result.planned ≡ planned = ap (λ (l : Layout). l.planned) c.layout-layout.ensures in
    let begun = subst (λ (rows : List PlannedRow). IsBegun s rows c.args.states c.loop-place.place c.loop-place.writer) same c.loop-place.invariant.begun in
    ok_weaker (λ text. (l : Layout) (rows : List ListedRow) → c.loop-place.writer ≡ text_begun l rows → text.items ≡ text_of l rows)
    (λ text. IsCertified s c.args.states text.items) c.finish.result
    (λ text ended. finished s planned c.args.states c.in_ok-planning.ensures.plan c.loop-place.place c.loop-place.writer text.items
    (omega (arith, c.loop-place-test.false, c.len-place-end.ensures, c.loop-place.auto.place-end)) begun (λ rows. ended (layout_of s planned) rows))
    c.finish.ensures

pub loop-place-init : goal.loop-place-init
loop-place-init c =
    let s = subject c.args.checks.now c.args.pairs.now c.args.alphabet.now in
    record {
      begun = begin s c.layout-layout.result.planned c.args.states c.in_ok-writer.writer (c.in_ok-writer.ensures (layout_of s c.layout-layout.result.planned));
      kept = λ flow number found has. absurd (no_entry c.new-kept.result (flow, number) found c.new-kept.ensures.empty has);
    }
