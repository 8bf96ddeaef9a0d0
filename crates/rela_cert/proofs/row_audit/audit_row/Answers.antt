use Rattle.std.proofs.Common.{ℕ, List, length, map, inl, inr, sym, subst}
use Rattle.std.specs.Prelude.{IfSome}
use Rattle.std.proofs.lemmas.Result.{IfOk-weaker}
use Rattle.rela_cert.specs.Inputs.{subject_of}
use Rattle.rela_cert.specs.KeptChecks.{IsKeptWithForms}
use Rattle.rela_cert.specs.RowParts.{paths_at}
use Rattle.rela_cert.specs.Rows.{Judges}
use Rattle.rela_cert.specs.declared.judgement.Judgement.{Judgement}
use Rattle.rela_cert.proofs.KeptRelations.{kept_found, kept_less, kept_more, of_check}
use Rattle.rela_cert.proofs.Options.{always, on_ok}
use Rattle.rela_cert.proofs.row_audit.audit_row.Goals as goal

pub relations_of_row-requires-clause-kept : goal.relations_of_row-requires-clause-kept
relations_of_row-requires-clause-kept c =
    let s = subject_of c.args.inputs.now in
    let row = c.args.row.now in
    let count = length c.args.certificate.now in
    subst (λ (names : List (List ℕ)). IfSome c.remove-found.result (IsKeptWithForms count names row.check.now)) (sym c.requires.alphabet)
    (kept_found s count c.args.kept.now c.args.check row.check.now c.remove-found.result c.remove-found.ensures.value c.requires.kept c.requires.check)

pub judge_by_form-judgement-requires-clause-kept : goal.judge_by_form-judgement-requires-clause-kept
judge_by_form-judgement-requires-clause-kept c = (length c.args.certificate.now, c.in-Ok.ensures.kept)

pub returns-in_ok-insert-in-Ok-clause-judged : goal.returns-in_ok-insert-in-Ok-clause-judged
returns-in_ok-insert-in-Ok-clause-judged c =
    IfOk-weaker c.judge_by_form-judgement.result _ _ (λ j told. told (map (λ block. block.now) c.args.complements.now)) c.judge_by_form-judgement.ensures.judged

pub returns-in_ok-insert-in-Ok-clause-kept : goal.returns-in_ok-insert-in-Ok-clause-kept
returns-in_ok-insert-in-Ok-clause-kept c =
    let s = subject_of c.args.inputs.now in
    let row = c.args.row.now in
    let count = length c.args.certificate.now in
    on_ok c.judge_by_form-judgement.result
    (λ keeps.
    kept_more s count c.remove-found.new.self c.insert.new.self c.args.check c.judge_by_form-judgement.new.kept c.in_ok-insert-in-Ok.ensures.updates.0
    (kept_less s count c.args.kept.now c.remove-found.new.self c.args.check c.remove-found.ensures.updates.0 c.requires.kept)
    (of_check s count c.args.check row.check.now c.judge_by_form-judgement.new.kept row.alphabet.now c.requires.alphabet c.requires.check (keeps count c.in-Ok.ensures.kept)))
    c.judge_by_form-judgement.ensures.kept

pub returns-in-Err-clause-judged : goal.returns-in-Err-clause-judged
returns-in-Err-clause-judged c =
    let row = c.args.row.now in
    let listed = map (λ block. block.now) c.args.complements.now in
    IfOk-weaker c.stopped.result _ _
    (λ j told. elim told [
      | inl one ↦ subst (λ (k : Judgement). Judges row.check.now (length row.alphabet.now) (paths_at row) 4000000 listed c.args.images.now k) (sym one.1) (c.in-Err.ensures.limit one.0)
      | inr two ↦ subst (λ (k : Judgement). Judges row.check.now (length row.alphabet.now) (paths_at row) 4000000 listed c.args.images.now k) (sym two.2) (c.in-Err.ensures.refused two.0 two.1)
    ])
    c.stopped.ensures.judged

pub returns-in-Err-clause-kept : goal.returns-in-Err-clause-kept
returns-in-Err-clause-kept c =
    always c.stopped.result
    (kept_less (subject_of c.args.inputs.now) (length c.args.certificate.now) c.args.kept.now c.remove-found.new.self c.args.check c.remove-found.ensures.updates.0 c.requires.kept)
