use Rattle.std.proofs.Common.{◌≡◌, ◌∙◌, Some, Option, List, length, map, sym, ap, subst, arith, Bor}
use Rattle.std.specs.Prelude.{IfNone, IfSome}
use Rattle.std.specs.List.{slice_get}
use Rattle.std.proofs.lemmas.List.{length-map}
use Rattle.rela_certfile.specs.declared.rows.ListedRow.{ListedRow}
use Rattle.rela_certfile.specs.declared.rows.Step.{Step}
use Rattle.rela_cert.specs.Audited.{Finds, IsMet}
use Rattle.rela_cert.specs.Inputs.{subject_of}
use Rattle.rela_cert.specs.declared.answer.Audit.{Audit}
use Rattle.rela_cert.proofs.AuditedRows.{JudgesHere, answer_here, check_there, classes_listed, complements_are_blocks, images_are_block, judged_here, met_here, open_below, pair_located}
use Rattle.rela_cert.proofs.ListedRows.{blocks_there}
use Rattle.rela_cert.proofs.Options.{if_none_each}
use Rattle.rela_cert.proofs.Listings.{map_at, row_there}
use Rattle.rela_cert.proofs.listed_row.answer_of_row.Goals as goal
use Rattle.rela_cert.proofs.listed_row.answer_of_row.Goals.{After-as_slice, After-len}

pub audit_row-requires-clause-check : goal.audit_row-requires-clause-check
audit_row-requires-clause-check c =
    let found = row_there c.args.certificate.now c.args.number c.requires.number in
    check_there (subject_of c.args.inputs.now) c.args.planning.now.rows.items c.args.certificate.now c.args.number found.0 found.1
    c.row_at-row.result (c.row_at-row.ensures found.0 found.1) c.flow_and_check-check.result.0 c.flow_and_check-check.result.1
    (c.flow_and_check-check.ensures.planned found.0 found.1)

pub audit_row-requires-clause-alphabet : goal.audit_row-requires-clause-alphabet
audit_row-requires-clause-alphabet c =
    let found = row_there c.args.certificate.now c.args.number c.requires.number in
    let is = c.row_at-row.ensures found.0 found.1 in
    is.names

pub audit_row-requires-clause-classes : goal.audit_row-requires-clause-classes
audit_row-requires-clause-classes c =
    let found = row_there c.args.certificate.now c.args.number c.requires.number in
    classes_listed (subject_of c.args.inputs.now) c.args.planning.now.rows.items c.args.certificate.now c.args.number found.0 found.1
    c.row_at-row.result (c.row_at-row.ensures found.0 found.1) c.requires.subject

pub audit_row-requires-clause-located : goal.audit_row-requires-clause-located
audit_row-requires-clause-located c =
    let found = row_there c.args.certificate.now c.args.number c.requires.number in
    pair_located (subject_of c.args.inputs.now) c.args.planning.now.rows.items c.args.certificate.now c.args.number found.0 found.1
    c.row_at-row.result (c.row_at-row.ensures found.0 found.1) c.requires.subject

blocks_are : (c : After-as_slice) (row : ListedRow) → slice_get c.args.certificate.now c.args.number ≡ Some row → map (λ x. x.now) c.as_slice.result.now ≡ row.complements
blocks_are c row at =
    let now : Bor (List Step) → List Step = λ x. x.now in
    let complements_of : ListedRow → List (List Step) = λ x. x.complements in
    ap (map now) c.as_slice.ensures.value
    ∙ sym (map_at complements_of c.args.certificate.now c.args.number row (map now c.in_ok-complements.complements.items) at c.in_ok-complements.ensures)

images_are : (c : After-as_slice) (row : ListedRow) → slice_get c.args.certificate.now c.args.number ≡ Some row → c.images-images.result.now ≡ row.images
images_are c row at =
    let images_of : ListedRow → List Step = λ x. x.images in
    sym (map_at images_of c.args.certificate.now c.args.number row c.images-images.result.now at c.images-images.ensures)

pub audit_row-requires-clause-complements : goal.audit_row-requires-clause-complements
audit_row-requires-clause-complements c =
    let found = row_there c.args.certificate.now c.args.number c.requires.number in
    complements_are_blocks (subject_of c.args.inputs.now) c.args.planning.now.rows.items c.args.certificate.now c.args.number found.0 found.1
    c.row_at-row.result (c.row_at-row.ensures found.0 found.1) c.as_slice.result.now
    (blocks_are (goal.at.audit_row-requires-clause-complements c).After-as_slice found.0 found.1)

pub audit_row-requires-clause-images : goal.audit_row-requires-clause-images
audit_row-requires-clause-images c =
    let found = row_there c.args.certificate.now c.args.number c.requires.number in
    images_are_block (subject_of c.args.inputs.now) c.args.planning.now.rows.items c.args.certificate.now c.args.number found.0 found.1
    c.row_at-row.result (c.row_at-row.ensures found.0 found.1) c.images-images.result.now
    (images_are (goal.at.audit_row-requires-clause-images c).After-as_slice found.0 found.1)

-- how many complement blocks there are
counted : (c : After-len) (row : ListedRow) → slice_get c.args.certificate.now c.args.number ≡ Some row → c.len.result ≡ length row.complements
counted c row at =
    let now : Bor (List Step) → List Step = λ x. x.now in
    let blocks = c.as_slice.result.now in
    let are = blocks_are (goal.at.answer_to-requires-clause-block c).After-as_slice row at in
    let same : length blocks ≡ length row.complements = sym (length-map blocks now) ∙ ap (λ (bs : List (List Step)). length bs) are in
    omega (arith, same, c.len.ensures, c.as_slice.ensures.len)

-- what the judgement says of a row at this place
judged : (c : After-len) (row : ListedRow) (at : slice_get c.args.certificate.now c.args.number ≡ Some row)
    → JudgesHere (subject_of c.args.inputs.now) c.args.planning.now.rows.items c.args.certificate.now c.args.number row at
    c.row_at-row.result (c.row_at-row.ensures row at) c.in_ok-judgement.judgement
judged c row at =
    let here = (goal.at.answer_to-requires-clause-block c).After-as_slice in
    judged_here (subject_of c.args.inputs.now) c.args.planning.now.rows.items c.args.certificate.now c.args.number row at c.row_at-row.result (c.row_at-row.ensures row at)
    c.as_slice.result.now (blocks_are here row at) c.images-images.result.now (images_are here row at)
    c.in_ok-judgement.judgement c.in_ok-judgement.ensures.judged

pub answer_to-requires-clause-blocks : goal.answer_to-requires-clause-blocks
answer_to-requires-clause-blocks c k below =
    let found = row_there c.args.certificate.now c.args.number c.requires.number in
    let count = counted (goal.at.answer_to-requires-clause-blocks c).After-len found.0 found.1 in
    blocks_there c.args.certificate.now c.args.number found.0 (λ i. c.listed_blocks.ensures c.args.certificate.now c.args.number i found.0 found.1) k (omega (arith, count))

pub answer_to-requires-clause-block : goal.answer_to-requires-clause-block
answer_to-requires-clause-block c k is =
    let found = row_there c.args.certificate.now c.args.number c.requires.number in
    let here = (goal.at.answer_to-requires-clause-block c).After-len in
    let below = open_below (subject_of c.args.inputs.now) c.args.planning.now.rows.items c.args.certificate.now c.args.number found.0 found.1
    c.row_at-row.result (c.row_at-row.ensures found.0 found.1) c.in_ok-judgement.judgement (judged here found.0 found.1) k is in
    omega (arith, below, counted here found.0 found.1)

pub returns-clause-met : goal.returns-clause-met
returns-clause-met c =
    let s = subject_of c.args.inputs.now in
    let planned = c.args.planning.now.rows.items in
    let here = (goal.at.returns-clause-met c).After-len in
    if_none_each (λ row. slice_get c.args.certificate.now c.args.number ≡ Some row) (IsMet s planned) c.answer_to.result
    (λ row at. subst (λ (o : Option Audit). IfNone o (IsMet s planned row)) (sym c.answer_to.ensures)
    (met_here s planned c.args.certificate.now c.args.number row at c.row_at-row.result (c.row_at-row.ensures row at)
    c.len.result (counted here row at) c.in_ok-judgement.judgement (judged here row at)))

pub returns-clause-answer : goal.returns-clause-answer
returns-clause-answer c =
    let found = row_there c.args.certificate.now c.args.number c.requires.number in
    let s = subject_of c.args.inputs.now in
    let planned = c.args.planning.now.rows.items in
    let here = (goal.at.returns-clause-answer c).After-len in
    subst (λ (o : Option Audit). IfSome o (Finds s planned 4000000 c.args.certificate.now)) (sym c.answer_to.ensures)
    (answer_here s planned c.args.certificate.now c.args.number found.0 found.1 c.row_at-row.result (c.row_at-row.ensures found.0 found.1)
    c.len.result (counted here found.0 found.1) c.in_ok-judgement.judgement (judged here found.0 found.1))
