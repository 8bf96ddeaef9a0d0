use Rattle.std.proofs.Common.{get_or, length}
use Rattle.std.proofs.lemmas.Option.{slice_get-get_or}
use Rattle.rela_cert.specs.Inputs.{subject_of}
use Rattle.rela_cert.specs.Sharing.{HoldsOf, IsFoundFor}
use Rattle.rela_cert.specs.Subject.{flow_of}
use Rattle.rela_cert.proofs.Options.{ok_weaker}
use Rattle.rela_cert.proofs.SharedRows.{located_at, searched}
use Rattle.rela_cert.proofs.found_rows.find_row.Goals as goal

pub returns : goal.returns
returns c =
    let s = subject_of c.args.inputs.now in
    let n = length s.names in
    let pair = get_or s.pairs c.args.flow c.index-inputs-flow.result in
    let check = get_or s.checks c.args.check c.index-inputs-check.result in
    ok_weaker (λ found. IsFoundFor n c.args.states found check (flow_of s pair check)) (λ found. HoldsOf s c.args.flow c.args.check (IsFoundFor n c.args.states found)) c.certified_row.result
    (λ found is. (
      pair,
      check,
      slice_get-get_or s.pairs c.args.flow c.index-inputs-flow.result c.requires.flow,
      slice_get-get_or s.checks c.args.check c.index-inputs-check.result c.requires.check,
      is,
    ))
    (searched n c.args.states check (flow_of s pair check) c.certified_row.result c.certified_row.ensures.shape c.certified_row.ensures.met c.certified_row.ensures.made c.certified_row.ensures.excused)

pub certified_row-requires-clause-located : goal.certified_row-requires-clause-located
certified_row-requires-clause-located c =
    let s = subject_of c.args.inputs.now in
    located_at s c.args.flow c.args.check (get_or s.pairs c.args.flow c.index-inputs-flow.result) (get_or s.checks c.args.check c.index-inputs-check.result)
    (slice_get-get_or s.pairs c.args.flow c.index-inputs-flow.result c.requires.flow)
    (slice_get-get_or s.checks c.args.check c.index-inputs-check.result c.requires.check) c.requires.subject
