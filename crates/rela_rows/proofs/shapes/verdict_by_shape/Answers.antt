use Rattle.std.proofs.Common.{refl, sym, subst}
use Rattle.std.proofs.lemmas.Result.{IfOk-weaker}
use Rattle.rela_report.specs.declared.rows.Row.{Row}
use Rattle.rela_rows.proofs.OneShape.{met_at, shapes_more}
use Rattle.rela_rows.proofs.RowLaws.{all_located, located_at}
use Rattle.rela_rows.proofs.Shared.{decided_of, verdict_of_check, verdict_on_flow}
use Rattle.rela_rows.specs.Sharing.{IsVerdict, IsVerdictOf, IsVerdictOn}
use Rattle.rela_rows.proofs.shapes.verdict_by_shape.Goals as goal

pub verdict-requires-clause-located : goal.verdict-requires-clause-located
verdict-requires-clause-located c =
    all_located c.args.alphabet.now c.args.pairs.now c.args.compiled.now c.args.check c.index-compiled-check.result c.requires.located c.requires.check
    c.index-compiled-check.is

pub verdict-requires-2-clause-located : goal.verdict-requires-2-clause-located
verdict-requires-2-clause-located c =
    all_located c.args.alphabet.now c.args.pairs.now c.args.compiled.now c.args.check c.index-compiled-check.result c.requires.located c.requires.check
    c.index-compiled-check.is

pub shape_under-requires-clause-located : goal.shape_under-requires-clause-located
shape_under-requires-clause-located c =
    located_at c.args.alphabet.now c.args.pairs.now c.args.compiled.now c.args.flow c.args.check c.index-pairs-flow.result c.index-compiled-check.result
    c.requires.located c.requires.flow c.requires.check c.index-pairs-flow.is c.index-compiled-check.is

pub share_compliance-requires-clause-located : goal.share_compliance-requires-clause-located
share_compliance-requires-clause-located c =
    located_at c.args.alphabet.now c.args.pairs.now c.args.compiled.now c.args.flow c.args.check c.index-pairs-flow.result c.index-compiled-check.result
    c.requires.located c.requires.flow c.requires.check c.index-pairs-flow.is c.index-compiled-check.is

pub returns-then-not-complete-clause-verdict : goal.returns-then-not-complete-clause-verdict
returns-then-not-complete-clause-verdict c =
    let names = c.args.alphabet.now in
    let pairs = c.args.pairs.now in
    let compiled = c.args.compiled.now in
    let by = c.index-compiled-check.result in
    IfOk-weaker c.verdict.result (IsVerdictOn names by pairs c.args.flow) (IsVerdictOf names compiled pairs c.args.flow c.args.check)
    (λ row verdict. verdict_of_check names pairs compiled c.args.flow c.args.check c.index-pairs-flow.result by row c.requires.flow c.requires.check
    c.index-pairs-flow.is c.index-compiled-check.is verdict)
    c.verdict.ensures.verdict

pub returns-then-contains-clause-verdict : goal.returns-then-contains-clause-verdict
returns-then-contains-clause-verdict c =
    let by = c.index-compiled-check.result in
    let shape = c.in_ok-shape.shape in
    let known =
    met_at c.args.alphabet.now c.args.compiled.now c.args.kept.now.met c.args.check shape by c.requires.kept.met c.requires.check c.index-compiled-check.is (sym c.if-contains.ensures) in
    decided_of c.args.alphabet.now c.args.pairs.now c.args.compiled.now c.args.flow c.args.check c.index-pairs-flow.result by
    _ c.requires.flow c.requires.check c.index-pairs-flow.is c.index-compiled-check.is (c.share_compliance.ensures known)

pub returns-then-not-is_kept-clause-verdict : goal.returns-then-not-is_kept-clause-verdict
returns-then-not-is_kept-clause-verdict c =
    verdict_of_check c.args.alphabet.now c.args.pairs.now c.args.compiled.now c.args.flow c.args.check c.index-pairs-flow.result c.index-compiled-check.result
    c.in_ok-row.row c.requires.flow c.requires.check c.index-pairs-flow.is c.index-compiled-check.is c.in_ok-row.ensures.verdict

pub returns-clause-verdict : goal.returns-clause-verdict
returns-clause-verdict c =
    verdict_of_check c.args.alphabet.now c.args.pairs.now c.args.compiled.now c.args.flow c.args.check c.index-pairs-flow.result c.index-compiled-check.result
    c.in_ok-row.row c.requires.flow c.requires.check c.index-pairs-flow.is c.index-compiled-check.is c.in_ok-row.ensures.verdict

pub returns-clause-kept : goal.returns-clause-kept
returns-clause-kept c =
    let names = c.args.alphabet.now in
    let pair = c.index-pairs-flow.result in
    let by = c.index-compiled-check.result in
    let verdict : IsVerdict names by pair c.in_ok-row.row =
    verdict_on_flow names c.args.pairs.now c.args.flow pair by c.in_ok-row.row c.requires.flow c.index-pairs-flow.is c.in_ok-row.ensures.verdict in
    record {
      met =
          shapes_more names c.args.compiled.now c.args.kept.now.met c.insert.new.self c.args.check c.in_ok-shape.shape by pair c.requires.kept.met
          c.requires.check c.index-compiled-check.is
          (located_at names c.args.pairs.now c.args.compiled.now c.args.flow c.args.check pair by c.requires.located c.requires.flow
          c.requires.check c.index-pairs-flow.is c.index-compiled-check.is)
          c.in_ok-shape.ensures (subst (λ (row : Row). IsVerdict names by pair row) (c.if-not-is_kept.ensures refl) verdict)
          c.in_ok-insert.ensures.updates.0;
      decider = c.in_ok-row.ensures.decider;
    }
