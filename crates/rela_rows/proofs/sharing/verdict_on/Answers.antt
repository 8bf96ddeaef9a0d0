use Rattle.std.proofs.Common.{sym, subst}
use Rattle.rela_report.specs.declared.rows.Row.{Row}
use Rattle.rela_rows.proofs.Shared.{verdicts_more}
use Rattle.rela_rows.specs.Sharing.{IsVerdictOf}
use Rattle.rela_rows.proofs.sharing.verdict_on.Goals as goal

pub returns-clause-verdict : goal.returns-clause-verdict
returns-clause-verdict c = c.in_ok-row.ensures.verdict

pub returns-clause-kept : goal.returns-clause-kept
returns-clause-kept c = record {
  verdicts =
      verdicts_more c.args.alphabet.now c.args.compiled.now c.args.pairs.now c.args.kept.now.verdicts c.insert.new.self c.args.flow c.args.check
      c.in_ok-copy.field-0 c.requires.kept.verdicts
      (subst (λ (row : Row). IsVerdictOf c.args.alphabet.now c.args.compiled.now c.args.pairs.now c.args.flow c.args.check row)
      (sym c.in_ok-copy.ensures) c.in_ok-row.ensures.verdict) c.in_ok-insert.ensures.updates.0;
  by_shape = c.in_ok-row.ensures.kept;
}
