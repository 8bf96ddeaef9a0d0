use Rattle.std.proofs.Common.{[], arith}
use Rattle.rela_rows.specs.Sharing.{IsRowBy}
use Rattle.rela_rows.proofs.Judging.{written_next}
use Rattle.rela_rows.proofs.rows.write_each.Goals as goal

pub loop-row-init : goal.loop-row-init
loop-row-init c = record {
  rows = ([], tt, c.new-writer.ensures c.args.alphabet.now);
  kept = c.requires.kept;
}

pub loop-row-preserved : goal.loop-row-preserved
loop-row-preserved c = record {
  rows =
      written_next (IsRowBy c.args.alphabet.now c.args.judges.now.checks.now c.args.judges.now.compiled.now c.args.pairs.now) c.args.alphabet.now
      c.args.planned.now c.loop-row.writer _ c.loop-row.row-index _ (omega arith) c.loop-row.invariant.rows c.in_ok-write_row.ensures.row;
  kept = c.in_ok-write_row.ensures.kept;
}
