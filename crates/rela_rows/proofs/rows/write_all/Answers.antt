use Rattle.rela_rows.proofs.rows.write_all.Goals as goal

pub write_each-requires-clause-kept : goal.write_each-requires-clause-kept
write_each-requires-clause-kept c = c.in_ok-kept.ensures c.args.judges.now.compiled.now c.args.pairs.now
