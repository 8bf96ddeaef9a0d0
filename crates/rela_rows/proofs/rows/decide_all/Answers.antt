use Rattle.rela_rows.proofs.rows.decide_all.Goals as goal

pub decide_each-requires-clause-kept : goal.decide_each-requires-clause-kept
decide_each-requires-clause-kept c = c.in_ok-kept.ensures c.args.judges.now.compiled.now c.args.pairs.now
