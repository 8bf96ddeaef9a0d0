use Rattle.rela_rows.proofs.Shared.{verdict_there}
use Rattle.rela_rows.proofs.sharing.share_verdicts.Goals as goal

pub returns : goal.returns
returns c =
    verdict_there c.args.alphabet.now c.args.by.now c.args.pair.now c.args.other.now c.level-level.result c.level-level.ensures
    (record {
      paths = c.same_outline_same_paths.ensures;
      arrives = c.same_outline_same_arrivals.ensures.arrives;
      undelivered = c.same_outline_same_arrivals.ensures.undelivered;
    })
    (record {
      paths = c.same_outline_same_paths-2.ensures;
      arrives = c.same_outline_same_arrivals-2.ensures.arrives;
      undelivered = c.same_outline_same_arrivals-2.ensures.undelivered;
    })
    c.carry_over.ensures
