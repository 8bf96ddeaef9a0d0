use Rattle.rela_rows.proofs.Shared.{verdicts_none}
use Rattle.rela_rows.proofs.sharing.Kept.new.Goals as goal

pub returns : goal.returns
returns c = λ compiled pairs. record {
  verdicts = verdicts_none c.args.alphabet.now compiled pairs c.new.result c.new.ensures.empty;
  by_shape = c.in_ok-new.ensures compiled pairs;
}
