use Rattle.std.proofs.Common.{Ok}
use Rattle.rela_inputs.proofs.PairLaws.{pairs_same}
use Rattle.rela_inputs.proofs.TextLaws.{flows_same}
use Rattle.rela_inputs.proofs.TreeLaws.{asks_alone}
use Rattle.rela_inputs.proofs.laws.loads_are_the_same.Goals as goal

pub returns : goal.returns
returns c = record {
  flows = flows_same;
  pairs = pairs_same;
  specified = λ network tree specified other one two. asks_alone network tree specified one (Ok other) two;
}
