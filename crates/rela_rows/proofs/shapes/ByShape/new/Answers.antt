use Rattle.rela_rows.proofs.OneShape.{shapes_none}
use Rattle.rela_rows.proofs.shapes.ByShape.new.Goals as goal

pub returns : goal.returns
returns c = λ compiled pairs. record {
  met = shapes_none c.args.alphabet.now compiled c.new.result c.new.ensures.empty;
  decider = c.in_ok-new.ensures pairs;
}
