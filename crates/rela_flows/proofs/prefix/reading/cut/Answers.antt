use Rattle.std.proofs.Common.{rules}
use Rattle.std.proofs.lemmas.List.{take_rest}
use Rattle.rela_flows.proofs.Parts.{splits_at, splits_none}
use Rattle.rela_flows.proofs.prefix.reading.cut.Goals as goal

pub returns-in-Some : goal.returns-in-Some
returns-in-Some c =
    rw take_rest (splits_at c.args.separator c.args.text.now c.in-Some.i (search rules) (search rules) (search rules))

pub returns-in-None : goal.returns-in-None
returns-in-None c = splits_none c.args.separator c.args.text.now (search rules)
