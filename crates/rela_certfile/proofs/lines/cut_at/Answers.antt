use Rattle.std.proofs.Common.{rules, add-one}
use Rattle.std.proofs.lemmas.List.{take_rest}
use Rattle.std.proofs.lemmas.List.Elements.{recursion_from_All}
use Rattle.rela_certfile.proofs.Cuts.{cut_is}
use Rattle.rela_certfile.proofs.lines.cut_at.Goals as goal

pub returns-in-Some : goal.returns-in-Some
returns-in-Some c =
    rw (take_rest, add-one) (cut_is c.args.byte c.args.text.now c.in-Some.at (search rules) (search rules) (search rules))

pub returns-in-None : goal.returns-in-None
returns-in-None c = recursion_from_All _ c.args.text.now (search rules)
