use Rattle.std.proofs.Common.{sym}
use Rattle.rela_plan.proofs.Looks.{own_look, number_found, numbers_more}
use Rattle.rela_plan.proofs.alike.number_of.Goals as goal

pub returns-in-Some-clause-number : goal.returns-in-Some-clause-number
returns-in-Some-clause-number c =
    number_found c.args.level c.args.pairs.now c.args.numbers.now c.args.n c.in-Some.number.now (c.at.result, c.at-2.result) c.requires.numbered
    (own_look c.args.level c.args.pairs.now c.args.n c.index-pairs-n.result c.at.result c.at-2.result c.requires.flow c.index-pairs-n.is
    c.at.ensures c.at-2.ensures) (sym c.in-Some.ensures.value)

pub returns-clause-numbered : goal.returns-clause-numbered
returns-clause-numbered c =
    numbers_more c.args.level c.args.pairs.now c.args.numbers.now c.insert.new.self c.args.n (c.at.result, c.at-2.result) c.requires.numbered
    (own_look c.args.level c.args.pairs.now c.args.n c.index-pairs-n.result c.at.result c.at-2.result c.requires.flow c.index-pairs-n.is
    c.at.ensures c.at-2.ensures) c.in_ok-insert.ensures.updates.0
