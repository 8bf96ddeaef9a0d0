use Rattle.rela_reduce.specs.Stored.{lists_of}
use Rattle.rela_reduce.proofs.Numbering.{plain_of}
use Rattle.rela_reduce.proofs.numbered.with_numbers.Goals as goal

pub returns-clause-plain : goal.returns-clause-plain
returns-clause-plain g c =
    plain_of c.args.a.now c.start.ensures.automaton c.arrows_of.new.labels (lists_of c.in_ok-arrows.arrows.items) c.len.result c.start.result c.in_ok-finals.finals.items
    c.in_ok-arrows.ensures.edges c.in_ok-arrows.ensures.known c.len.ensures c.start.ensures.state c.in_ok-finals.ensures
