use Rattle.rela_engine.proofs.by_automata.row_over.Goals as goal

pub returns-in-Some-clause-row : goal.returns-in-Some-clause-row
returns-in-Some-clause-row g c = c.in_ok-row.ensures.row c.in-Some.row c.in-Some.is
