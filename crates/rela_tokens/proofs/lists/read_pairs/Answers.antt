use Rattle.rela_tokens.proofs.lists.read_pairs.Goals as goal

pub returns-clause-pairs : goal.returns-clause-pairs
returns-clause-pairs c = c.in_ok-pairs.ensures.pairs _ c.in_ok-first.ensures.pair
