use Rattle.std.proofs.Common.{List, subst}
use Rattle.rela_pairs.proofs.Distinct.{pair_found, pairs_distinct}
use Rattle.rela_pairs.specs.declared.pair.Pair.{Pair}
use Rattle.rela_pairs.specs.Finding.{Finds}
use Rattle.rela_pairs.proofs.hashed.Hashed.number.Goals as goal

pub invariant_of-self-2 : goal.invariant_of-self-2
invariant_of-self-2 c = pairs_distinct c.self.inside.found.keys c.insert_full.new.self.keys c.args.pair c.self.invariant c.in_ok-number.ensures.keys

pub returns-clause-finds : goal.returns-clause-finds
returns-clause-finds c =
    subst (λ (l : List Pair). Finds l c.insert_full.new.self.keys c.args.pair) c.self.view_is
    (pair_found c.self.inside.found.keys c.insert_full.new.self.keys c.args.pair c.in_ok-number.ensures.keys)
