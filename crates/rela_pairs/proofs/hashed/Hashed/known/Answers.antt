use Rattle.std.proofs.Common.{◌≡◌, List, Some, subst}
use Rattle.std.specs.Prelude.{IfSome}
use Rattle.std.specs.List.{slice_get}
use Rattle.rela_pairs.specs.declared.pair.Pair.{Pair}
use Rattle.rela_pairs.proofs.Distinct.{pair_at}
use Rattle.rela_pairs.proofs.hashed.Hashed.known.Goals as goal

pub returns-clause-numbered : goal.returns-clause-numbered
returns-clause-numbered c =
    subst (λ (l : List Pair). IfSome c.get_index_of.result (λ n. slice_get l n ≡ Some c.args.pair)) c.self.view_is
    (pair_at c.self.inside.found.keys c.args.pair c.get_index_of.result c.get_index_of.ensures.index)
