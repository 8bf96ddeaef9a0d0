use Rattle.std.proofs.Common.{List, Bool, if◌then◌else◌, Option, None, Some, sym, ap}
use Rattle.std.proofs.lemmas.Bool.{both_ways}
use Rattle.rela_trans.proofs.SharedLetters.{none_in, some_in}
use Rattle.rela_trans.proofs.joint.unless_empty.Goals as goal

pub returns-then-is_empty : goal.returns-then-is_empty
returns-then-is_empty g c =
    let set = g.L.LabelSet.letters c.args.set in
    let some : Option (List Bool) = Some set in
    sym (ap (λ b. if b then some else None) (none_in set (c.is_empty.ensures.0 c.if-is_empty.true)))

pub returns-else-is_empty : goal.returns-else-is_empty
returns-else-is_empty g c =
    let set = g.L.LabelSet.letters c.args.set in
    let some : Option (List Bool) = Some set in
    sym (ap (λ b. if b then some else None) (some_in set (λ none. both_ways c.is_empty.result c.if-is_empty.false (c.is_empty.ensures.1 none))))
